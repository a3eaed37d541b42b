-- Where a page is programmed: an erased page of an open or erased block, beside which another block can be erased.
use Rattle.std.proofs.Common.{◌≡◌, ◌≢◌, ◌<◌, ◌≤◌, ◌+◌, ◌*◌, ◌/◌, ◌%◌, ℕ, suc, Bool, true, cond, List, [], ◌∷◌, length, get_or, set, inl, inr, refl, sym, ap, subst, ◌∙◌, arith}
use Rattle.std.specs.Prelude.{◌⊎◌, count_by}
use Rattle.std.proofs.lemmas.Bool.{both_ways, cases_Bool}
use Rattle.std.proofs.lemmas.List.{get_or-set_other, get_or-set_same, length-set}
use Rattle.ff_flash.specs.Cells.{Cell, cell_at, erased}
use Rattle.ff_space.specs.Blocks.{StateFits, erased_block, is_erased, waiting}
use Rattle.ff_space.specs.BlockTable.{IsInState, IsBlockTableSound, BlockTableView, block_at, erased_count}
use Rattle.ff_space.specs.declared.block.BlockEntry.{BlockEntry}
use Rattle.ff_space.specs.declared.block.BlockState.{BlockState}
use Rattle.ff_space.specs.declared.block.BlockState.TheVariants.{Erased, Full, Held, Open, Waiting}
use Rattle.ff_map.specs.PageMap.{PageMapView}
use Rattle.ff_gc.proofs.Begun.{erased_next}
use Rattle.ff_gc.proofs.Counting.{count_miss, count_set}
use Rattle.ff_gc.proofs.Emptied.{no_page_of}
use Rattle.ff_gc.proofs.Numbers.{block_of_place, place_within, rest_of_place}
use Rattle.ff_gc.proofs.PageCopies.{write_place_blank}
use Rattle.ff_gc.specs.Cells.{HasNoPage}
use Rattle.ff_gc.specs.Collector.{CollectorView}
use Rattle.ff_gc.specs.Running.{IsAt, IsTabled}
use Rattle.ff_gc.specs.World.{IsCollectorReady, World}
use Rattle.ff_gc.specs.declared.phase.Phase.{Phase}
use Rattle.ff_gc.specs.declared.phase.Phase.TheVariants.{Idle, Programming, Reading, Sealing, Commit, Erasing, Aborting}
use Rattle.ff_store.specs.Calls.{IsWritePlace}

pub record Found {X : Type 0} (p : X → Bool) (xs : List X) (d : X) : Type 0 where
  pub index : ℕ
  pub within : index < length xs
  pub passes : p (get_or xs index d) ≡ true

-- where some are counted, one passes
pub found_of : {X : Type 0} (p : X → Bool) (xs : List X) (d : X) → 0 < count_by p xs → Found p xs d
found_of p [] d some = absurd (omega arith)
found_of p (x ∷ xs) d some = elim (cases_Bool (p x)) [
  | inl hit ↦ record { index = 0; within = omega arith; passes = hit }
  | inr miss ↦
      let later = found_of p xs d (let same = count_miss p x xs miss in omega arith) in
      record { index = suc later.index; within = (let within = later.within in omega arith); passes = later.passes }
]

erased_of : (state : BlockState) → is_erased state ≡ true → state ≡ Erased
erased_of Erased is = refl
erased_of Open is = cc
erased_of Full is = cc
erased_of Held is = cc
erased_of Waiting is = cc

-- another erased block
pub record HasOtherErased (table : BlockTableView) (block : ℕ) : Type 0 where
  pub other : ℕ
  pub is : IsInState table.blocks Erased other
  pub apart : other ≢ block

two_erased : (table : BlockTableView) (block : ℕ) → block < length table.blocks → 2 ≤ erased_count table.blocks
    → HasOtherErased table block
two_erased table block within two =
    let out : BlockEntry = waiting erased_block in
    let p : BlockEntry → Bool = λ (e : BlockEntry). is_erased e.state in
    let change = count_set p table.blocks block out out within in
    let small : cond (p (get_or table.blocks block out)) 1 0 ≤ 1 = elim (cases_Bool (p (get_or table.blocks block out))) [
      | inl hit ↦ rw hit (omega arith)
      | inr miss ↦ rw miss (omega arith)
    ] in
    let found = found_of p (set table.blocks block out) out (omega arith) in
    let apart : found.index ≢ block = λ same.
    (let here : get_or (set table.blocks block out) found.index out ≡ out =
    ap (λ n. get_or (set table.blocks block out) n out) same ∙ get_or-set_same table.blocks block out out within in
    both_ways (p (get_or (set table.blocks block out) found.index out)) (ap p here) found.passes) in
    let stays : get_or (set table.blocks block out) found.index out ≡ get_or table.blocks found.index out =
    get_or-set_other table.blocks block found.index out out apart in
    record {
      other = found.index;
      is = record {
        in_range = subst (λ n. found.index < n) (length-set table.blocks block out) found.within;
        state = erased_of (block_at table found.index).state (sym (ap p stays) ∙ found.passes);
      };
      apart = apart;
    }

-- the block whose write place is programmed
pub record IsTarget (w : World) (block at : ℕ) : Type 0 where
  pub in_range : block < length w.table.blocks
  pub small : (block_at w.table block).next < w.gc.per_block
  pub few : (block_at w.table block).mapped ≤ (block_at w.table block).next
  pub not_held : (block_at w.table block).state ≢ Held
  pub not_waiting : (block_at w.table block).state ≢ Waiting
  pub not_full : (block_at w.table block).state ≢ Full
  pub other : w.gc.phase ≡ Idle → HasOtherErased w.table block
  pub lies : at / w.gc.per_block ≡ block
  pub rest : at % w.gc.per_block ≡ (block_at w.table block).next
  pub within : at < length w.flash.cells
  pub blank : cell_at w.flash.cells at ≡ erased

open_small : (per : ℕ) (entry : BlockEntry) → StateFits per entry.state entry.next entry.mapped → entry.state ≡ Open
    → entry.next < per
open_small per entry fits is = subst (λ s. StateFits per s entry.next entry.mapped) is fits

pub target_of : (w : World) (block at : ℕ) → IsBlockTableSound w.table → IsCollectorReady w → IsWritePlace w.table block at
    → IsTarget w block at
target_of w block at sound ready place =
    let per = w.gc.per_block in
    let table = ready.fits.table in
    let some = ready.fits.some in
    let entry = block_at w.table block in
    let states : ((IsInState w.table.blocks Open block) ⊎ (IsInState w.table.blocks Erased block)) =
    elim place.chosen [ inl least ↦ inl least.has | inr take ↦ inr take.least.has ] in
    let in_range : block < length w.table.blocks = elim states [ inl is ↦ is.in_range | inr is ↦ is.in_range ] in
    let small_own : entry.next < per = elim states [
      | inl is ↦ (let next = open_small w.table.per_block entry (sound.each block is.in_range).fits is.state in omega arith)
      | inr is ↦ (let next = erased_next w.table.per_block entry (sound.each block is.in_range) is.state in omega arith)
    ] in
    let not_held : entry.state ≢ Held = λ same. elim states [
      | inl is ↦ (let e : Open ≡ Held = sym is.state ∙ same in cc)
      | inr is ↦ (let e : Erased ≡ Held = sym is.state ∙ same in cc)
    ] in
    let not_waiting : entry.state ≢ Waiting = λ same. elim states [
      | inl is ↦ (let e : Open ≡ Waiting = sym is.state ∙ same in cc)
      | inr is ↦ (let e : Erased ≡ Waiting = sym is.state ∙ same in cc)
    ] in
    let at_is : at ≡ block * per + entry.next = place.at_is ∙ ap (λ p. block * p + entry.next) table in
    let below = place_within per block entry.next (length w.table.blocks) small_own in_range in
    let cells = ready.fits.cells in
    record {
      in_range = in_range;
      small = small_own;
      few = (sound.each block in_range).mapped;
      not_held = not_held;
      not_waiting = not_waiting;
      not_full = λ same. elim states [
        | inl is ↦ (let e : Open ≡ Full = sym is.state ∙ same in cc)
        | inr is ↦ (let e : Erased ≡ Full = sym is.state ∙ same in cc)
      ];
      other = λ idle. elim place.chosen [
        | inl least ↦
            let at_idle = subst (λ p. IsAt w.gc w.flash.cells w.table w.places p) idle ready.live.phase in
            record {
              other = at_idle.spare.block;
              is = at_idle.spare.is;
              apart = λ same.
                  (let e : Erased ≡ Open =
                  sym at_idle.spare.is.state ∙ ap (λ n. (block_at w.table n).state) same ∙ least.has.state in cc);
            }
        | inr take ↦ two_erased w.table block in_range take.spare
      ];
      lies = ap (λ a. a / per) at_is ∙ block_of_place per block entry.next small_own;
      rest = ap (λ a. a % per) at_is ∙ rest_of_place per block entry.next small_own;
      within = omega arith;
      blank = ap (λ a. cell_at w.flash.cells a) at_is
          ∙ write_place_blank per w.table w.flash.cells w.places block ready.live.tabled cells in_range small_own not_waiting;
    }

-- a block without pages beside this one
pub record HasFreeBeside (per : ℕ) (table : BlockTableView) (places : PageMapView) (block : ℕ) : Type 0 where
  pub free : ℕ
  pub in_range : free < length table.blocks
  pub unmapped : HasNoPage per places free
  pub apart : free ≢ block

beside_by : (per : ℕ) (table : BlockTableView) (cells : List Cell) (places : PageMapView) (block free : ℕ) (state : BlockState)
    → IsTabled per table cells places → IsInState table.blocks state free → (block_at table free).mapped ≡ 0
    → (block_at table block).state ≢ state → HasFreeBeside per table places block
beside_by per table cells places block free state t is empty other = record {
  free = free;
  in_range = is.in_range;
  unmapped = no_page_of per free places (sym (t.counted free is.in_range) ∙ empty);
  apart = λ same. other (ap (λ n. (block_at table n).state) (sym same) ∙ is.state);
}

pub free_beside : (gc : CollectorView) (table : BlockTableView) (cells : List Cell) (places : PageMapView) (block : ℕ) (phase : Phase)
    → IsBlockTableSound table → IsTabled gc.per_block table cells places → (block_at table block).state ≢ Held
    → (block_at table block).state ≢ Waiting → (phase ≡ Idle → HasOtherErased table block)
    → IsAt gc cells table places phase → HasFreeBeside gc.per_block table places block
free_beside gc table cells places block Idle sound t not_held not_waiting other at =
    let one = other refl in
    let entry = sound.each one.other one.is.in_range in
    let next = erased_next table.per_block (block_at table one.other) entry one.is.state in
    let few = entry.mapped in
    record {
      free = one.other;
      in_range = one.is.in_range;
      unmapped = no_page_of gc.per_block one.other places
          (sym (t.counted one.other one.is.in_range) ∙ (let none : (block_at table one.other).mapped ≡ 0 = omega arith in none));
      apart = one.apart;
    }
free_beside gc table cells places block (Reading job) sound t not_held not_waiting other at =
    beside_by gc.per_block table cells places block job.into.0 Held t at.copying.blocks.held.is at.copying.blocks.unmapped not_held
free_beside gc table cells places block (Programming job original) sound t not_held not_waiting other at =
    beside_by gc.per_block table cells places block job.into.0 Held t at.copying.blocks.held.is at.copying.blocks.unmapped not_held
free_beside gc table cells places block (Sealing job original place) sound t not_held not_waiting other at =
    let b = at.programming.copying.blocks in
    beside_by gc.per_block table cells places block job.into.0 Held t b.held.is b.unmapped not_held
free_beside gc table cells places block (Commit job) sound t not_held not_waiting other at =
    let b = at.reading.copying.blocks in
    beside_by gc.per_block table cells places block job.into.0 Held t b.held.is b.unmapped not_held
free_beside gc table cells places block (Erasing one) sound t not_held not_waiting other at =
    beside_by gc.per_block table cells places block one.0 Waiting t at.waits.is at.unmapped not_waiting
free_beside gc table cells places block (Aborting one) sound t not_held not_waiting other at =
    beside_by gc.per_block table cells places block one.0 Waiting t at.waits.is at.unmapped not_waiting
