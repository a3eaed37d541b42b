-- A collection begins: its destination is held, and a page of the victim isn't mapped.
use Rattle.std.proofs.Common.{◌≡◌, ◌≢◌, ◌<◌, ◌≤◌, ◌+◌, ◌*◌, ◌/◌, ◌%◌, ℕ, zero, suc, Bool, true, false, eqb, ltb, [], Option, Some, None, inl, inr, refl, sym, ap, subst, ◌∙◌, arith}
use Rattle.std.specs.Prelude.{count_by, ◌⊎◌, ◌&&◌}
use Rattle.std.proofs.lemmas.Bool.{
  and_from,
  and_parts,
  and_right,
  both_ways,
  cases_lt,
  eq-eqb,
  eqb-true,
  lt-ltb,
  ltb-true,
  ne_eqb,
}
use Rattle.ff_base.specs.declared.numbers.Block.{Block}
use Rattle.ff_base.specs.declared.numbers.PageNo.{PageNo}
use Rattle.ff_space.proofs.Changed.{block_at-changed_at}
use Rattle.ff_space.specs.Blocks.{IsBlockSound, StateFits, after_hold}
use Rattle.ff_space.specs.BlockTable.{IsInState, IsBlockTableSound, block_at}
use Rattle.ff_space.specs.declared.block.BlockEntry.{BlockEntry}
use Rattle.ff_space.specs.declared.block.BlockState.TheVariants.{Erased, Full, Held, Waiting}
use Rattle.ff_map.specs.PageMap.{PageMapView, mapping_of}
use Rattle.ff_map.specs.declared.places.Mapping.{Mapping}
use Rattle.ff_gc.proofs.Counting.{count_apart, count_none}
use Rattle.ff_gc.proofs.Keeping.{ready_changed}
use Rattle.ff_gc.proofs.Numbers.{block_of_place, place_from, rest_of_place}
use Rattle.ff_gc.proofs.PageCopies.{at_phase}
use Rattle.ff_gc.proofs.Tables.{KeepsPages, none_after, only_changed, state_after, tabled_changed}
use Rattle.ff_gc.specs.Running.{HasStale}
use Rattle.ff_map.specs.MappedPages.{is_in, mapped_in}
use Rattle.ff_gc.specs.Steps.{begun_with, job_of}
use Rattle.ff_gc.specs.World.{IsCollectorReady, World}
use Rattle.ff_gc.specs.declared.phase.Phase.TheVariants.{Idle, Reading}

-- a mapping is one of the first pages of a block, or is the next one
abbrev is_among : ℕ → ℕ → ℕ → Option Mapping → Bool
is_among per block n None = false
is_among per block n (Some m) = eqb (m.at.0 / per) block && ltb (m.at.0 % per) n

abbrev is_next : ℕ → ℕ → ℕ → Option Mapping → Bool
is_next per block n None = false
is_next per block n (Some m) = eqb (m.at.0 / per) block && eqb (m.at.0 % per) n

among_more : (per block n : ℕ) (x : Option Mapping) → is_among per block n x ≡ true
    → (is_among per block (suc n) x ≡ true) × (is_next per block n x ≡ false)
among_more per block n None is = cc
among_more per block n (Some m) is =
    let parts = and_parts (eqb (m.at.0 / per) block) (ltb (m.at.0 % per) n) is in
    let below = ltb-true (m.at.0 % per) n parts.1 in (
      and_from (eqb (m.at.0 / per) block) (ltb (m.at.0 % per) (suc n)) parts.0
          (lt-ltb (m.at.0 % per) (suc n) (omega arith)),
      and_right (eqb (m.at.0 / per) block) (eqb (m.at.0 % per) n)
          (ne_eqb (m.at.0 % per) n (λ same. absurd (omega arith))),
    )

next_among : (per block n : ℕ) (x : Option Mapping) → is_next per block n x ≡ true
    → is_among per block (suc n) x ≡ true
next_among per block n None is = cc
next_among per block n (Some m) is =
    let parts = and_parts (eqb (m.at.0 / per) block) (eqb (m.at.0 % per) n) is in
    let here = eqb-true (m.at.0 % per) n parts.1 in
    and_from (eqb (m.at.0 / per) block) (ltb (m.at.0 % per) (suc n)) parts.0
    (lt-ltb (m.at.0 % per) (suc n) (omega arith))

among_in : (per block n : ℕ) (x : Option Mapping) → is_among per block n x ≡ true
    → (is_in per block x ≡ true) × (false ≡ false)
among_in per block n None is = cc
among_in per block n (Some m) is =
    ((and_parts (eqb (m.at.0 / per) block) (ltb (m.at.0 % per) n) is).0, refl)

-- a page of the block that isn't mapped
record HasUnmapped (per block n : ℕ) (places : PageMapView) : Type 0 where
  pub place : ℕ
  pub small : place < n
  pub unmapped : (page : PageNo) (m : Mapping) → mapping_of places page ≡ Some m
      → m.at.0 ≢ block * per + place

-- of the first pages of the block one isn't mapped, or as many are counted
find_unmapped : (per block n : ℕ) (places : PageMapView) → n ≤ per
    → HasUnmapped per block n places
    ⊎ (n ≤ count_by (λ (x : Option Mapping). is_among per block n x) places.pages)
find_unmapped per block zero places most = inr (omega arith)
find_unmapped per block (suc n) places most = elim (find_unmapped per block n places (omega arith)) [
  | inl found ↦
      inl record { place = found.place; small = (let small = found.small in omega arith); unmapped = found.unmapped }
  | inr counted ↦
      elim (cases_lt 0 (count_by (λ (x : Option Mapping). is_next per block n x) places.pages)) [
        | inl some ↦
            let more = count_apart (λ (x : Option Mapping). is_among per block n x)
            (λ (x : Option Mapping). is_next per block n x) (λ (x : Option Mapping). is_among per block (suc n) x)
            places.pages (among_more per block n) (next_among per block n) in
            inr (omega arith)
        | inr none ↦ inl record {
          place = n;
          small = omega arith;
          unmapped = λ page m is same.
              (let fails = count_none (λ (x : Option Mapping). is_next per block n x) places.pages page.0 None
              (omega arith) refl in
              let lies : m.at.0 / per ≡ block = ap (λ a. a / per) same ∙ block_of_place per block n (omega arith) in
              let rest : m.at.0 % per ≡ n = ap (λ a. a % per) same ∙ rest_of_place per block n (omega arith) in
              let passes : is_next per block n (mapping_of places page) ≡ true =
              ap (λ (x : Option Mapping). is_next per block n x) is
              ∙ and_from (eqb (m.at.0 / per) block) (eqb (m.at.0 % per) n) (eq-eqb (m.at.0 / per) block lies)
              (eq-eqb (m.at.0 % per) n rest) in
              both_ways (is_next per block n (mapping_of places page)) fails passes);
        }
      ]
]

-- a block with fewer mapped pages than pages has one that isn't mapped
stale_of : (per : ℕ) (places : PageMapView) (victim into : Block) → mapped_in per places victim.0 < per
    → HasStale per [] places (job_of victim into)
stale_of per places victim into fewer = elim (find_unmapped per victim.0 per places (omega arith)) [
  | inl found ↦ record {
    place = found.place;
    small = found.small;
    unmapped = found.unmapped;
    few = omega arith;
    fewer = λ below. absurd (omega arith);
  }
  | inr counted ↦
      let most = count_apart (λ (x : Option Mapping). is_among per victim.0 per x) (λ (x : Option Mapping). false)
      (λ (x : Option Mapping). is_in per victim.0 x) places.pages (among_in per victim.0 per) (λ x is. cc) in
      absurd (omega arith)
]

-- an erased block has its write place at its first page
pub erased_next : (per : ℕ) (entry : BlockEntry) → IsBlockSound per entry → entry.state ≡ Erased
    → entry.next ≡ 0
erased_next per entry sound is = subst (λ s. StateFits per s entry.next entry.mapped) is sound.fits

pub begun_ready : (w : World) (victim into : Block) → IsBlockTableSound w.table → IsCollectorReady w
    → w.gc.phase ≡ Idle → IsInState w.table.blocks Full victim.0
    → IsInState w.table.blocks Erased into.0 → (block_at w.table victim.0).mapped < w.gc.per_block
    → IsCollectorReady (begun_with w (job_of victim into))
begun_ready w victim into sound ready phase full blank fewer =
    let per = w.gc.per_block in
    let change = after_hold w.table.per_block true in
    let idle = at_phase w Idle ready phase in
    let entry = block_at w.table into.0 in
    let next = erased_next w.table.per_block entry (sound.each into.0 blank.in_range) blank.state in
    let few = (sound.each into.0 blank.in_range).mapped in
    let counted = ready.live.tabled.counted victim.0 full.in_range in
    let apart : victim.0 ≢ into.0 = λ same.
    (let states : Full ≡ Erased = sym full.state ∙ ap (λ n. (block_at w.table n).state) same ∙ blank.state in cc) in
    let keeps : KeepsPages entry (change entry) = record {
      mapped = refl;
      was = λ _ waits. (let states : Erased ≡ Waiting = sym blank.state ∙ waits in cc);
      next = λ _. omega arith;
    } in
    ready_changed w (record w.gc { phase = Reading (job_of victim into); moves = [] }) into.0 change refl ready
    record {
      tabled = tabled_changed per w.table into.0 change w.flash.cells w.places blank.in_range keeps ready.live.tabled;
      phase = record {
        copying = record {
          blocks = record {
            full = state_after w.table into.0 change Full victim.0 apart full;
            held = only_changed w.table into.0 change Held blank.in_range refl
                (λ other is. absurd (idle.none_held other is));
            none_waits = none_after w.table into.0 change Waiting idle.none_waits (λ same. cc);
            unmapped = ap (λ (e : BlockEntry). e.mapped) (block_at-changed_at w.table into.0 change blank.in_range)
                ∙ omega arith;
          };
          copies = record {
            copies = λ k d within. absurd (omega arith);
            pages_apart = λ i j d before within. absurd (omega arith);
            places_apart = λ i j d before within. absurd (omega arith);
            copied = λ page m is lies below.
                (let from = place_from per m.at.0 victim.0 lies in absurd (omega arith));
          };
          seen = omega arith;
          room = omega arith;
        };
        stale = stale_of per w.places victim into (omega arith);
      };
    }
