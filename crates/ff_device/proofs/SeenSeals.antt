-- A seal of the flush that waits, as a device sees it.
use Rattle.std.proofs.Common.{◌≡◌, ◌<◌, ℕ, Bool, true, false, List, length, set, Option, None, Some, inl, inr, refl, sym, ap, ◌∙◌, length-set, get_or-set_same, get_or-set_other}
use Rattle.std.specs.Prelude.{Result, Ok, Err, IfErr, IfOk, IfSome, if◌then◌else◌, is_some, ◌==◌}
use Rattle.std.specs.Int.{bit_at}
use Rattle.std.proofs.Math.ListN.{get_or}
use Rattle.std.proofs.lemmas.Bool.{cases_Bool, cases_eq}
use Rattle.std.proofs.lemmas.List.{get_or-map, same_lists}
use Rattle.ff_base.specs.declared.numbers.PageNo.{PageNo}
use Rattle.ff_flash.proofs.SealedCells.{closed_within}
use Rattle.ff_flash.specs.Cells.{Cell, cell_after, cell_at, cell_bytes, closed, erased, seal, sealed, sealed_cell, spoiled}
use Rattle.ff_flash.specs.Injected.{stop_of}
use Rattle.ff_flash.specs.declared.flash.FlashStop.{FlashStop}
use Rattle.ff_flash.specs.declared.flash.FlashStop.TheVariants.{Failed, Off}
use Rattle.ff_flash.specs.declared.injected.Injected.TheVariants.{Cut}
use Rattle.ff_gc.proofs.Retaining.{cell_at-set}
use Rattle.ff_gc.specs.World.{mapped_bytes}
use Rattle.ff_map.specs.PageMap.{PageMapView}
use Rattle.ff_map.specs.declared.places.Mapping.{Mapping}
use Rattle.ff_store.proofs.Settling.{pending_in}
use Rattle.ff_store.specs.Calls.{IsPlaced, MatchSealed, SameBytes, SealsPage, new_mapping}
use Rattle.ff_store.specs.PageStore.{IsStoreSound, PageStoreView, spare_of}
use Rattle.ff_store.specs.declared.pending.Pending.{Pending}
use Rattle.ff_store.specs.declared.store.FlushStep.{FlushStep}
use Rattle.ff_store.specs.declared.store.FlushStep.TheVariants.{Collected, Programmed, Sealed}
use Rattle.ff_device.specs.StoreState.{bytes_at, flush_at, seen_of}
use Rattle.ff_device.specs.StoreSteps.{CallsOnce, SealsFlush, StoresPage}
use Rattle.ff_device.proofs.SeenPages.{length-pages, pages_same}
use Rattle.ff_device.proofs.StoreCalls.{as_many_pages}

-- the bytes of a page that stays where it was
bytes_kept : (old new : List Cell) (m : Option Mapping) → mapped_bytes new m ≡ mapped_bytes old m
    → bytes_at new m ≡ bytes_at old m
bytes_kept old new None same = refl
bytes_kept old new (Some m) same = ap (λ (b : List ℕ). Some b) same

-- the page that waited has its bytes, and the others have theirs
placed_pages : (old new : PageStoreView) (page : PageNo) → page.0 < length old.world.places.pages
    → (p : IsPlaced old page new)
    → (seen_of new).pages ≡ set (seen_of old).pages page.0 (Some (cell_bytes (cell_at old.world.flash.cells p.pending.at.0)))
placed_pages old new page within p =
    let bytes : List ℕ = cell_bytes (cell_at old.world.flash.cells p.pending.at.0) in
    let pages = old.world.places.pages in
    let there : new.world.places.pages ≡ set pages page.0 (Some (new_mapping p.pending)) =
    ap (λ (m : PageMapView). m.pages) p.places in
    let size : length new.world.places.pages ≡ length pages =
    ap length there ∙ length-set pages page.0 (Some (new_mapping p.pending)) in
    let own : bytes_at new.world.flash.cells (Some (new_mapping p.pending)) ≡ Some bytes =
    ap (λ (b : List ℕ). Some b)
    (sym (ap (λ (o : Option Mapping). mapped_bytes new.world.flash.cells o)
    (ap (λ (l : List (Option Mapping)). get_or l page.0 None) there
    ∙ get_or-set_same pages page.0 (Some (new_mapping p.pending)) None within))
    ∙ p.bytes) in
    same_lists (seen_of new).pages (set (seen_of old).pages page.0 (Some bytes))
    (length-pages new ∙ size ∙ sym (length-set (seen_of old).pages page.0 (Some bytes) ∙ length-pages old))
    (λ k d below.
    let inside : k < length new.world.places.pages = rw (← length-pages new) below in
    let before : k < length pages = rw (← size) inside in
    let mapped = get_or-map (λ (m : Option Mapping). bytes_at new.world.flash.cells m) new.world.places.pages k None d inside in
    elim (cases_eq k page.0) [
      | inl same ↦
          (mapped
          ∙ ap (λ (l : List (Option Mapping)). bytes_at new.world.flash.cells (get_or l k None)) there
          ∙ rw (
            same,
            get_or-set_same pages page.0 (Some (new_mapping p.pending)) None within,
            get_or-set_same (seen_of old).pages page.0 (Some bytes) d (rw (length-pages old) within),
          ) own)
      | inr apart ↦
          (let kept : get_or new.world.places.pages k None ≡ get_or pages k None =
          ap (λ (l : List (Option Mapping)). get_or l k None) there
          ∙ get_or-set_other pages page.0 k (Some (new_mapping p.pending)) None apart in
          let same : mapped_bytes new.world.flash.cells (get_or pages k None) ≡ mapped_bytes old.world.flash.cells (get_or pages k None) =
          sym (ap (λ (o : Option Mapping). mapped_bytes new.world.flash.cells o) kept) ∙ p.others (record { 0 = k }) apart in
          mapped
          ∙ ap (λ (o : Option Mapping). bytes_at new.world.flash.cells o) kept
          ∙ bytes_kept old.world.flash.cells new.world.flash.cells (get_or pages k None) same
          ∙ sym (get_or-map (λ (m : Option Mapping). bytes_at old.world.flash.cells m) pages k None d before)
          ∙ sym (get_or-set_other (seen_of old).pages page.0 k (Some bytes) d apart))
    ])

placed_stores : (old new : PageStoreView) (page : PageNo) → IsStoreSound old → IsPlaced old page new
    → StoresPage page.0 (seen_of old) (seen_of new)
placed_stores old new page sound p =
    let within : page.0 < length old.world.places.pages = rw (← p.page_is) (sound.always.in_range p.pending p.waited) in
    record {
      flush = record { page = p.pending.page.0; bytes = cell_bytes (cell_at old.world.flash.cells p.pending.at.0) };
      waited = ap (λ (waits : Option Pending). flush_at old.world.flash.cells waits) p.waited;
      page_is = ap (λ (q : PageNo). q.0) p.page_is;
      pages = placed_pages old new page within p;
      done = ap (λ (waits : Option Pending). flush_at new.world.flash.cells waits) p.done;
    }

sealed_bytes : (cell : Cell) → cell_bytes (sealed_cell cell) ≡ cell_bytes cell
sealed_bytes erased = refl
sealed_bytes spoiled = refl
sealed_bytes (closed bytes spare) = refl
sealed_bytes (sealed bytes spare) = refl

cut_by : (bit : Bool) (cell : Cell) → cell_bytes (if bit then sealed_cell cell else cell) ≡ cell_bytes cell
cut_by true cell = sealed_bytes cell
cut_by false cell = refl

-- a seal that is cut leaves the bytes that wait
cut_flush : (old new : PageStoreView) (p : Pending) → IsStoreSound old → old.world.flash.on ≡ true
    → SealsPage old p (Err Off) new → (seen_of new).pending ≡ (seen_of old).pending
cut_flush old new p sound on r =
    let w = pending_in old p sound on r.waited in
    let cells = old.world.flash.cells in
    let within = closed_within cells p.at.0 w.bytes (spare_of p) w.cell in
    let after = cell_after seal (Cut r.cells.0) (cell_at cells p.at.0) in
    let cell : cell_at new.world.flash.cells p.at.0 ≡ after =
    ap (λ (c : List Cell). cell_at c p.at.0) r.cells.1 ∙ cell_at-set cells p.at.0 after within in
    let bytes : cell_bytes (cell_at new.world.flash.cells p.at.0) ≡ cell_bytes (cell_at cells p.at.0) =
    ap cell_bytes cell ∙ cut_by (bit_at r.cells.0 0 == 1) (cell_at cells p.at.0) in
    ap (λ (s : PageStoreView). flush_at new.world.flash.cells s.waits) r.store
    ∙ ap (λ (b : List ℕ). Some (record { page = p.page.0; bytes = b })) bytes
    ∙ sym (ap (λ (waits : Option Pending). flush_at cells waits) r.waited)

failed_flush : (old new : PageStoreView) (p : Pending) → SealsPage old p (Err Failed) new → (seen_of new).pending ≡ None
failed_flush old new p r = ap (λ (s : PageStoreView). flush_at new.world.flash.cells s.waits) r.store

-- the flush that waits, by what was made of it
seals_by : (old new : PageStoreView) (result : Result FlushStep FlashStop) (waits : Option Pending) → is_some waits ≡ true
    → IfSome waits (λ p. SealsPage old p result new) → (p : Pending) × SealsPage old p result new
seals_by old new result None some seals = absurd (cc)
seals_by old new result (Some p) some seals = (p, seals)

pub sealed_seen : (old new : PageStoreView) (result : Result FlushStep FlashStop) → IsStoreSound old
    → is_some old.waits ≡ true
    → (old.world.flash.on ≡ false → (result ≡ Err Off) × (new ≡ old))
    → (old.world.flash.on ≡ true → IfSome old.waits (λ p. SealsPage old p result new))
    → IfOk result (λ step. MatchSealed old step new)
    → IfErr result (λ _. SameBytes old new)
    → CallsOnce old (stop_of result) new
    → SealsFlush result (seen_of old) (seen_of new)
sealed_seen old new (Ok (Sealed page)) sound some off step placed stopped calls = placed_stores old new page sound placed
sealed_seen old new (Ok Programmed) sound some off step placed stopped calls = absurd placed
sealed_seen old new (Ok Collected) sound some off step placed stopped calls = absurd placed
sealed_seen old new (Err Failed) sound some off step placed stopped calls = (
  pages_same old new (as_many_pages old new (Some Failed) calls) stopped,
  elim (cases_Bool old.world.flash.on) [
    | inl on ↦ (let found = seals_by old new (Err Failed) old.waits some (step on) in failed_flush old new found.0 found.1)
    | inr down ↦ (let e = (off down).0 in absurd (cc))
  ],
)
sealed_seen old new (Err Off) sound some off step placed stopped calls = (
  pages_same old new (as_many_pages old new (Some Off) calls) stopped,
  elim (cases_Bool old.world.flash.on) [
    | inl on ↦ (let found = seals_by old new (Err Off) old.waits some (step on) in cut_flush old new found.0 sound on found.1)
    | inr down ↦ ap (λ (s : PageStoreView). (seen_of s).pending) (off down).1
  ],
)
