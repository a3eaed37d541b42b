-- What each call leaves, by what it made.
use Rattle.std.proofs.Common.{◌≡◌, ◌≢◌, ◌<◌, ◌≤◌, ◌/◌, ℕ, true, false, List, length, Option, None, Some, inl, inr, refl, sym, ap, subst, ◌∙◌, arith}
use Rattle.std.specs.Prelude.{◌⊎◌, Result, Ok, Err, IfErr, IfOk}
use Rattle.std.proofs.lemmas.List.{length-set}
use Rattle.ff_base.specs.declared.numbers.PageNo.{PageNo}
use Rattle.ff_base.specs.declared.numbers.Ppn.{Ppn}
use Rattle.ff_flash.proofs.OperationCells.{program_worked, seal_elsewhere, seal_worked}
use Rattle.ff_flash.proofs.SealedCells.{closed_unsealed, closed_within, sealed_within}
use Rattle.ff_flash.specs.Cells.{Cell, IsSealed, cell_at, cell_bytes, sealed}
use Rattle.ff_flash.specs.Injected.{stop_of}
use Rattle.ff_flash.specs.declared.flash.FlashStop.{FlashStop}
use Rattle.ff_flash.specs.declared.flash.FlashStop.TheVariants.{Failed, Off}
use Rattle.ff_space.proofs.Changed.{length-changed_at}
use Rattle.ff_space.specs.Blocks.{advanced}
use Rattle.ff_space.specs.BlockTable.{IsBlockTableSound, BlockTableView}
use Rattle.ff_space.specs.Choices.{IsAllMapped, IsNoPlace}
use Rattle.ff_map.proofs.Lookups.{mapped_at, mapping_of-with_mapping, mapping_of-with_mapping_other}
use Rattle.ff_map.specs.PageMap.{PageMapView, mapping_of, place_of, version_of}
use Rattle.ff_map.specs.declared.places.Mapping.{Mapping}
use Rattle.ff_gc.proofs.Retaining.{bytes_retained, cell_at-set, mapped_apart, retains_programmed}
use Rattle.ff_gc.proofs.Stepping.{steps_kept}
use Rattle.ff_gc.specs.Collector.{is_busy}
use Rattle.ff_gc.specs.Running.{IsAt}
use Rattle.ff_gc.specs.Steps.{IsStep, IsStepAt, empty, full, idle, made, mapped, none, operation_of, programs, reads}
use Rattle.ff_gc.specs.World.{World, mapped_bytes, page_bytes}
use Rattle.ff_gc.specs.declared.collector.GcStep.{GcStep}
use Rattle.ff_gc.specs.declared.collector.GcStep.TheVariants.{Idle as IdleStep, Read as ReadStep, Programmed as ProgrammedStep, Sealed as SealedStep, Committed, Erased, Aborted}
use Rattle.ff_gc.specs.declared.counts.OperationKind.TheVariants.{Program, Read, Seal}
use Rattle.ff_gc.specs.declared.phase.Phase.{Phase}
use Rattle.ff_gc.specs.declared.phase.Phase.TheVariants.{Idle, Programming, Reading, Sealing, Commit, Erasing, Aborting}
use Rattle.ff_store.proofs.Basics.{collected_call, collected_same, ready_in}
use Rattle.ff_store.proofs.Targets.{target_of}
use Rattle.ff_store.proofs.Pigeons.{has_victim}
use Rattle.ff_store.proofs.Remaining.{left_falls}
use Rattle.ff_store.proofs.Settled.{old_within}
use Rattle.ff_store.proofs.Settling.{pending_in, placed_counted}
use Rattle.ff_store.specs.Calls.{CollectsFor, CollectsNow, Fetches, Flushes, IsCall, IsPlaced, IsProgrammed, MatchSealed, ProgramsPage, SameBytes, SealsPage, collected, collects_flush, new_mapping, opened_block, pending_at, places_after_seal, programs_flush, table_after_flush, table_after_seal}
use Rattle.ff_store.specs.Left.{left_of}
use Rattle.ff_store.specs.PageStore.{IsStoreSound, PageStoreView, spare_of}
use Rattle.ff_store.specs.Pages.{mapped_count, mapped_with, page_capacity}
use Rattle.ff_store.specs.declared.pending.Pending.{Pending}
use Rattle.ff_store.specs.declared.store.FlushStep.{FlushStep}
use Rattle.ff_store.specs.declared.store.FlushStep.TheVariants.{Collected, Programmed}

-- a mapped page is at a place of the flash
pub place_within : (s : PageStoreView) (page : PageNo) (at : Ppn) → IsStoreSound s → place_of s.world.places page ≡ Some at
    → at.0 < length s.world.flash.cells
place_within s page at sound is =
    let found = mapped_at s.world.places page at is in
    sealed_within s.world.flash.cells at.0 _ _ (sound.always.safe.mapped.placed page _ found.is)

-- which is sealed
pub place_sealed : (s : PageStoreView) (page : PageNo) (at : Ppn) → IsStoreSound s → place_of s.world.places page ≡ Some at
    → IsSealed (cell_at s.world.flash.cells at.0)
place_sealed s page at sound is =
    let found = mapped_at s.world.places page at is in
    subst (λ (cell : Cell). IsSealed cell) (sym (sound.always.safe.mapped.placed page _ found.is)) tt

pub fetched_bytes : (s new : PageStoreView) (page : PageNo) (at : Ppn) (before after : List ℕ)
    (result : Result (Unit {0}) FlashStop) → place_of s.world.places page ≡ Some at → Fetches s at before result after new
    → IfOk result (λ _. after ≡ page_bytes s.world page)
fetched_bytes s new page at before after (Ok done) is r =
    let found = mapped_at s.world.places page at is in
    r.cells.0 ∙ ap (λ (m : Option Mapping). mapped_bytes s.world.flash.cells m) (sym found.is)
fetched_bytes s new page at before after (Err stop) is r = tt

pub fetched_kept : (s new : PageStoreView) (at : Ppn) (before after : List ℕ) (result : Result (Unit {0}) FlashStop)
    → Fetches s at before result after new → IfErr result (λ _. after ≡ before)
fetched_kept s new at before after (Ok done) r = tt
fetched_kept s new at before after (Err stop) r = r.cells.0

pub fetched_call : (s new : PageStoreView) (at : Ppn) (before after : List ℕ) (result : Result (Unit {0}) FlashStop)
    → Fetches s at before result after new → IsCall s (stop_of result) new
fetched_call s new at before after result r = record {
  same = record {
    blocks = ap (λ (x : PageStoreView). length x.world.table.blocks) r.store;
    per_block = ap (λ (x : PageStoreView). x.world.gc.per_block) r.store;
    pages = ap (λ (x : PageStoreView). length x.world.places.pages) r.store;
    plan = r.operation.flash.same.plan;
    making = r.operation.flash.same.making;
    low = ap (λ (x : PageStoreView). x.low) r.store;
    opened = ap (λ (x : PageStoreView). x.opened) r.store;
  };
  takes = made Read r.operation;
}

flushed_size : (table : BlockTableView) (block : ℕ) (result : Result FlushStep FlashStop)
    → length (table_after_flush table block result).blocks ≡ length table.blocks
flushed_size table block (Ok step) = length-changed_at table block (λ entry. advanced table.per_block (opened_block entry))
flushed_size table block (Err Failed) = length-changed_at table block (λ entry. advanced table.per_block (opened_block entry))
flushed_size table block (Err Off) = refl

pub programmed_call : (s new : PageStoreView) (page : PageNo) (bytes : List ℕ) (result : Result FlushStep FlashStop)
    → ProgramsPage s page bytes result new → IsCall s (stop_of result) new
programmed_call s new page bytes result r = record {
  same = record {
    blocks = ap (λ (x : PageStoreView). length x.world.table.blocks) r.store ∙ flushed_size s.world.table r.block result;
    per_block = ap (λ (x : PageStoreView). x.world.gc.per_block) r.store;
    pages = ap (λ (x : PageStoreView). length x.world.places.pages) r.store;
    plan = r.operation.flash.same.plan;
    making = r.operation.flash.same.making;
    low = ap (λ (x : PageStoreView). x.low) r.store;
    opened = ap (λ (x : PageStoreView). x.opened) r.store;
  };
  takes = made Program r.operation;
}

-- a program changes no page's bytes
pub programmed_same : (s new : PageStoreView) (page : PageNo) (bytes : List ℕ) (result : Result FlushStep FlashStop)
    → IsStoreSound s → s.world.flash.on ≡ true → IsBlockTableSound s.world.table → ProgramsPage s page bytes result new
    → SameBytes s new
programmed_same s new page bytes result sound on table r =
    let ready = ready_in s sound on in
    let t = target_of s.world r.block r.at.0 table ready r.place in
    let retained = retains_programmed s.world.flash.cells new.world.flash.cells r.at.0 bytes
    (spare_of (pending_at page r.at s.world.places)) (operation_of result) s.world.places t.blank ready.safe.mapped r.cells in
    record {
      bytes = λ q.
          ap (λ (x : PageStoreView). mapped_bytes new.world.flash.cells (mapping_of x.world.places q)) r.store
          ∙ bytes_retained s.world.places s.world.flash.cells new.world.flash.cells retained q (mapping_of s.world.places q) refl;
      versions = λ q. ap (λ (x : PageStoreView). version_of x.world.places q) r.store;
    }

pub programmed_is : (s new : PageStoreView) (page : PageNo) (bytes : List ℕ) (result : Result FlushStep FlashStop)
    → IsStoreSound s → s.world.flash.on ≡ true → IsBlockTableSound s.world.table → ProgramsPage s page bytes result new
    → ◌≡◌ {A = Result FlushStep FlashStop} result (Ok Programmed) → IsProgrammed new page bytes
programmed_is s new page bytes (Ok step) sound on table r is =
    let ready = ready_in s sound on in
    let t = target_of s.world r.block r.at.0 table ready r.place in
    record {
      pending = pending_at page r.at s.world.places;
      is = ap (λ (x : PageStoreView). x.waits) r.store;
      page_is = refl;
      cell = program_worked s.world.flash.cells r.at.0 bytes (spare_of (pending_at page r.at s.world.places))
          new.world.flash.cells t.within r.cells;
    }
programmed_is s new page bytes (Err stop) sound on table r is = absurd (cc)

settled_size : (s : PageStoreView) (p : Pending) (result : Result FlushStep FlashStop) → IsStoreSound s
    → s.world.flash.on ≡ true → s.waits ≡ Some p
    → length (table_after_seal s p result).blocks ≡ length s.world.table.blocks
settled_size s p (Ok step) sound on waits =
    (placed_counted s.world.gc.per_block s.world.table (mapping_of s.world.places p.page) (p.at.0 / s.world.gc.per_block)
    (old_within s p sound on) (pending_in s p sound on waits).block).size
settled_size s p (Err stop) sound on waits = refl

map_size : (s : PageStoreView) (p : Pending) (result : Result FlushStep FlashStop)
    → length (places_after_seal s p result).pages ≡ length s.world.places.pages
map_size s p (Ok step) = length-set s.world.places.pages p.page.0 (Some (new_mapping p))
map_size s p (Err stop) = refl

pub sealed_call : (s new : PageStoreView) (p : Pending) (result : Result FlushStep FlashStop) → IsStoreSound s
    → s.world.flash.on ≡ true → SealsPage s p result new → IsCall s (stop_of result) new
sealed_call s new p result sound on r = record {
  same = record {
    blocks = ap (λ (x : PageStoreView). length x.world.table.blocks) r.store ∙ settled_size s p result sound on r.waited;
    per_block = ap (λ (x : PageStoreView). x.world.gc.per_block) r.store;
    pages = ap (λ (x : PageStoreView). length x.world.places.pages) r.store ∙ map_size s p result;
    plan = r.operation.flash.same.plan;
    making = r.operation.flash.same.making;
    low = ap (λ (x : PageStoreView). x.low) r.store;
    opened = ap (λ (x : PageStoreView). x.opened) r.store;
  };
  takes = made Seal r.operation;
}

-- another page's bytes stay over a seal
other_bytes : (s new : PageStoreView) (p : Pending) (result : Result FlushStep FlashStop) → IsStoreSound s
    → s.world.flash.on ≡ true → SealsPage s p result new → (page : PageNo) (o : Option Mapping)
    → mapping_of s.world.places page ≡ o
    → mapped_bytes new.world.flash.cells o ≡ mapped_bytes s.world.flash.cells o
other_bytes s new p result sound on r page None is = refl
other_bytes s new p result sound on r page (Some m) is =
    let w = pending_in s p sound on r.waited in
    let unsealed = closed_unsealed (cell_at s.world.flash.cells p.at.0) w.bytes (spare_of p) w.cell in
    let apart = mapped_apart s.world.flash.cells p.at.0 s.world.places unsealed (sound.running on).mapped page m is in
    ap cell_bytes
    (seal_elsewhere s.world.flash.cells p.at.0 (operation_of result) new.world.flash.cells m.at.0 r.cells apart)

pub sealed_stopped : (s new : PageStoreView) (p : Pending) (result : Result FlushStep FlashStop) → IsStoreSound s
    → s.world.flash.on ≡ true → SealsPage s p result new → IfErr result (λ stop. SameBytes s new)
sealed_stopped s new p (Ok step) sound on r = tt
sealed_stopped s new p (Err stop) sound on r = record {
  bytes = λ q.
      ap (λ (x : PageStoreView). mapped_bytes new.world.flash.cells (mapping_of x.world.places q)) r.store
      ∙ other_bytes s new p (Err stop) sound on r q (mapping_of s.world.places q) refl;
  versions = λ q. ap (λ (x : PageStoreView). version_of x.world.places q) r.store;
}

placed_is : (s new : PageStoreView) (p : Pending) (step : FlushStep) → IsStoreSound s → s.world.flash.on ≡ true
    → SealsPage s p (Ok step) new → IsPlaced s p.page new
placed_is s new p step sound on r =
    let w = pending_in s p sound on r.waited in
    let cells = s.world.flash.cells in
    let page = sound.always.in_range p r.waited in
    let places : new.world.places ≡ places_after_seal s p (Ok step) = ap (λ (x : PageStoreView). x.world.places) r.store in
    let own = mapping_of-with_mapping s.world.places p.page (new_mapping p) page in
    let now = seal_worked cells p.at.0 w.bytes (spare_of p) new.world.flash.cells w.cell r.cells in
    let cell = cell_at-set cells p.at.0 (sealed w.bytes (spare_of p)) (closed_within cells p.at.0 w.bytes (spare_of p) w.cell) in
    record {
      pending = p;
      waited = r.waited;
      page_is = refl;
      places = places;
      bytes =
          ap (λ (q : PageMapView). mapped_bytes new.world.flash.cells (mapping_of q p.page)) places
          ∙ ap (λ (o : Option Mapping). mapped_bytes new.world.flash.cells o) own
          ∙ ap (λ (c : List Cell). cell_bytes (cell_at c p.at.0)) now
          ∙ ap cell_bytes cell
          ∙ sym (ap cell_bytes w.cell);
      others = λ other apart.
          ap (λ (q : PageMapView). mapped_bytes new.world.flash.cells (mapping_of q other)) places
          ∙ ap (λ (o : Option Mapping). mapped_bytes new.world.flash.cells o)
          (mapping_of-with_mapping_other s.world.places p.page (new_mapping p) other apart)
          ∙ other_bytes s new p (Ok step) sound on r other (mapping_of s.world.places other) refl;
      done = ap (λ (x : PageStoreView). x.waits) r.store;
    }

pub sealed_placed : (s new : PageStoreView) (p : Pending) (result : Result FlushStep FlashStop) → IsStoreSound s
    → s.world.flash.on ≡ true → SealsPage s p result new → IfOk result (λ step. MatchSealed s step new)
sealed_placed s new p (Ok step) sound on r =
    subst (λ (x : FlushStep). MatchSealed s x new) (sym r.step) (placed_is s new p step sound on r)
sealed_placed s new p (Err stop) sound on r = tt

-- a collector that did nothing had nothing to do
idle_at : (phase : Phase) (old new : World) → IsStepAt phase old (Ok IdleStep) new → (phase ≡ Idle) × IsAllMapped old.table
idle_at Idle old new (idle all is same) = (refl, all)
idle_at Idle old new (empty victim v unmapped r) = (let e : IdleStep ≡ Erased = r.step in absurd (cc))
idle_at Idle old new (mapped victim into v some least (reads original next r)) =
    (let e : IdleStep ≡ ReadStep = r.step in absurd (cc))
idle_at Idle old new (mapped victim into v some least (none all r)) =
    (let e : ◌≡◌ {A = Result GcStep FlashStop} (Ok IdleStep) (Ok Committed) = r.step in absurd (cc))
idle_at (Reading job) old new (reads original next r) = (let e : IdleStep ≡ ReadStep = r.step in absurd (cc))
idle_at (Reading job) old new (none all r) =
    (let e : ◌≡◌ {A = Result GcStep FlashStop} (Ok IdleStep) (Ok Committed) = r.step in absurd (cc))
idle_at (Programming job original) old new (programs small r) =
    (let e : IdleStep ≡ ProgrammedStep = r.step in absurd (cc))
idle_at (Programming job original) old new (full whole r) = (let e : IdleStep ≡ Aborted = r.step in absurd (cc))
idle_at (Sealing job original at) old new r = (let e : IdleStep ≡ SealedStep = r.step in absurd (cc))
idle_at (Commit job) old new r =
    (let e : ◌≡◌ {A = Result GcStep FlashStop} (Ok IdleStep) (Ok Committed) = r.step in absurd (cc))
idle_at (Erasing block) old new r = (let e : IdleStep ≡ Erased = r.step in absurd (cc))
idle_at (Aborting block) old new r = (let e : IdleStep ≡ Aborted = r.step in absurd (cc))

busy_not_idle : (phase : Phase) → is_busy phase ≡ true → phase ≢ Idle
busy_not_idle phase busy same = (let e : false ≡ true = sym (ap is_busy same) ∙ busy in absurd (cc))

-- why a flush collects
why_collects : (s : PageStoreView) → IsStoreSound s → CollectsNow s
    → (is_busy s.world.gc.phase ≡ true) ⊎ IsNoPlace s.world.table
why_collects s sound (inl owed) = inl (sound.owed owed)
why_collects s sound (inr nowhere) = inr nowhere

-- a flush that collects has a block to collect
pub not_idle : (s : PageStoreView) (new : World) → IsStoreSound s → s.world.flash.on ≡ true → IsBlockTableSound s.world.table
    → mapped_count s.world.places ≤ page_capacity s.world
    → (is_busy s.world.gc.phase ≡ true) ⊎ IsNoPlace s.world.table → IsStep s.world (Ok IdleStep) new → ⊥
not_idle s new sound on table room (inl busy) step =
    busy_not_idle s.world.gc.phase busy (idle_at s.world.gc.phase s.world new step).0
not_idle s new sound on table room (inr nowhere) step =
    let is = idle_at s.world.gc.phase s.world new step in
    let live = (sound.running on).live in
    let at = subst (λ q. IsAt s.world.gc s.world.flash.cells s.world.table s.world.places q) is.0 live.phase in
    has_victim s.world.gc.per_block s.world.table s.world.places sound.fits.table sound.fits.some
    (let low = table.count.low in omega arith) live.tabled.counted at room nowhere is.1

-- a collection step of a flush that worked leaves fewer of them
left_step : (s : PageStoreView) (new : World) (step : Result GcStep FlashStop) → IsStoreSound s → s.world.flash.on ≡ true
    → IsBlockTableSound s.world.table → mapped_count s.world.places ≤ page_capacity s.world
    → (is_busy s.world.gc.phase ≡ true) ⊎ IsNoPlace s.world.table → IsStep s.world step new
    → ◌≡◌ {A = Result FlushStep FlashStop} (collected step) (Ok Collected) → left_of new < left_of s.world
left_step s new (Ok step) sound on table room why r is =
    let ready = ready_in s sound on in
    let keeps = steps_kept s.world new (Ok step) table ready r in
    left_falls s.world new step table ready why
    (λ same. not_idle s new sound on table room why (subst (λ (x : GcStep). IsStep s.world (Ok x) new) same r))
    r keeps.same.per_block
left_step s new (Err stop) sound on table room why r is = absurd (cc)

pub left_collects : (s new : PageStoreView) (result : Result FlushStep FlashStop) → IsStoreSound s
    → s.world.flash.on ≡ true → IsBlockTableSound s.world.table → mapped_count s.world.places ≤ page_capacity s.world
    → CollectsNow s → CollectsFor s result new → ◌≡◌ {A = Result FlushStep FlashStop} result (Ok Collected)
    → left_of new.world < left_of s.world
left_collects s new result sound on table room now r is =
    left_step s new.world r.step sound on table room (why_collects s sound now) r.collects.world (sym r.answer ∙ is)

stop_collected : (step : Result GcStep FlashStop) → stop_of (collected step) ≡ stop_of step
stop_collected (Ok step) = refl
stop_collected (Err stop) = refl

collects_call : (s new : PageStoreView) (result : Result FlushStep FlashStop) → IsStoreSound s → s.world.flash.on ≡ true
    → IsBlockTableSound s.world.table → CollectsFor s result new → IsCall s (stop_of result) new
collects_call s new result sound on table r =
    let stops : stop_of r.step ≡ stop_of result =
    sym (stop_collected r.step) ∙ sym (ap (λ (x : Result FlushStep FlashStop). stop_of x) r.answer) in
    subst (λ (x : Option FlashStop). IsCall s x new) stops (collected_call s new true r.step sound on table r.collects)

pub flushes_call : (s new : PageStoreView) (page : PageNo) (bytes : List ℕ) (result : Result FlushStep FlashStop)
    → IsStoreSound s → s.world.flash.on ≡ true → IsBlockTableSound s.world.table → Flushes s page bytes result new
    → IsCall s (stop_of result) new
flushes_call s new page bytes result sound on table (programs_flush not_now r) = programmed_call s new page bytes result r
flushes_call s new page bytes result sound on table (collects_flush now r) = collects_call s new result sound on table r

pub flushes_same : (s new : PageStoreView) (page : PageNo) (bytes : List ℕ) (result : Result FlushStep FlashStop)
    → IsStoreSound s → s.world.flash.on ≡ true → IsBlockTableSound s.world.table → Flushes s page bytes result new
    → SameBytes s new
flushes_same s new page bytes result sound on table (programs_flush not_now r) =
    programmed_same s new page bytes result sound on table r
flushes_same s new page bytes result sound on table (collects_flush now r) =
    collected_same s new true r.step sound on table r.collects

collected_not : (step : Result GcStep FlashStop)
    → ◌≡◌ {A = Result FlushStep FlashStop} (collected step) (Ok Programmed) → ⊥
collected_not (Ok step) is = cc
collected_not (Err stop) is = cc

pub flushes_is : (s new : PageStoreView) (page : PageNo) (bytes : List ℕ) (result : Result FlushStep FlashStop)
    → IsStoreSound s → s.world.flash.on ≡ true → IsBlockTableSound s.world.table → Flushes s page bytes result new
    → ◌≡◌ {A = Result FlushStep FlashStop} result (Ok Programmed) → IsProgrammed new page bytes
flushes_is s new page bytes result sound on table (programs_flush not_now r) is =
    programmed_is s new page bytes result sound on table r is
flushes_is s new page bytes result sound on table (collects_flush now r) is =
    absurd (collected_not r.step (sym r.answer ∙ is))

programmed_none : (s new : PageStoreView) (page : PageNo) (bytes : List ℕ) (result : Result FlushStep FlashStop)
    → ProgramsPage s page bytes result new → (◌≡◌ {A = Result FlushStep FlashStop} result (Ok Programmed) → ⊥)
    → new.waits ≡ None
programmed_none s new page bytes (Ok step) r other = absurd (other (ap (λ (x : FlushStep). let o : Result FlushStep FlashStop = Ok x in o) r.step))
programmed_none s new page bytes (Err stop) r other = ap (λ (x : PageStoreView). x.waits) r.store

pub flushes_none : (s new : PageStoreView) (page : PageNo) (bytes : List ℕ) (result : Result FlushStep FlashStop)
    → s.waits ≡ None → Flushes s page bytes result new
    → (◌≡◌ {A = Result FlushStep FlashStop} result (Ok Programmed) → ⊥) → new.waits ≡ None
flushes_none s new page bytes result unwaited (programs_flush not_now r) other = programmed_none s new page bytes result r other
flushes_none s new page bytes result unwaited (collects_flush now r) other =
    ap (λ (x : PageStoreView). x.waits) r.collects.store ∙ unwaited

programmed_not : (s new : PageStoreView) (page : PageNo) (bytes : List ℕ) (result : Result FlushStep FlashStop)
    → ProgramsPage s page bytes result new → ◌≡◌ {A = Result FlushStep FlashStop} result (Ok Collected) → ⊥
programmed_not s new page bytes (Ok step) r is = (let e : step ≡ Programmed = r.step in cc)
programmed_not s new page bytes (Err stop) r is = cc

pub flushes_left : (s new : PageStoreView) (page : PageNo) (bytes : List ℕ) (result : Result FlushStep FlashStop)
    → IsStoreSound s → s.world.flash.on ≡ true → IsBlockTableSound s.world.table
    → mapped_with s.world.places page ≤ page_capacity s.world → Flushes s page bytes result new
    → ◌≡◌ {A = Result FlushStep FlashStop} result (Ok Collected) → left_of new.world < left_of s.world
flushes_left s new page bytes result sound on table room (programs_flush not_now r) is =
    absurd (programmed_not s new page bytes result r is)
flushes_left s new page bytes result sound on table room (collects_flush now r) is =
    left_collects s new result sound on table (omega arith) now r is
