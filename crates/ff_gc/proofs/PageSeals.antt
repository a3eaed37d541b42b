-- The copy of a page is sealed.
use Rattle.std.proofs.Common.{◌≡◌, ◌≢◌, ◌<◌, ◌≤◌, ◌+◌, ◌*◌, ◌/◌, ◌%◌, ℕ, List, [], ◌∷◌, ◌++◌, length, set, Some, None, inl, inr, refl, sym, ap, subst, ◌∙◌, arith}
use Rattle.std.specs.Prelude.{Any, Result, Ok, Err}
use Rattle.std.proofs.lemmas.Bool.{cases_lt}
use Rattle.std.proofs.lemmas.List.{get_or_append_left, length_push}
use Rattle.std.proofs.lemmas.List.Elements.{All-push}
use Rattle.std.proofs.lemmas.List.Quantifiers.{Any-push, all_pairs_push}
use Rattle.std.proofs.lemmas.Nat.{mod_below}
use Rattle.ff_base.specs.declared.numbers.Ppn.{Ppn}
use Rattle.ff_flash.proofs.OperationCells.{seal_failed, seal_worked}
use Rattle.ff_flash.proofs.SealedCells.{closed_unsealed, closed_within, sealed_apart, sealed_stays}
use Rattle.ff_flash.specs.Cells.{Cell, cell_at, closed, erased, sealed}
use Rattle.ff_flash.specs.declared.flash.FlashStop.{FlashStop}
use Rattle.ff_flash.specs.declared.flash.FlashStop.TheVariants.{Failed, Off}
use Rattle.ff_flash.specs.declared.spare.Spare.{Spare}
use Rattle.ff_space.specs.BlockTable.{BlockTableView}
use Rattle.ff_map.specs.PageMap.{PageMapView}
use Rattle.ff_map.specs.declared.places.Move.{Move}
use Rattle.ff_gc.proofs.Keeping.{not_off, operated}
use Rattle.ff_gc.proofs.Numbers.{place_is}
use Rattle.ff_gc.proofs.PageCopies.{KeepsSealed, at_phase, copies_kept}
use Rattle.ff_gc.proofs.Retaining.{cell_at-set, cell_at-set_other, retains_seals}
use Rattle.ff_gc.proofs.Tables.{tabled_cells}
use Rattle.ff_gc.specs.Cells.{AreMapped}
use Rattle.ff_gc.specs.Collector.{CollectorView}
use Rattle.ff_gc.specs.Originals.{IsAfter, move_to, past, spare_in}
use Rattle.ff_gc.specs.Running.{AreCopies, HasStale, HasStaleBeside, IsAt, IsCopy, IsLive, IsReading, IsSealing, IsTabled}
use Rattle.ff_gc.specs.Steps.{SealsCopy}
use Rattle.ff_gc.specs.World.{IsCollectorReady, Keeps, World}
use Rattle.ff_gc.specs.declared.collector.GcStep.{GcStep}
use Rattle.ff_gc.specs.declared.counts.OperationKind.TheVariants.{Seal}
use Rattle.ff_gc.specs.declared.phase.Job.{Job}
use Rattle.ff_gc.specs.declared.phase.Original.{Original}
use Rattle.ff_gc.specs.declared.phase.Phase.{Phase}
use Rattle.ff_gc.specs.declared.phase.Phase.TheVariants.{Idle, Programming, Reading, Sealing, Commit, Erasing, Aborting}

any_more : {X : Type 0} (P : X → Type 0) (xs : List X) (y : X) → Any P xs → Any P (xs ++ y ∷ [])
any_more P xs y found =
    let longer = length_push xs y in
    (found.0, found.1, omega (arith, found.2), get_or_append_left xs (y ∷ []) found.1 found.0 found.2 ∙ found.3, found.4)

-- what is seen grows
seen_more : (per from victim seen : ℕ) → from / per ≡ victim → victim * per + seen ≤ from → seen ≤ from % per
seen_more per from victim seen lies unseen = let is = place_is per from victim lies in omega arith

copy_past : (per : ℕ) (cells : List Cell) (places : PageMapView) (job : Job) (original : Original) (one : Move)
    → job.seen ≤ original.from.0 % per → IsCopy per cells places job one
    → IsCopy per cells places (past per job original) one
copy_past per cells places job original one more c = record {
  bytes = c.bytes;
  spare = c.spare;
  page = c.page;
  from = c.from;
  to = c.to;
  from_in = c.from_in;
  to_in = c.to_in;
  behind = (let behind = c.behind in omega arith);
  still = c.still;
}

same_spare : (x y : List ℕ) (one other : Spare) → sealed x one ≡ sealed y other → one ≡ other
same_spare x y one other same = cc

-- the copies with one more
copies_more : (per : ℕ) (moves : List Move) (bytes : List ℕ) (cells : List Cell) (table : BlockTableView)
    (places : PageMapView) (job : Job) (original : Original) (at : Ppn) → AreMapped None cells places
    → IsSealing per moves bytes cells table places job original at
    → AreCopies per (moves ++ move_to original at ∷ []) (set cells at.0 (sealed bytes (spare_in original))) places
    (past per job original)
copies_more per moves bytes cells table places job original at s sealing =
    let new : List Cell = set cells at.0 (sealed bytes (spare_in original)) in
    let hand = sealing.programming.hand in
    let c = sealing.programming.copying.copies in
    let closed_at = sealing.copy.cell in
    let unsealed = closed_unsealed (cell_at cells at.0) bytes (spare_in original) closed_at in
    let kept : KeepsSealed cells new = λ a x spare is.
    sealed_stays cells at.0 (sealed bytes (spare_in original)) a x spare unsealed is in
    let now = copies_kept per moves cells new places job kept c in
    let more = seen_more per original.from.0 job.victim.0 job.seen hand.from_in hand.unseen in
    let from_is = place_is per original.from.0 job.victim.0 hand.from_in in
    let one : IsCopy per new places (past per job original) (move_to original at) = record {
      bytes = bytes;
      spare = spare_in original;
      page = refl;
      from = kept original.from.0 bytes (spare_in original) hand.cell;
      to = cell_at-set cells at.0 (sealed bytes (spare_in original))
          (closed_within cells at.0 bytes (spare_in original) closed_at);
      from_in = hand.from_in;
      to_in = sealing.copy.at_in;
      behind = omega arith;
      still = hand.still;
    } in
    record {
      copies = All-push (λ m. IsCopy per new places (past per job original) m) moves (move_to original at)
          (λ k d within. copy_past per new places job original _ more (now.copies k d within)) one;
      pages_apart = all_pairs_push (λ (m o : Move). m.page.0 ≢ o.page.0) moves (move_to original at) c.pages_apart
          (λ k d within. hand.new k d within);
      places_apart = all_pairs_push (λ (m o : Move). m.to.0 ≢ o.to.0) moves (move_to original at) c.places_apart
          (λ k d within. (let before = c.copies k d within in
          sealed_apart cells at.0 _ before.bytes before.spare unsealed before.to));
      copied = λ page m is lies below. elim (cases_lt m.at.0 (job.victim.0 * per + job.seen)) [
        | inl before ↦
            any_more (λ (o : Move). o.page ≡ page) moves (move_to original at) (c.copied page m is lies before)
        | inr behind ↦
            let least = hand.next page m is lies behind in
            let there : m.at.0 ≡ original.from.0 = omega arith in
            let cells_same = sym (s.placed page m is) ∙ ap (λ a. cell_at cells a) there ∙ hand.cell in
            let spares = same_spare _ _ _ _ cells_same in
            Any-push (λ (o : Move). o.page ≡ page) moves (move_to original at) (sym (ap (λ (p : Spare). p.page) spares))
      ];
    }

-- the stale page with one more copy
stale_more : (per : ℕ) (moves : List Move) (places : PageMapView) (job : Job) (original : Original) (one : Move)
    → original.from.0 / per ≡ job.victim.0 → job.victim.0 * per + job.seen ≤ original.from.0
    → HasStaleBeside per moves places job original.from
    → HasStale per (moves ++ one ∷ []) places (past per job original)
stale_more per moves places job original one lies unseen stale =
    let more = seen_more per original.from.0 job.victim.0 job.seen lies unseen in
    let from_is = place_is per original.from.0 job.victim.0 lies in
    let longer = length_push moves one in
    let few = stale.few in
    let fresh = stale.fresh in
    record {
      place = stale.place;
      small = stale.small;
      unmapped = stale.unmapped;
      few = omega arith;
      fewer = λ below. elim (cases_lt stale.place job.seen) [
        | inl before ↦ (let fewer = stale.fewer before in omega arith)
        | inr behind ↦
            let other : stale.place ≢ original.from.0 % per = λ same. fresh (omega arith) in
            omega arith
      ];
    }

-- what is next in a collection that copies
at_after : (gc : CollectorView) (cells : List Cell) (table : BlockTableView) (places : PageMapView) (job : Job)
    (phase : Phase) → IsAfter gc.per_block places job phase
    → IsReading gc.per_block gc.moves cells table places job → IsAt gc cells table places phase
at_after gc cells table places job (Reading next) after reading =
    subst (λ j. IsReading gc.per_block gc.moves cells table places j) (sym after.0) reading
at_after gc cells table places job (Commit next) after reading = record {
  reading = subst (λ j. IsReading gc.per_block gc.moves cells table places j) (sym after.0) reading;
  all_seen = rw after.0 after.1;
}
at_after gc cells table places job Idle after reading = absurd after
at_after gc cells table places job (Programming next original) after reading = absurd after
at_after gc cells table places job (Sealing next original at) after reading = absurd after
at_after gc cells table places job (Erasing block) after reading = absurd after
at_after gc cells table places job (Aborting block) after reading = absurd after

-- a page that isn't erased is sealed
pub tabled_sealed : (per : ℕ) (table : BlockTableView) (cells : List Cell) (places : PageMapView) (at : ℕ) (bytes : List ℕ)
    (spare : Spare) (cell : Cell) → cell_at cells at ≡ closed bytes spare → length (set cells at cell) ≡ length cells
    → IsTabled per table cells places → IsTabled per table (set cells at cell) places
tabled_sealed per table cells places at bytes spare cell is size t =
    tabled_cells per table cells (set cells at cell) places size
    (λ a blank.
    (let apart : a ≢ at = λ same.
    (let e : erased ≡ closed bytes spare = sym blank ∙ ap (λ k. cell_at cells k) same ∙ is in cc) in
    cell_at-set_other cells at cell a apart ∙ blank))
    t

-- the collection after the seal of a copy
reading_after : (per : ℕ) (moves : List Move) (bytes : List ℕ) (cells : List Cell) (table : BlockTableView)
    (places : PageMapView) (job : Job) (original : Original) (at : Ppn) → 0 < per → AreMapped None cells places
    → IsSealing per moves bytes cells table places job original at
    → IsReading per (moves ++ move_to original at ∷ []) (set cells at.0 (sealed bytes (spare_in original))) table places
    (past per job original)
reading_after per moves bytes cells table places job original at some s sealing =
    let p = sealing.programming in
    let b = p.copying.blocks in
    let longer = length_push moves (move_to original at) in
    let room = sealing.copy.room in
    let small = mod_below original.from.0 per some in
    record {
      copying = record {
        blocks = record { full = b.full; held = b.held; none_waits = b.none_waits; unmapped = b.unmapped };
        copies = copies_more per moves bytes cells table places job original at s sealing;
        seen = omega arith;
        room = omega arith;
      };
      stale = stale_more per moves places job original (move_to original at) p.hand.from_in p.hand.unseen p.stale;
    }

-- the copy of a page is sealed
pub seals_kept : (old new : World) (job : Job) (original : Original) (at : Ppn)
    (result : Result GcStep FlashStop) → IsCollectorReady old → old.gc.phase ≡ Sealing job original at
    → SealsCopy old job original at result new → Keeps old new
seals_kept old new job original at (Ok step) ready phase r =
    let sealing = at_phase old (Sealing job original at) ready phase in
    let bytes = old.gc.bytes in
    let closed_at = sealing.copy.cell in
    let cells : List Cell = set old.flash.cells at.0 (sealed bytes (spare_in original)) in
    let now : new.flash.cells ≡ cells = seal_worked old.flash.cells at.0 bytes (spare_in original) new.flash.cells closed_at r.cells in
    let retained = retains_seals old.flash.cells new.flash.cells at.0 original.from.0 bytes (spare_in original) old.places
    (Ok tt) closed_at sealing.programming.hand.cell ready.safe.mapped r.cells in
    let size : length cells ≡ length old.flash.cells = sym (ap (λ (c : List Cell). length c) now) ∙ retained.size in
    let gc : CollectorView =
    record old.gc { phase = new.gc.phase; moves = old.gc.moves ++ move_to original at ∷ [] } in
    let live : IsLive gc cells old.table old.places = record {
      tabled = tabled_sealed old.gc.per_block old.table old.flash.cells old.places at.0 bytes (spare_in original)
          (sealed bytes (spare_in original)) closed_at size ready.live.tabled;
      phase = at_after gc cells old.table old.places (past old.gc.per_block job original) new.gc.phase r.gc.phase
          (reading_after old.gc.per_block old.gc.moves bytes old.flash.cells old.table old.places job original at
          ready.fits.some ready.safe.mapped sealing);
    } in
    operated old new Seal None ready retained r.operation (ap (λ (g : CollectorView). g.per_block) r.gc.gc)
    (ap (λ (t : BlockTableView). length t.blocks) r.table) (ap (λ (t : BlockTableView). t.per_block) r.table) r.places
    (λ on. subst (λ (g : CollectorView). IsLive g new.flash.cells new.table old.places) (sym r.gc.gc) (rw (now, r.table) live))
seals_kept old new job original at (Err Failed) ready phase r =
    let sealing = at_phase old (Sealing job original at) ready phase in
    let same : new.flash.cells ≡ old.flash.cells = seal_failed old.flash.cells at.0 new.flash.cells r.cells in
    let gc : CollectorView = record old.gc { phase = Programming job original } in
    let live : IsLive gc old.flash.cells old.table old.places =
    record { tabled = ready.live.tabled; phase = sealing.programming } in
    operated old new Seal (Some Failed) ready
    (retains_seals old.flash.cells new.flash.cells at.0 original.from.0 old.gc.bytes (spare_in original) old.places
    (Err Failed) sealing.copy.cell sealing.programming.hand.cell ready.safe.mapped r.cells)
    r.operation (ap (λ (g : CollectorView). g.per_block) r.gc)
    (ap (λ (t : BlockTableView). length t.blocks) r.table) (ap (λ (t : BlockTableView). t.per_block) r.table) r.places
    (λ on. rw (r.gc, same, r.table) live)
seals_kept old new job original at (Err Off) ready phase r =
    let sealing = at_phase old (Sealing job original at) ready phase in
    operated old new Seal (Some Off) ready
    (retains_seals old.flash.cells new.flash.cells at.0 original.from.0 old.gc.bytes (spare_in original) old.places
    (Err Off) sealing.copy.cell sealing.programming.hand.cell ready.safe.mapped r.cells)
    r.operation (ap (λ (g : CollectorView). g.per_block) r.gc)
    (ap (λ (t : BlockTableView). length t.blocks) r.table) (ap (λ (t : BlockTableView). t.per_block) r.table) r.places
    (λ on. absurd (not_off old.flash new.flash r.operation.flash on))
