-- A page of the victim is read, and its copy is programmed.
use Rattle.std.proofs.Common.{◌≡◌, ◌≢◌, ◌<◌, ◌+◌, ◌*◌, ◌/◌, ◌%◌, ◌^◌, ℕ, List, length, Some, None, refl, sym, ap, subst, ◌∙◌, arith}
use Rattle.std.specs.Prelude.{Result, Ok, Err}
use Rattle.std.proofs.lemmas.Option.{same_Some}
use Rattle.ff_base.specs.declared.numbers.PageNo.{PageNo}
use Rattle.ff_base.specs.declared.numbers.Ppn.{Ppn}
use Rattle.ff_flash.proofs.OperationCells.{program_elsewhere, program_keeps_sealed, program_length, program_worked}
use Rattle.ff_flash.proofs.SealedCells.{erased_unsealed}
use Rattle.ff_flash.specs.Cells.{Cell, IsSealed, Programs, cell_at, cell_bytes, erased, sealed}
use Rattle.ff_flash.specs.declared.flash.FlashStop.{FlashStop}
use Rattle.ff_flash.specs.declared.flash.FlashStop.TheVariants.{Failed, Off}
use Rattle.ff_flash.specs.declared.spare.Spare.{Spare}
use Rattle.ff_space.proofs.Changed.{block_at-changed_at, length-changed_at}
use Rattle.ff_space.specs.Blocks.{advanced, raised_state}
use Rattle.ff_space.specs.BlockTable.{BlockTableView, block_at, changed_at}
use Rattle.ff_space.specs.declared.block.BlockEntry.{BlockEntry}
use Rattle.ff_space.specs.declared.block.BlockState.{BlockState}
use Rattle.ff_space.specs.declared.block.BlockState.TheVariants.{Full, Held, Waiting}
use Rattle.ff_map.specs.PageMap.{PageMapView, mapping_of}
use Rattle.ff_map.specs.declared.places.Mapping.{Mapping}
use Rattle.ff_map.specs.declared.places.Move.{Move}
use Rattle.ff_gc.proofs.Keeping.{not_off, operated}
use Rattle.ff_gc.proofs.Numbers.{block_of_place, place_within, rest_of_place}
use Rattle.ff_gc.proofs.Retaining.{retains_programmed, retains_same}
use Rattle.ff_gc.proofs.Tables.{KeepsPages, none_after, only_changed, state_after, tabled_programmed}
use Rattle.ff_gc.specs.Cells.{AreMapped}
use Rattle.ff_gc.specs.Collector.{CollectorView}
use Rattle.ff_gc.specs.Originals.{IsNextOriginal, spare_in}
use Rattle.ff_gc.specs.Running.{AreBlocks, AreCopies, HasStale, HasStaleBeside, IsAt, IsInHand, IsLive, IsProgramming, IsReading, IsTabled}
use Rattle.ff_gc.specs.Steps.{ProgramsCopy, ReadsPage, next_place}
use Rattle.ff_gc.specs.World.{IsCollectorReady, Keeps, World}
use Rattle.ff_gc.specs.declared.collector.GcStep.{GcStep}
use Rattle.ff_gc.specs.declared.counts.OperationKind.TheVariants.{Read, Program}
use Rattle.ff_gc.specs.declared.phase.Job.{Job}
use Rattle.ff_gc.specs.declared.phase.Original.{Original}
use Rattle.ff_gc.specs.declared.phase.Phase.{Phase}
use Rattle.ff_gc.specs.declared.phase.Phase.TheVariants.{Programming, Reading, Sealing}

pub same_page : (one other : PageNo) → one.0 ≡ other.0 → one ≡ other
same_page one other same = ap (λ (n : ℕ). let page : PageNo = record { 0 = n } in page) same

-- what holds in a phase that is known
pub at_phase : (w : World) (phase : Phase) → IsCollectorReady w → w.gc.phase ≡ phase
    → IsAt w.gc w.flash.cells w.table w.places phase
at_phase w phase ready is = subst (λ p. IsAt w.gc w.flash.cells w.table w.places p) is ready.live.phase

-- the cell of the next page
pub next_cell : (per : ℕ) (cells : List Cell) (places : PageMapView) (job : Job) (original : Original)
    → AreMapped None cells places → IsNextOriginal per places job original
    → cell_at cells original.from.0 ≡ sealed (cell_bytes (cell_at cells original.from.0)) (spare_in original)
next_cell per cells places job original s next =
    s.placed original.page (record { at = original.from; version = original.version }) next.is

pub next_sealed : (per : ℕ) (cells : List Cell) (places : PageMapView) (job : Job) (original : Original)
    → AreMapped None cells places → IsNextOriginal per places job original
    → IsSealed (cell_at cells original.from.0)
next_sealed per cells places job original s next = rw (next_cell per cells places job original s next) tt

-- a page that is read is in hand
in_hand : (per : ℕ) (moves : List Move) (bytes : List ℕ) (cells : List Cell) (table : BlockTableView)
    (places : PageMapView) (job : Job) (original : Original)
    → IsReading per moves cells table places job → AreMapped None cells places
    → IsNextOriginal per places job original → bytes ≡ cell_bytes (cell_at cells original.from.0)
    → IsInHand per moves bytes cells places job original
in_hand per moves bytes cells table places job original reading s next is = record {
  cell = next_cell per cells places job original s next ∙ ap (λ b. sealed b (spare_in original)) (sym is);
  from_in = next.from_in;
  unseen = next.unseen;
  still = λ m there lies.
      ap (λ (x : Mapping). x.at)
      (same_Some m (record { at = original.from; version = original.version }) (sym there ∙ next.is));
  new = λ k d within same.
      (let copy = reading.copying.copies.copies k d within in
      let at_from : Ppn = original.from in
      let m : Mapping = record { at = original.from; version = original.version } in
      let places_same = copy.still m
      (ap (λ p. mapping_of places p) (same_page _ _ same) ∙ next.is) next.from_in in
      let numbers = ap (λ (p : Ppn). p.0) places_same in
      let behind = copy.behind in let unseen = next.unseen in omega arith);
  next = next.next;
}

stale_beside : (per : ℕ) (moves : List Move) (places : PageMapView) (job : Job) (original : Original)
    → HasStale per moves places job → IsNextOriginal per places job original
    → HasStaleBeside per moves places job original.from
stale_beside per moves places job original stale next = record {
  place = stale.place;
  small = stale.small;
  unmapped = stale.unmapped;
  few = stale.few;
  fewer = stale.fewer;
  fresh = stale.unmapped original.page (record { at = original.from; version = original.version }) next.is;
}

-- a page of the victim is read
pub reads_kept : (old new : World) (job : Job) (original : Original)
    (result : Result GcStep FlashStop) → IsCollectorReady old → old.gc.phase ≡ Reading job
    → IsNextOriginal old.gc.per_block old.places job original → ReadsPage old job original result new
    → Keeps old new
reads_kept old new job original (Ok step) ready phase next r =
    let reading = at_phase old (Reading job) ready phase in
    let gc : CollectorView = record old.gc { phase = Programming job original; bytes = new.gc.bytes } in
    let live : IsLive gc old.flash.cells old.table old.places = record {
      tabled = ready.live.tabled;
      phase = record {
        copying = reading.copying;
        hand = in_hand old.gc.per_block old.gc.moves new.gc.bytes old.flash.cells old.table old.places job original
            reading ready.safe.mapped next r.cells.0;
        stale = stale_beside old.gc.per_block old.gc.moves old.places job original reading.stale next;
      };
    } in
    operated old new Read None ready (retains_same old.places old.flash.cells new.flash.cells r.cells.1) r.operation
    (ap (λ (g : CollectorView). g.per_block) r.gc) (ap (λ (t : BlockTableView). length t.blocks) r.table)
    (ap (λ (t : BlockTableView). t.per_block) r.table) r.places
    (λ on. rw (r.gc, r.cells.1, r.table) live)
reads_kept old new job original (Err stop) ready phase next r =
    operated old new Read (Some stop) ready (retains_same old.places old.flash.cells new.flash.cells r.cells.1)
    r.operation (ap (λ (g : CollectorView). g.per_block) r.gc) (ap (λ (t : BlockTableView). length t.blocks) r.table)
    (ap (λ (t : BlockTableView). t.per_block) r.table) r.places
    (λ on. rw (r.gc, r.cells.1, r.table) ready.live)

-- the two blocks of a collection are two
pub victim_apart : (table : BlockTableView) (job : Job) → AreBlocks table job → job.victim.0 ≢ job.into.0
victim_apart table job b same =
    let states : Full ≡ Held =
    sym b.full.state ∙ ap (λ n. (block_at table n).state) same ∙ b.held.is.state in
    absurd (cc)

-- the blank page at the write place of a block
pub write_place_blank : (per : ℕ) (table : BlockTableView) (cells : List Cell) (places : PageMapView)
    (block : ℕ) → IsTabled per table cells places → length cells ≡ length table.blocks * per
    → block < length table.blocks → (block_at table block).next < per
    → (block_at table block).state ≢ Waiting
    → cell_at cells (block * per + (block_at table block).next) ≡ erased
write_place_blank per table cells places block t size within small state =
    let lies = block_of_place per block (block_at table block).next small in
    let rest = rest_of_place per block (block_at table block).next small in
    let below = place_within per block (block_at table block).next (length table.blocks) small within in
    t.blank (block * per + (block_at table block).next) (omega arith) (rw lies state) (rw lies (omega arith))

pub raised_held : (per next : ℕ) (state : BlockState) → state ≡ Held → raised_state per state next ≡ Held
raised_held per next state is = ap (λ s. raised_state per s next) is

held_not_waiting : (state : BlockState) → state ≡ Held → state ≢ Waiting
held_not_waiting state is other = (let e : Held ≡ Waiting = sym is ∙ other in cc)

advanced_keeps : (per : ℕ) (entry : BlockEntry) → entry.state ≡ Held → KeepsPages entry (advanced per entry)
advanced_keeps per entry held = record {
  mapped = refl;
  was = λ _. held_not_waiting entry.state held;
  next = λ _. omega arith;
}

blocks_advanced : (table : BlockTableView) (job : Job) → AreBlocks table job
    → AreBlocks (changed_at table job.into.0 (advanced table.per_block)) job
blocks_advanced table job b =
    let per = table.per_block in
    let entry = block_at table job.into.0 in
    let raised = raised_held per (entry.next + 1) entry.state b.held.is.state in
    record {
      full = state_after table job.into.0 (advanced per) Full job.victim.0 (victim_apart table job b) b.full;
      held = only_changed table job.into.0 (advanced per) Held b.held.is.in_range raised b.held.only;
      none_waits = none_after table job.into.0 (advanced per) Waiting b.none_waits
          (held_not_waiting (raised_state per entry.state (entry.next + 1)) raised);
      unmapped = ap (λ (e : BlockEntry). e.mapped) (block_at-changed_at table job.into.0 (advanced per) b.held.is.in_range)
          ∙ b.unmapped;
    }

-- sealed cells stay
abbrev pub KeepsSealed : List Cell → List Cell → Type 0
KeepsSealed old new = (a : ℕ) (x : List ℕ) (spare : Spare) → cell_at old a ≡ sealed x spare
    → cell_at new a ≡ sealed x spare

pub copies_kept : (per : ℕ) (moves : List Move) (cells new : List Cell) (places : PageMapView) (job : Job)
    → KeepsSealed cells new → AreCopies per moves cells places job
    → AreCopies per moves new places job
copies_kept per moves cells new places job kept c = record {
  copies = λ k d within.
      (let one = c.copies k d within in record {
        bytes = one.bytes;
        spare = one.spare;
        page = one.page;
        from = kept _ one.bytes one.spare one.from;
        to = kept _ one.bytes one.spare one.to;
        from_in = one.from_in;
        to_in = one.to_in;
        behind = one.behind;
        still = one.still;
      });
  pages_apart = c.pages_apart;
  places_apart = c.places_apart;
  copied = c.copied;
}

pub hand_kept : (per : ℕ) (moves : List Move) (bytes : List ℕ) (cells new : List Cell)
    (places : PageMapView) (job : Job) (original : Original) → KeepsSealed cells new
    → IsInHand per moves bytes cells places job original
    → IsInHand per moves bytes new places job original
hand_kept per moves bytes cells new places job original kept h = record {
  cell = kept original.from.0 bytes (spare_in original) h.cell;
  from_in = h.from_in;
  unseen = h.unseen;
  still = h.still;
  new = h.new;
  next = h.next;
}

-- the collection after a program into the destination
programming_after : (per : ℕ) (moves : List Move) (bytes : List ℕ) (cells new : List Cell)
    (table : BlockTableView) (places : PageMapView) (job : Job) (original : Original)
    → KeepsSealed cells new → IsProgramming per moves bytes cells table places job original
    → IsProgramming per moves bytes new (changed_at table job.into.0 (advanced table.per_block)) places job original
programming_after per moves bytes cells new table places job original kept p =
    let next : (block_at (changed_at table job.into.0 (advanced table.per_block)) job.into.0).next
    ≡ (block_at table job.into.0).next + 1 =
    ap (λ (e : BlockEntry). e.next)
    (block_at-changed_at table job.into.0 (advanced table.per_block) p.copying.blocks.held.is.in_range) in
    record {
      copying = record {
        blocks = blocks_advanced table job p.copying.blocks;
        copies = copies_kept per moves cells new places job kept p.copying.copies;
        seen = p.copying.seen;
        room = (let room = p.copying.room in omega arith);
      };
      hand = hand_kept per moves bytes cells new places job original kept p.hand;
      stale = p.stale;
    }

-- where the next copy goes
pub record IsPlaceOfCopy (w : World) (job : Job) (at : ℕ) : Type 0 where
  pub lies : at / w.gc.per_block ≡ job.into.0
  pub rest : at % w.gc.per_block ≡ (block_at w.table job.into.0).next
  pub within : at < length w.flash.cells
  pub blank : cell_at w.flash.cells at ≡ erased

pub place_of_copy : (w : World) (job : Job) (at : ℕ) → IsCollectorReady w → AreBlocks w.table job
    → (block_at w.table job.into.0).next < w.gc.per_block
    → at ≡ next_place w.gc.per_block w.table job → IsPlaceOfCopy w job at
place_of_copy w job at ready b small is =
    let per = w.gc.per_block in
    let next = (block_at w.table job.into.0).next in
    let cells = ready.fits.cells in
    let below = place_within per job.into.0 next (length w.table.blocks) small b.held.is.in_range in
    record {
      lies = ap (λ a. a / per) is ∙ block_of_place per job.into.0 next small;
      rest = ap (λ a. a % per) is ∙ rest_of_place per job.into.0 next small;
      within = omega arith;
      blank = ap (λ a. cell_at w.flash.cells a) is
          ∙ write_place_blank per w.table w.flash.cells w.places job.into.0 ready.live.tabled ready.fits.cells
          b.held.is.in_range small (held_not_waiting (block_at w.table job.into.0).state b.held.is.state);
    }

-- where the next copy goes, worked out from the numbers at hand
pub next_place_is : (w : World) (job : Job) (original : Original) (per next : ℕ) → IsCollectorReady w
    → w.gc.phase ≡ Programming job original → per ≡ w.gc.per_block → next ≡ (block_at w.table job.into.0).next
    → next < per → IsPlaceOfCopy w job (job.into.0 * per + next)
next_place_is w job original per next ready phase same is small =
    place_of_copy w job (job.into.0 * per + next) ready (at_phase w (Programming job original) ready phase).copying.blocks
    (omega arith)
    (ap (λ n. job.into.0 * n + next) same ∙ ap (λ n. job.into.0 * w.gc.per_block + n) is)

-- its number has 32 bits
pub next_place_small : (w : World) (job : Job) (original : Original) (per next : ℕ) → IsCollectorReady w
    → w.gc.phase ≡ Programming job original → per ≡ w.gc.per_block → next ≡ (block_at w.table job.into.0).next
    → next < per → job.into.0 * per + next < 2 ^ 32
next_place_small w job original per next ready phase same is small =
    let within = (next_place_is w job original per next ready phase same is small).within in
    let few = ready.fits.cells in
    let cells = ready.fits.small in
    omega arith

advanced_tabled : (old new : World) (job : Job) (at : ℕ) (bytes : List ℕ) (spare : Spare)
    (result : Result (Unit {0}) FlashStop) → IsCollectorReady old → AreBlocks old.table job
    → IsPlaceOfCopy old job at → Programs old.flash.cells at bytes spare result new.flash.cells
    → IsTabled old.gc.per_block (changed_at old.table job.into.0 (advanced old.table.per_block)) new.flash.cells old.places
advanced_tabled old new job at bytes spare result ready b place programs =
    tabled_programmed old.gc.per_block old.table job.into.0 (advanced old.table.per_block) old.flash.cells new.flash.cells
    old.places at b.held.is.in_range
    (advanced_keeps old.table.per_block (block_at old.table job.into.0) b.held.is.state) refl place.lies place.rest
    (program_length old.flash.cells at bytes spare result new.flash.cells programs)
    (λ a apart. program_elsewhere old.flash.cells at bytes spare result new.flash.cells a programs apart)
    ready.live.tabled

keeps_sealed : (cells new : List Cell) (at : ℕ) (bytes : List ℕ) (spare : Spare)
    (result : Result (Unit {0}) FlashStop) → cell_at cells at ≡ erased
    → Programs cells at bytes spare result new → KeepsSealed cells new
keeps_sealed cells new at bytes spare result blank programs a x own is =
    program_keeps_sealed cells at bytes spare result new a x own (erased_unsealed (cell_at cells at) blank) programs is

-- the copy of a page is programmed
pub programs_kept : (old new : World) (job : Job) (original : Original)
    (result : Result GcStep FlashStop) → IsCollectorReady old → old.gc.phase ≡ Programming job original
    → (block_at old.table job.into.0).next < old.gc.per_block
    → ProgramsCopy old job original result new → Keeps old new
programs_kept old new job original (Ok step) ready phase small r =
    let p = at_phase old (Programming job original) ready phase in
    let b = p.copying.blocks in
    let place = place_of_copy old job r.at.0 ready b small r.at_is in
    let per = old.gc.per_block in
    let table = changed_at old.table job.into.0 (advanced old.table.per_block) in
    let kept = keeps_sealed old.flash.cells new.flash.cells r.at.0 old.gc.bytes (spare_in original) (Ok tt) place.blank r.cells in
    let gc : CollectorView = record old.gc { phase = Sealing job original r.at } in
    let next : (block_at table job.into.0).next ≡ (block_at old.table job.into.0).next + 1 =
    ap (λ (e : BlockEntry). e.next)
    (block_at-changed_at old.table job.into.0 (advanced old.table.per_block) b.held.is.in_range) in
    let live : IsLive gc new.flash.cells table old.places = record {
      tabled = advanced_tabled old new job r.at.0 old.gc.bytes (spare_in original) (Ok tt) ready b place r.cells;
      phase = record {
        programming = programming_after per old.gc.moves old.gc.bytes old.flash.cells new.flash.cells old.table old.places
            job original kept p;
        copy = record {
          cell = program_worked old.flash.cells r.at.0 old.gc.bytes (spare_in original) new.flash.cells place.within r.cells;
          at_in = place.lies;
          room = (let room = p.copying.room in omega arith);
        };
      };
    } in
    operated old new Program None ready
    (retains_programmed old.flash.cells new.flash.cells r.at.0 old.gc.bytes (spare_in original) (Ok tt) old.places
    place.blank ready.safe.mapped r.cells)
    r.operation (ap (λ (g : CollectorView). g.per_block) r.gc)
    (ap (λ (t : BlockTableView). length t.blocks) r.table ∙ length-changed_at old.table job.into.0 (advanced old.table.per_block))
    (ap (λ (t : BlockTableView). t.per_block) r.table) r.places
    (λ on. rw (r.gc, r.table) live)
programs_kept old new job original (Err Failed) ready phase small r =
    let p = at_phase old (Programming job original) ready phase in
    let b = p.copying.blocks in
    let place = place_of_copy old job r.at.0 ready b small r.at_is in
    let table = changed_at old.table job.into.0 (advanced old.table.per_block) in
    let kept = keeps_sealed old.flash.cells new.flash.cells r.at.0 old.gc.bytes (spare_in original) (Err Failed) place.blank r.cells in
    let phase_after : IsAt old.gc new.flash.cells table old.places (Programming job original) =
    programming_after old.gc.per_block old.gc.moves old.gc.bytes old.flash.cells new.flash.cells old.table old.places
    job original kept p in
    let live : IsLive old.gc new.flash.cells table old.places = record {
      tabled = advanced_tabled old new job r.at.0 old.gc.bytes (spare_in original) (Err Failed) ready b place r.cells;
      phase = subst (λ q. IsAt old.gc new.flash.cells table old.places q) (sym phase) phase_after;
    } in
    operated old new Program (Some Failed) ready
    (retains_programmed old.flash.cells new.flash.cells r.at.0 old.gc.bytes (spare_in original) (Err Failed) old.places
    place.blank ready.safe.mapped r.cells)
    r.operation (ap (λ (g : CollectorView). g.per_block) r.gc)
    (ap (λ (t : BlockTableView). length t.blocks) r.table ∙ length-changed_at old.table job.into.0 (advanced old.table.per_block))
    (ap (λ (t : BlockTableView). t.per_block) r.table) r.places
    (λ on. rw (r.gc, r.table) live)
programs_kept old new job original (Err Off) ready phase small r =
    let p = at_phase old (Programming job original) ready phase in
    let place = place_of_copy old job r.at.0 ready p.copying.blocks small r.at_is in
    operated old new Program (Some Off) ready
    (retains_programmed old.flash.cells new.flash.cells r.at.0 old.gc.bytes (spare_in original) (Err Off) old.places
    place.blank ready.safe.mapped r.cells)
    r.operation (ap (λ (g : CollectorView). g.per_block) r.gc)
    (ap (λ (t : BlockTableView). length t.blocks) r.table)
    (ap (λ (t : BlockTableView). t.per_block) r.table) r.places
    (λ on. absurd (not_off old.flash new.flash r.operation.flash on))
