-- A block waits to be erased, and is erased.
use Rattle.std.proofs.Common.{◌≡◌, ◌≢◌, ◌<◌, ◌/◌, ℕ, true, List, [], length, Option, Some, None, inl, inr, refl, sym, ap, ◌∙◌, arith}
use Rattle.std.specs.Prelude.{Result, Ok, Err}
use Rattle.std.proofs.lemmas.Bool.{cases_eq, eq-eqb, both_ways}
use Rattle.ff_base.specs.declared.numbers.Block.{Block}
use Rattle.ff_flash.proofs.OperationCells.{erase_elsewhere, erase_failed, erase_length, erase_worked}
use Rattle.ff_flash.specs.Cells.{Cell, cell_at, erased}
use Rattle.ff_flash.specs.declared.flash.FlashStop.{FlashStop}
use Rattle.ff_flash.specs.declared.flash.FlashStop.TheVariants.{Failed, Off}
use Rattle.ff_space.proofs.Changed.{
  block_at-changed_at,
  block_at-changed_at_other,
  each-changed_at,
  length-changed_at,
}
use Rattle.ff_space.specs.Blocks.{erased_block, waiting}
use Rattle.ff_space.specs.BlockTable.{IsInState, BlockTableView, block_at, changed_at}
use Rattle.ff_space.specs.declared.block.BlockEntry.{BlockEntry}
use Rattle.ff_space.specs.declared.block.BlockState.TheVariants.{Erased, Full, Held, Waiting}
use Rattle.ff_map.specs.PageMap.{PageMapView, mapping_of}
use Rattle.ff_map.specs.declared.places.Mapping.{Mapping}
use Rattle.ff_gc.proofs.Counting.{count_none}
use Rattle.ff_gc.proofs.Keeping.{not_off, operated, ready_changed}
use Rattle.ff_gc.proofs.PageCopies.{at_phase}
use Rattle.ff_gc.proofs.Retaining.{retains_erased}
use Rattle.ff_gc.proofs.Tables.{
  KeepsPages,
  changed_in_state,
  none_after,
  none_left,
  only_changed,
  tabled_changed,
  within_of,
}
use Rattle.ff_gc.specs.Cells.{HasNoPage}
use Rattle.ff_gc.specs.Collector.{CollectorView}
use Rattle.ff_gc.specs.Running.{IsEmptying, IsLive, IsTabled}
use Rattle.ff_map.specs.MappedPages.{is_in, mapped_in}
use Rattle.ff_gc.specs.Steps.{ErasesBlock, emptying, given_up}
use Rattle.ff_gc.specs.World.{IsCollectorReady, Keeps, World}
use Rattle.ff_gc.specs.declared.collector.GcStep.{GcStep}
use Rattle.ff_gc.specs.declared.counts.OperationKind.TheVariants.{Erase}
use Rattle.ff_gc.specs.declared.phase.Job.{Job}
use Rattle.ff_gc.specs.declared.phase.Original.{Original}
use Rattle.ff_gc.specs.declared.phase.Phase.TheVariants.{Aborting, Erasing, Idle, Programming}

-- where no mapped page of a block is counted, none is mapped there
pub no_page_of : (per block : ℕ) (places : PageMapView) → mapped_in per places block ≡ 0
    → HasNoPage per places block
no_page_of per block places none page m is lies =
    let fails = count_none (λ (x : Option Mapping). is_in per block x) places.pages page.0 None none refl in
    let passes : is_in per block (mapping_of places page) ≡ true =
    ap (λ (x : Option Mapping). is_in per block x) is ∙ eq-eqb (m.at.0 / per) block lies in
    both_ways (is_in per block (mapping_of places page)) fails passes

pub emptying_no_page : (per : ℕ) (table : BlockTableView) (cells : List Cell) (places : PageMapView) (block : Block)
    → IsTabled per table cells places → IsEmptying table block → HasNoPage per places block.0
emptying_no_page per table cells places block t e =
    no_page_of per block.0 places (sym (t.counted block.0 e.waits.is.in_range) ∙ e.unmapped)

-- the table after the erase
erased_tabled : (per : ℕ) (table : BlockTableView) (cells new : List Cell) (places : PageMapView) (block : Block)
    → IsEmptying table block → length new ≡ length cells
    → ((a : ℕ) → a / per ≡ block.0 → cell_at new a ≡ erased)
    → ((a : ℕ) → a / per ≢ block.0 → cell_at new a ≡ cell_at cells a)
    → IsTabled per table cells places
    → IsTabled per (changed_at table block.0 (λ _. erased_block)) new places
erased_tabled per table cells new places block e size here elsewhere t = record {
  counted = λ each lies.
      each-changed_at (λ b entry. b < length table.blocks → entry.mapped ≡ mapped_in per places b) table block.0
      (λ _. erased_block) e.waits.is.in_range (λ below. sym e.unmapped ∙ t.counted block.0 below)
      (λ other apart below. t.counted other below) each (within_of table block.0 (λ _. erased_block) each lies);
  blank = λ a lies state next. elim (cases_eq (a / per) block.0) [
    | inl same ↦ here a same
    | inr apart ↦
        let entry = block_at-changed_at_other table block.0 (λ _. erased_block) (a / per) apart in
        elsewhere a apart
        ∙ t.blank a (omega arith) (λ waits. state (ap (λ (b : BlockEntry). b.state) entry ∙ waits))
        (let is = ap (λ (b : BlockEntry). b.next) entry in omega arith)
  ];
}

-- the waiting block is erased
pub erases_kept : (old new : World) (block : Block) (ends : GcStep) (result : Result GcStep FlashStop)
    → IsCollectorReady old → IsEmptying old.table block → ErasesBlock old block ends result new → Keeps old new
erases_kept old new block ends (Ok step) ready e r =
    let per = old.gc.per_block in
    let flash_per = ready.fits.per_block in
    let none = emptying_no_page per old.table old.flash.cells old.places block ready.live.tabled e in
    let table = changed_at old.table block.0 (λ _. erased_block) in
    let gc : CollectorView = record old.gc { phase = Idle } in
    let live : IsLive gc new.flash.cells table old.places = record {
      tabled = erased_tabled per old.table old.flash.cells new.flash.cells old.places block e
          (erase_length old.flash.per_block old.flash.cells block.0 (Ok tt) new.flash.cells r.cells)
          (λ a lies. erase_worked old.flash.per_block old.flash.cells block.0 new.flash.cells a r.cells (rw flash_per lies))
          (λ a apart. erase_elsewhere old.flash.per_block old.flash.cells block.0 (Ok tt) new.flash.cells a r.cells (rw flash_per apart))
          ready.live.tabled;
      phase = record {
        none_held = none_after old.table block.0 (λ _. erased_block) Held e.none_held (λ same. cc);
        none_waits = none_left old.table block.0 (λ _. erased_block) Waiting e.waits (λ same. cc);
        spare = record {
          block = block.0;
          is = changed_in_state old.table block.0 (λ _. erased_block) Erased e.waits.is.in_range refl;
        };
      };
    } in
    operated old new Erase None ready
    (retains_erased old.flash.per_block block.0 old.flash.cells new.flash.cells (Ok tt) old.places (rw flash_per none) r.cells)
    r.operation (ap (λ (g : CollectorView). g.per_block) r.gc)
    (ap (λ (t : BlockTableView). length t.blocks) r.table ∙ length-changed_at old.table block.0 (λ _. erased_block))
    (ap (λ (t : BlockTableView). t.per_block) r.table) r.places
    (λ on. rw (r.gc, r.table) live)
erases_kept old new block ends (Err Failed) ready e r =
    let none = emptying_no_page old.gc.per_block old.table old.flash.cells old.places block ready.live.tabled e in
    let same : new.flash.cells ≡ old.flash.cells =
    erase_failed old.flash.per_block old.flash.cells block.0 new.flash.cells r.cells in
    operated old new Erase (Some Failed) ready
    (retains_erased old.flash.per_block block.0 old.flash.cells new.flash.cells (Err Failed) old.places
    (rw ready.fits.per_block none) r.cells)
    r.operation (ap (λ (g : CollectorView). g.per_block) r.gc) (ap (λ (t : BlockTableView). length t.blocks) r.table)
    (ap (λ (t : BlockTableView). t.per_block) r.table) r.places
    (λ on. rw (r.gc, same, r.table) ready.live)
erases_kept old new block ends (Err Off) ready e r =
    let none = emptying_no_page old.gc.per_block old.table old.flash.cells old.places block ready.live.tabled e in
    operated old new Erase (Some Off) ready
    (retains_erased old.flash.per_block block.0 old.flash.cells new.flash.cells (Err Off) old.places
    (rw ready.fits.per_block none) r.cells)
    r.operation (ap (λ (g : CollectorView). g.per_block) r.gc) (ap (λ (t : BlockTableView). length t.blocks) r.table)
    (ap (λ (t : BlockTableView). t.per_block) r.table) r.places
    (λ on. absurd (not_off old.flash new.flash r.operation.flash on))

waiting_keeps : (entry : BlockEntry) → KeepsPages entry (waiting entry)
waiting_keeps entry = record {
  mapped = refl;
  was = λ other. absurd (other refl);
  next = λ other. absurd (other refl);
}

waiting_unmapped : (table : BlockTableView) (block : ℕ) → block < length table.blocks
    → (block_at table block).mapped ≡ 0 → (block_at (changed_at table block waiting) block).mapped ≡ 0
waiting_unmapped table block within none =
    ap (λ (e : BlockEntry). e.mapped) (block_at-changed_at table block waiting within) ∙ none

-- a block without mapped pages waits, where no collection runs
pub emptying_is : (w : World) (victim : Block) → IsCollectorReady w → w.gc.phase ≡ Idle
    → IsInState w.table.blocks Full victim.0 → (block_at w.table victim.0).mapped ≡ 0
    → IsEmptying (changed_at w.table victim.0 waiting) victim
emptying_is w victim ready phase full none =
    let idle = at_phase w Idle ready phase in record {
      waits = only_changed w.table victim.0 waiting Waiting full.in_range refl (λ other is. absurd (idle.none_waits other is));
      unmapped = waiting_unmapped w.table victim.0 full.in_range none;
      none_held = none_after w.table victim.0 waiting Held idle.none_held (λ same. cc);
    }

pub emptying_ready : (w : World) (victim : Block) → IsCollectorReady w → w.gc.phase ≡ Idle
    → IsInState w.table.blocks Full victim.0 → (block_at w.table victim.0).mapped ≡ 0
    → IsCollectorReady (emptying w victim)
emptying_ready w victim ready phase full none =
    ready_changed w (record w.gc { phase = Erasing victim }) victim.0 waiting refl ready
    record {
      tabled = tabled_changed w.gc.per_block w.table victim.0 waiting w.flash.cells w.places full.in_range
          (waiting_keeps (block_at w.table victim.0)) ready.live.tabled;
      phase = emptying_is w victim ready phase full none;
    }

-- the destination of a collection that is given up waits
pub given_up_is : (w : World) (job : Job) (original : Original) → IsCollectorReady w
    → w.gc.phase ≡ Programming job original
    → IsEmptying (changed_at w.table job.into.0 waiting) job.into
given_up_is w job original ready phase =
    let p = at_phase w (Programming job original) ready phase in
    let b = p.copying.blocks in record {
      waits = only_changed w.table job.into.0 waiting Waiting b.held.is.in_range refl
          (λ other is. absurd (b.none_waits other is));
      unmapped = waiting_unmapped w.table job.into.0 b.held.is.in_range b.unmapped;
      none_held = none_left w.table job.into.0 waiting Held b.held (λ same. cc);
    }

pub given_up_ready : (w : World) (job : Job) (original : Original) → IsCollectorReady w
    → w.gc.phase ≡ Programming job original → IsCollectorReady (given_up w job)
given_up_ready w job original ready phase =
    let p = at_phase w (Programming job original) ready phase in
    ready_changed w (record w.gc { phase = Aborting job.into; moves = [] }) job.into.0 waiting refl ready
    record {
      tabled = tabled_changed w.gc.per_block w.table job.into.0 waiting w.flash.cells w.places
          p.copying.blocks.held.is.in_range (waiting_keeps (block_at w.table job.into.0)) ready.live.tabled;
      phase = given_up_is w job original ready phase;
    }
