-- Every step keeps what it needs.
use Rattle.std.proofs.Common.{◌≡◌, ℕ, true, [], refl, sym, subst, arith}
use Rattle.std.specs.Prelude.{Result}
use Rattle.ff_flash.specs.declared.flash.FlashStop.{FlashStop}
use Rattle.ff_space.specs.Blocks.{after_hold, waiting}
use Rattle.ff_space.specs.BlockTable.{IsBlockTableSound}
use Rattle.ff_map.specs.PageMap.{PageMapView}
use Rattle.ff_gc.proofs.Begun.{begun_ready}
use Rattle.ff_gc.proofs.Emptied.{emptying_is, emptying_ready, erases_kept, given_up_is, given_up_ready}
use Rattle.ff_gc.proofs.Keeping.{keeps_after, same_changed}
use Rattle.ff_gc.proofs.PageCopies.{at_phase, programs_kept, reads_kept}
use Rattle.ff_gc.proofs.PageSeals.{seals_kept}
use Rattle.ff_gc.proofs.Committed.{commits_kept}
use Rattle.ff_gc.specs.Originals.{IsAllSeen, IsNextOriginal}
use Rattle.ff_gc.specs.Steps.{
  Begins,
  IsStep,
  IsStepAt,
  ProgramsNext,
  ReadsNext,
  begun_with,
  empty,
  emptying,
  full,
  given_up,
  idle,
  job_of,
  mapped,
  none,
  programs,
  reads,
}
use Rattle.ff_gc.specs.World.{IsCollectorReady, Keeps, World}
use Rattle.ff_gc.specs.declared.collector.GcStep.{GcStep}
use Rattle.ff_gc.specs.declared.collector.GcStep.TheVariants.{Erased, Aborted}
use Rattle.ff_gc.specs.declared.phase.Job.{Job}
use Rattle.ff_gc.specs.declared.phase.Original.{Original}
use Rattle.ff_gc.specs.declared.phase.Phase.{Phase}
use Rattle.ff_gc.specs.declared.phase.Phase.TheVariants.{Idle, Programming, Reading, Sealing, Commit, Erasing, Aborting}

-- where a page is next, not all is seen
pub not_all_seen : (per : ℕ) (places : PageMapView) (job : Job) (original : Original)
    → IsNextOriginal per places job original → IsAllSeen per places job → ⊥
not_all_seen per places job original next all =
    let below = all original.page (record { at = original.from; version = original.version }) next.is next.from_in in
    let unseen = next.unseen in
    omega arith

nothing_kept : (w : World) → IsCollectorReady w → Keeps w w
nothing_kept w ready = record {
  same = record {
    bytes = λ page. refl;
    versions = λ page. refl;
    next = refl;
    pages = refl;
    blocks = refl;
    per_block = refl;
  };
  fits = ready.fits;
  safe = ready.safe;
  live = λ on. ready.live;
}

reads_next_kept : (old new : World) (job : Job) (result : Result GcStep FlashStop) → IsCollectorReady old
    → old.gc.phase ≡ Reading job → ReadsNext old job result new → Keeps old new
reads_next_kept old new job result ready phase (reads original next r) =
    reads_kept old new job original result ready phase next r
reads_next_kept old new job result ready phase (none all r) =
    commits_kept old new job result ready
    (record { reading = at_phase old (Reading job) ready phase; all_seen = all }) r

programs_next_kept : (old new : World) (job : Job) (original : Original)
    (result : Result GcStep FlashStop) → IsCollectorReady old → old.gc.phase ≡ Programming job original
    → ProgramsNext old job original result new → Keeps old new
programs_next_kept old new job original result ready phase (programs small r) =
    programs_kept old new job original result ready phase small r
programs_next_kept old new job original result ready phase (full whole r) =
    keeps_after old (given_up old job) new
    (same_changed old (record old.gc { phase = Aborting job.into; moves = [] }) job.into.0 waiting refl)
    (erases_kept (given_up old job) new job.into Aborted result (given_up_ready old job original ready phase)
    (given_up_is old job original ready phase) r)

begins_kept : (old new : World) (result : Result GcStep FlashStop) → IsBlockTableSound old.table
    → IsCollectorReady old → old.gc.phase ≡ Idle → Begins old result new → Keeps old new
begins_kept old new result sound ready phase (idle all is same) =
    subst (λ (w : World). Keeps old w) (sym same) (nothing_kept old ready)
begins_kept old new result sound ready phase (empty victim v unmapped r) =
    keeps_after old (emptying old victim) new
    (same_changed old (record old.gc { phase = Erasing victim }) victim.0 waiting refl)
    (erases_kept (emptying old victim) new victim Erased result
    (emptying_ready old victim ready phase v.has.full unmapped) (emptying_is old victim ready phase v.has.full unmapped) r)
begins_kept old new result sound ready phase (mapped victim into v some least r) =
    let stale = v.has.stale in
    let table = ready.fits.table in
    keeps_after old (begun_with old (job_of victim into)) new
    (same_changed old (record old.gc { phase = Reading (job_of victim into); moves = [] }) into.0
    (after_hold old.table.per_block true) refl)
    (reads_next_kept (begun_with old (job_of victim into)) new (job_of victim into) result
    (begun_ready old victim into sound ready phase v.has.full least.has (omega arith)) refl r)

step_kept : (phase : Phase) (old new : World) (result : Result GcStep FlashStop)
    → IsBlockTableSound old.table → IsCollectorReady old → old.gc.phase ≡ phase → IsStepAt phase old result new
    → Keeps old new
step_kept Idle old new result sound ready phase r = begins_kept old new result sound ready phase r
step_kept (Reading job) old new result sound ready phase r = reads_next_kept old new job result ready phase r
step_kept (Programming job original) old new result sound ready phase r =
    programs_next_kept old new job original result ready phase r
step_kept (Sealing job original at) old new result sound ready phase r =
    seals_kept old new job original at result ready phase r
step_kept (Commit job) old new result sound ready phase r =
    commits_kept old new job result ready (at_phase old (Commit job) ready phase) r
step_kept (Erasing block) old new result sound ready phase r =
    erases_kept old new block Erased result ready (at_phase old (Erasing block) ready phase) r
step_kept (Aborting block) old new result sound ready phase r =
    erases_kept old new block Aborted result ready (at_phase old (Aborting block) ready phase) r

-- every step keeps what it needs
pub steps_kept : (old new : World) (result : Result GcStep FlashStop) → IsBlockTableSound old.table
    → IsCollectorReady old → IsStep old result new → Keeps old new
steps_kept old new result sound ready step = step_kept old.gc.phase old new result sound ready refl step

-- the step in a phase that is known
pub step_in : (phase : Phase) (old new : World) (result : Result GcStep FlashStop)
    → old.gc.phase ≡ phase → IsStepAt phase old result new → IsStep old result new
step_in phase old new result is step = subst (λ p. IsStepAt p old result new) (sym is) step
