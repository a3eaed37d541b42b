-- A step makes one operation of the flash, or none.
use Rattle.std.proofs.Common.{◌≡◌, ◌+◌, ap, refl, arith}
use Rattle.std.specs.Prelude.{Result}
use Rattle.ff_flash.specs.Injected.{stop_of}
use Rattle.ff_flash.specs.declared.flash.FlashStop.{FlashStop}
use Rattle.ff_gc.specs.FlashCounts.{begun, total_of}
use Rattle.ff_gc.specs.Steps.{Begins, Commits, IsStep, IsStepAt, ProgramsNext, ReadsNext, Takes, empty, full, idle, made, mapped, none, programs, reads, rested}
use Rattle.ff_gc.specs.World.{World}
use Rattle.ff_gc.specs.declared.collector.GcStep.{GcStep}
use Rattle.ff_gc.specs.declared.counts.FlashCounts.{FlashCounts}
use Rattle.ff_gc.specs.declared.counts.OperationKind.{OperationKind}
use Rattle.ff_gc.specs.declared.counts.OperationKind.TheVariants.{Erase, Program, Read, Seal}
use Rattle.ff_gc.specs.declared.phase.Job.{Job}
use Rattle.ff_gc.specs.declared.phase.Original.{Original}
use Rattle.ff_gc.specs.declared.phase.Phase.{Phase}
use Rattle.ff_gc.specs.declared.phase.Phase.TheVariants.{Idle, Programming, Reading, Sealing, Commit, Erasing, Aborting}

-- one operation is counted
pub total_begun : (kind : OperationKind) (counts : FlashCounts) → total_of (begun kind counts) ≡ total_of counts + 1
total_begun Read counts = omega arith
total_begun Program counts = omega arith
total_begun Seal counts = omega arith
total_begun Erase counts = omega arith

commits_take : (old new : World) (job : Job) (result : Result GcStep FlashStop) → Commits old job result new
    → Takes old (stop_of result) new
commits_take old new job result r = rested r.flash r.counts (ap (λ (x : Result GcStep FlashStop). stop_of x) r.step)

reads_take : (old new : World) (job : Job) (result : Result GcStep FlashStop) → ReadsNext old job result new
    → Takes old (stop_of result) new
reads_take old new job result (reads original next r) = made Read r.operation
reads_take old new job result (none all r) = commits_take old new job result r

-- the same of a world with the same flash and counts
takes_from : (old mid new : World) (result : Result GcStep FlashStop) → mid.flash ≡ old.flash → mid.counts ≡ old.counts
    → Takes mid (stop_of result) new → Takes old (stop_of result) new
takes_from old mid new result flash counts (made kind m) =
    made kind record { flash = rw (← flash) m.flash; counts = rw (← counts) m.counts }
takes_from old mid new result flash counts (rested f k s) = rested (rw (← flash) f) (rw (← counts) k) s

programs_take : (old new : World) (job : Job) (original : Original) (result : Result GcStep FlashStop)
    → ProgramsNext old job original result new → Takes old (stop_of result) new
programs_take old new job original result (programs small r) = made Program r.operation
programs_take old new job original result (full whole r) =
    made Erase record { flash = r.operation.flash; counts = r.operation.counts }

begins_take : (old new : World) (result : Result GcStep FlashStop) → Begins old result new
    → Takes old (stop_of result) new
begins_take old new result (idle all is same) =
    rested (ap (λ (w : World). w.flash) same) (ap (λ (w : World). w.counts) same)
    (ap (λ (x : Result GcStep FlashStop). stop_of x) is)
begins_take old new result (empty victim v unmapped r) =
    made Erase record { flash = r.operation.flash; counts = r.operation.counts }
begins_take old new result (mapped victim into v some least r) =
    takes_from old _ new result refl refl (reads_take _ new _ result r)

takes_at : (phase : Phase) (old new : World) (result : Result GcStep FlashStop) → IsStepAt phase old result new
    → Takes old (stop_of result) new
takes_at Idle old new result r = begins_take old new result r
takes_at (Reading job) old new result r = reads_take old new job result r
takes_at (Programming job original) old new result r = programs_take old new job original result r
takes_at (Sealing job original at) old new result r = made Seal r.operation
takes_at (Commit job) old new result r = commits_take old new job result r
takes_at (Erasing block) old new result r = made Erase r.operation
takes_at (Aborting block) old new result r = made Erase r.operation

-- a step makes one operation of the flash, or none
pub takes_of : (old new : World) (result : Result GcStep FlashStop) → IsStep old result new
    → Takes old (stop_of result) new
takes_of old new result step = takes_at old.gc.phase old new result step
