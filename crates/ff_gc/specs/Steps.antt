-- The one step that a collector makes, by what it does next.
use Rattle.std.specs.Prelude.{ℕ, ◌+◌, ◌*◌, ◌<◌, ◌≤◌, ◌≡◌, true, List, [], ◌∷◌, ◌++◌, Option, None, Result, Ok, Err, IfOk}
use Rattle.ff_base.specs.declared.numbers.Block.{Block}
use Rattle.ff_base.specs.declared.numbers.Ppn.{Ppn}
use Rattle.ff_flash.specs.Cells.{Erases, Programs, ReadsBytes, Seals}
use Rattle.ff_flash.specs.FlashState.{Operates}
use Rattle.ff_flash.specs.Injected.{stop_of}
use Rattle.ff_flash.specs.declared.flash.FlashStop.{FlashStop}
use Rattle.ff_flash.specs.declared.flash.FlashStop.TheVariants.{Failed, Off}
use Rattle.ff_space.specs.Blocks.{advanced, after_hold, erased_block, waiting}
use Rattle.ff_space.specs.BlockTable.{BlockTableView, IsInState, after_collection, block_at, changed_at}
use Rattle.ff_space.specs.Choices.{IsAllMapped, IsLeast, IsVictimBlock}
use Rattle.ff_space.specs.declared.block.BlockState.TheVariants.{Erased as ErasedBlock}
use Rattle.ff_map.specs.PageMap.{IsSwitched}
use Rattle.ff_gc.specs.Collector.{CollectorView}
use Rattle.ff_gc.specs.FlashCounts.{begun}
use Rattle.ff_gc.specs.Originals.{IsAfter, IsAllSeen, IsNextOriginal, move_to, past, spare_in}
use Rattle.ff_gc.specs.World.{World}
use Rattle.ff_gc.specs.declared.collector.GcStep.{GcStep}
use Rattle.ff_gc.specs.declared.collector.GcStep.TheVariants.{Idle as IdleStep, Read, Programmed, Sealed, Committed, Erased, Aborted}
use Rattle.ff_gc.specs.declared.counts.OperationKind.{OperationKind}
use Rattle.ff_gc.specs.declared.counts.OperationKind.TheVariants.{Read as ReadOperation, Program as ProgramOperation, Seal as SealOperation, Erase as EraseOperation}
use Rattle.ff_gc.specs.declared.phase.Job.{Job}
use Rattle.ff_gc.specs.declared.phase.Original.{Original}
use Rattle.ff_gc.specs.declared.phase.Phase.{Phase}
use Rattle.ff_gc.specs.declared.phase.Phase.TheVariants.{Idle, Reading, Programming, Sealing, Commit, Erasing, Aborting}

-- the result of the operation that an answer came from
abbrev pub operation_of : {T : Type 0} → Result T FlashStop → Result (Unit {0}) FlashStop
operation_of (Ok _) = Ok tt
operation_of (Err stop) = Err stop

-- one operation of the flash was made, and counted under its kind, also where it failed or was cut
pub record Makes (kind : OperationKind) (old : World) (stop : Option FlashStop) (new : World)
    : Type 0 where
  pub flash : Operates old.flash stop new.flash
  pub counts : new.counts ≡ begun kind old.counts

-- the flash made one operation, or none
pub data Takes (old : World) (stop : Option FlashStop) (new : World) : Type 0 where
  made : (kind : OperationKind) → Makes kind old stop new → Takes old stop new
  rested : new.flash ≡ old.flash → new.counts ≡ old.counts → stop ≡ None → Takes old stop new

-- the page in the destination that is programmed next
abbrev pub next_place : ℕ → BlockTableView → Job → ℕ
next_place per_block table job = job.into.0 * per_block + (block_at table job.into.0).next

-- a page of the victim is read
abbrev pub after_read : CollectorView → Job → Original → Result GcStep FlashStop → List ℕ
    → CollectorView
after_read gc job original (Ok _) bytes =
    record gc { phase = Programming job original; bytes = bytes }
after_read gc job original (Err _) bytes = gc

pub record ReadsPage (old : World) (job : Job) (original : Original)
    (result : Result GcStep FlashStop) (new : World) : Type 0 where
  pub operation : Makes ReadOperation old (stop_of result) new
  pub cells : ReadsBytes old.flash.cells original.from.0 old.gc.bytes (operation_of result)
      new.gc.bytes new.flash.cells
  pub step : IfOk result (λ step. step ≡ Read)
  pub gc : new.gc ≡ after_read old.gc job original result new.gc.bytes
  pub table : new.table ≡ old.table
  pub places : new.places ≡ old.places

-- the copy of a page is programmed. A page that failed is spoiled, so the write place moves on then too
abbrev pub after_program : CollectorView → Job → Original → Ppn → Result GcStep FlashStop
    → CollectorView
after_program gc job original at (Ok _) = record gc { phase = Sealing job original at }
after_program gc job original at (Err _) = gc

abbrev pub table_after_program : BlockTableView → Job → Result GcStep FlashStop → BlockTableView
table_after_program table job (Err Off) = table
table_after_program table job _ = changed_at table job.into.0 (advanced table.per_block)

pub record ProgramsCopy (old : World) (job : Job) (original : Original)
    (result : Result GcStep FlashStop) (new : World) : Type 0 where
  pub at : Ppn
  pub at_is : at.0 ≡ next_place old.gc.per_block old.table job
  pub operation : Makes ProgramOperation old (stop_of result) new
  pub cells : Programs old.flash.cells at.0 old.gc.bytes (spare_in original) (operation_of result)
      new.flash.cells
  pub step : IfOk result (λ step. step ≡ Programmed)
  pub gc : new.gc ≡ after_program old.gc job original at result
  pub table : new.table ≡ table_after_program old.table job result
  pub places : new.places ≡ old.places

-- the copy of a page is sealed. A copy that failed is programmed anew
pub record AfterSeal (per_block : ℕ) (old : World) (job : Job) (original : Original) (at : Ppn)
    (new : CollectorView) : Type 0 where
  pub phase : IsAfter per_block old.places (past per_block job original) new.phase
  pub gc : new ≡
      record old.gc { phase = new.phase; moves = old.gc.moves ++ move_to original at ∷ [] }

abbrev pub GcAfterSeal : World → Job → Original → Ppn → Result GcStep FlashStop → CollectorView
    → Type 0
GcAfterSeal old job original at (Ok _) new = AfterSeal old.gc.per_block old job original at new
GcAfterSeal old job original at (Err Failed) new =
    new ≡ record old.gc { phase = Programming job original }
GcAfterSeal old job original at (Err Off) new = new ≡ old.gc

pub record SealsCopy (old : World) (job : Job) (original : Original) (at : Ppn)
    (result : Result GcStep FlashStop) (new : World) : Type 0 where
  pub operation : Makes SealOperation old (stop_of result) new
  pub cells : Seals old.flash.cells at.0 (operation_of result) new.flash.cells
  pub step : IfOk result (λ step. step ≡ Sealed)
  pub gc : GcAfterSeal old job original at result new.gc
  pub table : new.table ≡ old.table
  pub places : new.places ≡ old.places

-- all copies are switched at once, where the page is still at the victim's place. No operation is made
pub record Commits (old : World) (job : Job) (result : Result GcStep FlashStop) (new : World)
    : Type 0 where
  pub step : result ≡ Ok Committed
  pub gc : new.gc ≡ record old.gc { phase = Erasing job.victim; moves = [] }
  pub flash : new.flash ≡ old.flash
  pub table : new.table ≡ after_collection old.table job.victim.0 job.into.0
  pub places : IsSwitched old.gc.moves old.places new.places
  pub counts : new.counts ≡ old.counts

-- the waiting block is erased, which ends the collection
abbrev pub after_erase : CollectorView → Result GcStep FlashStop → CollectorView
after_erase gc (Ok _) = record gc { phase = Idle }
after_erase gc (Err _) = gc

abbrev pub table_after_erase : BlockTableView → Block → Result GcStep FlashStop → BlockTableView
table_after_erase table block (Ok _) = changed_at table block.0 (λ _. erased_block)
table_after_erase table block (Err _) = table

pub record ErasesBlock (old : World) (block : Block) (ends : GcStep)
    (result : Result GcStep FlashStop) (new : World) : Type 0 where
  pub operation : Makes EraseOperation old (stop_of result) new
  pub cells : Erases old.flash.per_block old.flash.cells block.0 (operation_of result)
      new.flash.cells
  pub step : IfOk result (λ step. step ≡ ends)
  pub gc : new.gc ≡ after_erase old.gc result
  pub table : new.table ≡ table_after_erase old.table block result
  pub places : new.places ≡ old.places

-- the next page of the victim that is still mapped there is read. Where there is none, as in Commit
pub data ReadsNext (old : World) (job : Job) (result : Result GcStep FlashStop) (new : World)
    : Type 0 where
  reads : (original : Original) → IsNextOriginal old.gc.per_block old.places job original
      → ReadsPage old job original result new → ReadsNext old job result new
  none : IsAllSeen old.gc.per_block old.places job → Commits old job result new
      → ReadsNext old job result new

-- the copies are forgotten, and their block waits to be erased
abbrev pub given_up : World → Job → World
given_up w job = record w {
  gc = record w.gc { phase = Aborting job.into; moves = [] };
  table = changed_at w.table job.into.0 waiting;
}

-- the copy is programmed where the destination has a page left. Else the collection is given up
pub data ProgramsNext (old : World) (job : Job) (original : Original)
    (result : Result GcStep FlashStop) (new : World) : Type 0 where
  programs : (block_at old.table job.into.0).next < old.gc.per_block
      → ProgramsCopy old job original result new
      → ProgramsNext old job original result new
  full : old.gc.per_block ≤ (block_at old.table job.into.0).next
      → ErasesBlock (given_up old job) job.into Aborted result new
      → ProgramsNext old job original result new

-- a block without mapped pages waits to be erased
abbrev pub emptying : World → Block → World
emptying w victim = record w {
  gc = record w.gc { phase = Erasing victim };
  table = changed_at w.table victim.0 waiting;
}

-- a collection of a block that begins
abbrev pub job_of : Block → Block → Job
job_of victim into = record { victim = victim; into = into; seen = 0 }

abbrev pub begun_with : World → Job → World
begun_with w job =
    record w {
      gc = record w.gc { phase = Reading job; moves = [] };
      table = changed_at w.table job.into.0 (after_hold w.table.per_block true);
    }

-- a collection begins, where a block can be collected
pub data Begins (old : World) (result : Result GcStep FlashStop) (new : World) : Type 0 where
  idle : IsAllMapped old.table → result ≡ Ok IdleStep → new ≡ old → Begins old result new
  empty : (victim : Block) → IsVictimBlock old.table.per_block old.table.blocks victim.0
      → (block_at old.table victim.0).mapped ≡ 0
      → ErasesBlock (emptying old victim) victim Erased result new → Begins old result new
  mapped : (victim into : Block) → IsVictimBlock old.table.per_block old.table.blocks victim.0
      → 0 < (block_at old.table victim.0).mapped
      → IsLeast (IsInState old.table.blocks ErasedBlock) into.0
      → ReadsNext (begun_with old (job_of victim into)) (job_of victim into) result new
      → Begins old result new

-- the step by what the collector does next
abbrev pub IsStepAt : Phase → World → Result GcStep FlashStop → World → Type 0
IsStepAt Idle old result new = Begins old result new
IsStepAt (Reading job) old result new = ReadsNext old job result new
IsStepAt (Programming job original) old result new = ProgramsNext old job original result new
IsStepAt (Sealing job original at) old result new = SealsCopy old job original at result new
IsStepAt (Commit job) old result new = Commits old job result new
IsStepAt (Erasing block) old result new = ErasesBlock old block Erased result new
IsStepAt (Aborting block) old result new = ErasesBlock old block Aborted result new

abbrev pub IsStep : World → Result GcStep FlashStop → World → Type 0
IsStep old result new = IsStepAt old.gc.phase old result new
