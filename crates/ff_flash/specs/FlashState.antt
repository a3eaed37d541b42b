-- What a contract sees of a flash, and what all operations have in common.
use Rattle.std.specs.Prelude.{ℕ, ◌+◌, ◌*◌, ◌≤◌, ◌≡◌, ◌↔◌, Bool, true, false, not, if◌then◌else◌, List, length, Option, Some, None, IsSome, IfSome}
use Rattle.ff_base.specs.Count.{HasCountLeft}
use Rattle.ff_flash.specs.Cells.{Cell}
use Rattle.ff_flash.specs.Plans.{Planned, due_stop}
use Rattle.ff_flash.specs.declared.flash.FlashStop.{FlashStop}
use Rattle.ff_flash.specs.declared.flash.FlashStop.TheVariants.{Failed, Off}

-- a flash
pub record FlashState : Type 0 where
  -- how many blocks it has
  pub blocks : ℕ
  -- how many pages a block has
  pub per_block : ℕ
  -- what its pages hold, by their places: the pages of block 0, then those of block 1, and so on
  pub cells : List Cell
  -- how often an operation has failed, or lost its power by a fault
  pub faults : ℕ
  -- whether the power is on
  pub on : Bool
  -- how many operations were made with the power on, also those that failed or were cut
  pub operations : ℕ
  -- the plan of its failures and cuts, where it tells one
  pub plan : Option Planned
  -- the numbers that are being made
  pub making : List ℕ
  -- whether the power is off by an operation that was cut
  pub cut : Bool

-- what every flash keeps
pub record IsFlashSound (flash : FlashState) : Type 0 where
  pub size : length flash.cells ≡ flash.blocks * flash.per_block
  pub faults : flash.faults ≤ flash.operations
  pub power : flash.on ≡ true → flash.cut ≡ false

-- an operation can still be counted
abbrev pub HasOperationsLeft : FlashState → Type 0
HasOperationsLeft flash = HasCountLeft flash.operations

-- what no operation changes
pub record SameFlash (old new : FlashState) : Type 0 where
  pub blocks : new.blocks ≡ old.blocks
  pub per_block : new.per_block ≡ old.per_block
  pub plan : new.plan ≡ old.plan
  pub making : new.making ≡ old.making

-- what an operation that stops so, or does not stop, makes of the power and the count of operations
pub record UsesPower (old : FlashState) (stop : Option FlashStop) (new : FlashState) : Type 0 where
  pub unpowered : old.on ≡ false → new ≡ old
  pub counted : old.on ≡ true → new.operations ≡ old.operations + 1
  pub off : (stop ≡ Some Off) ↔ (new.on ≡ false)
  pub cut : old.on ≡ true → new.cut ≡ not new.on

-- what an operation that stops so, or does not stop, makes of the count of faults. Where the plan is told, it
-- stops as the plan says, and a cut is no fault
pub record CountsFaults (old : FlashState) (stop : Option FlashStop) (new : FlashState)
    : Type 0 where
  pub failed : stop ≡ Some Failed → new.faults ≡ old.faults + 1
  pub worked : stop ≡ None → new.faults ≡ old.faults
  pub no_fall : old.faults ≤ new.faults
  pub one_more : new.faults ≤ old.faults + 1
  pub within : new.faults ≤ new.operations
  pub planned : old.on ≡ true → IfSome new.plan (λ plan. stop ≡ due_stop plan new.operations)
  pub planned_cut : IsSome old.plan → stop ≡ Some Off → new.faults ≡ old.faults

-- what an operation that stops so, or does not stop, makes of all but the cells
pub record Operates (old : FlashState) (stop : Option FlashStop) (new : FlashState) : Type 0 where
  pub same : SameFlash old new
  pub power : UsesPower old stop new
  pub faults : CountsFaults old stop new

-- the flash after its power was turned off: a flash that is off stays as it is
abbrev pub powered_off : FlashState → FlashState
powered_off flash = if flash.on then record flash { on = false; cut = false } else flash

-- the flash after its power was turned on
abbrev pub powered_up : FlashState → FlashState
powered_up flash = record flash { on = true; cut = false }
