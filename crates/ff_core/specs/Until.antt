-- The events of a call up to an event number at which the power is cut.
use Rattle.std.specs.Prelude.{ℕ, ◌≤◌, ◌≡◌, true, Option, Some}
use Rattle.ff_base.specs.declared.numbers.Caller.{Caller}
use Rattle.ff_model.specs.declared.op.Op.{Op}
use Rattle.ff_core.specs.Core.{CoreView}
use Rattle.ff_core.specs.Drives.{IsEvent}
use Rattle.ff_core.specs.Hierarchy.{flash_under}
use Rattle.ff_core.specs.Losing.{core_off}
use Rattle.ff_core.specs.Powered.{GoesOffByCut}
use Rattle.ff_core.specs.declared.turn.Driven.{Driven}
use Rattle.ff_core.specs.declared.turn.Driven.TheVariants.{Served, Off}
use Rattle.ff_core.specs.declared.turn.Turn.{Turn}
use Rattle.ff_core.specs.declared.turn.Turn.TheVariants.{Served as TurnServed, Off as TurnOff}

-- at the number to stop at the power goes off, and nothing else is done; at any other an event is made, by which the power
-- goes off only where its operation is cut
pub record IsEventUntil {T E : Type 0} (stop : Option ℕ) (old : CoreView T E) (turn : Turn)
    (new : CoreView T E) : Type 0 where
  pub stops : stop ≡ Some old.events → (turn ≡ TurnOff) × (new ≡ core_off old)
  pub goes : (stop ≡ Some old.events → ⊥)
      → GoesOffByCut (flash_under old.hierarchy) (flash_under new.hierarchy)

-- events were made, none of them at the number to stop at, and none turned the power off
pub record GoesUntil {T E : Type 0} (stop : Option ℕ) (old new : CoreView T E) : Type 0 where
  pub not_past : (number : ℕ) → stop ≡ Some number → old.events ≤ number → new.events ≤ number
  pub on : (flash_under old.hierarchy).on ≡ true → (flash_under new.hierarchy).on ≡ true
  pub no_fall : (flash_under old.hierarchy).operations ≤ (flash_under new.hierarchy).operations

-- the last event of a call that came to this
abbrev pub last_turn : Driven → Turn
last_turn (Served reply) = TurnServed reply
last_turn Off = TurnOff

-- a call was driven up to the number to stop at: events that didn't answer it, and the last one
pub record IsDrivenUntil {T E : Type 0} (stop : Option ℕ) (old : CoreView T E) (caller : Caller)
    (number : ℕ) (op : Op) (driven : Driven) (new : CoreView T E) : Type 0 where
  pub last : CoreView T E
  pub history : last.history ≡ old.history
  pub until : GoesUntil stop old last
  pub event : IsEvent last caller number op (last_turn driven) new
  pub ends : IsEventUntil stop last (last_turn driven) new
