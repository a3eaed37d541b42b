-- A session that has begun and done nothing yet, and what it comes to.
use Rattle.std.specs.Prelude.{ℕ, ◌+◌, ◌<◌, ◌≡◌, true, List, [], Some, length}
use Rattle.ff_base.specs.Geometry.{IsWithinLimits}
use Rattle.ff_core.specs.Account.{Start, start_of}
use Rattle.ff_core.specs.Core.{CoreView}
use Rattle.ff_core.specs.Hierarchy.{flash_under}
use Rattle.ff_core.specs.declared.core_state.losing.Lost.{Lost}
use Rattle.ff_flash.specs.FlashState.{FlashState}
use Rattle.ff_flash.specs.SimFlash.{arrive_of_cut, told_plan}
use Rattle.ff_model.specs.Image.{Content}
use Rattle.ff_trace.specs.declared.row.Row.{Row}
use Rattle.ff_sessions.specs.Age.{RisesBy, age_at, age_left, age_of}
use Rattle.ff_sessions.specs.Sessions.{LeavesDue, Setup, TakesItems, arrive_by, setup_with}
use Rattle.ff_sessions.specs.Stops.{IsStopWithin, ending_of, items_at, items_behind}
use Rattle.ff_sessions.specs.declared.stop.Cursor.{Cursor}
use Rattle.ff_sessions.specs.declared.stop.Stop.{Stop}

-- the setup of a run of which a core is a session
abbrev pub setup_in : {T E : Type 0} → CoreView T E → Setup
setup_in core = setup_with core.geometry (told_plan (flash_under core.hierarchy))
    core.hierarchy.policy.tuner.floor

-- a session of this setup that began so, with its power on, and has done nothing yet
pub record IsBegun {T E : Type 0} (setup : Setup) (start : Start) (core : CoreView T E) : Type 0 where
  pub limits : IsWithinLimits setup.geometry
  pub geometry : core.geometry ≡ setup.geometry
  pub floor : core.hierarchy.policy.tuner.floor ≡ setup.floor
  pub start_is : start_of core ≡ start
  pub age : age_of core ≡ age_at start
  pub calls : core.history.entries ≡ []
  pub turns : core.log.turns ≡ []
  pub plan : (flash_under core.hierarchy).plan ≡ Some setup.plan
  pub on : (flash_under core.hierarchy).on ≡ true

-- a session that began so took the items from a cursor in the rows on up to a stop, ended by a loss of power, and left
-- what is due
pub record IsRun {T E : Type 0} (setup : Setup) (start : Start) (rows : List Row) (at : Cursor)
    (stop : Stop) (lost : Lost FlashState T E) : Type 0 where
  pub takes : TakesItems lost.account lost.flash (ending_of stop lost.flash) (items_at rows at)
      (items_behind rows stop)
  pub due : LeavesDue setup start (arrive_by setup.geometry (ending_of stop lost.flash)) lost.base
      lost.account lost.nv lost.flash
  pub within : IsStopWithin (length rows) stop
  pub floor : lost.tuner.floor ≡ setup.floor
  pub rise : RisesBy (age_at start) (age_left lost.account lost.flash) (length takes.work + 1)
  pub counted : (arrive : ℕ) → arrive_of_cut lost.flash ≡ Some arrive
      → start.operations < lost.flash.operations

-- where a session starts over a mounted flash: from an image, at an event number
abbrev pub resumed_start : Content → ℕ → FlashState → Start
resumed_start base event flash = record {
  base = base;
  event = event;
  operations = flash.operations;
  faults = flash.faults;
}
