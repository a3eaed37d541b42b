-- How far a session has come in event numbers and in operations of its flash, and how far it may come.
use Rattle.std.specs.Prelude.{ℕ, ◌+◌, ◌*◌, ◌^◌, ◌≤◌}
use Rattle.ff_core.specs.Account.{Start}
use Rattle.ff_core.specs.Core.{CoreView}
use Rattle.ff_core.specs.Hierarchy.{flash_under}
use Rattle.ff_core.specs.Record.{RecordView}
use Rattle.ff_flash.specs.FlashState.{FlashState}

-- how many events were made, and how many operations of the flash, since the first session began
pub record Age : Type 0 where
  pub events : ℕ
  pub operations : ℕ

abbrev pub age_of : {T E : Type 0} → CoreView T E → Age
age_of core = record {
  events = core.events;
  operations = (flash_under core.hierarchy).operations;
}

-- the age at which a session starts
abbrev pub age_at : Start → Age
age_at start = record { events = start.event; operations = start.operations }

-- the age at which a session left its record and its flash
abbrev pub age_left : RecordView → FlashState → Age
age_left account flash = record { events = account.events; operations = flash.operations }

-- the most events, and the most flash operations, of a call or a turn
abbrev pub most_per_item : ℕ
most_per_item = 2 ^ 13

-- an age rose, by what so many items may take at most
pub record RisesBy (old new : Age) (items : ℕ) : Type 0 where
  pub no_fall : old.operations ≤ new.operations
  pub events : new.events ≤ old.events + most_per_item * items
  pub operations : new.operations ≤ old.operations + most_per_item * items

-- the most operations of a mount and an image, and of the call or turn that was cut before them
abbrev pub most_between : ℕ
most_between = 2 ^ 17

-- the most events, and the most flash operations, of so many items and of the ends of so many sessions and the last
abbrev pub most_for : ℕ → ℕ → ℕ
most_for items stops = most_per_item * items + most_between * (stops + 1)

-- a session of this age has life for so many items, and so many sessions may end in front of the last one
pub record HasLife (age : Age) (items stops : ℕ) : Type 0 where
  pub events : age.events + most_for items stops ≤ 2 ^ 61
  pub operations : age.operations + most_for items stops ≤ 2 ^ 61
