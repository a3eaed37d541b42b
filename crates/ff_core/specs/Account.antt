-- What the record of a session, its opening and its flash say of each other.
use Rattle.std.specs.Prelude.{ℕ, ◌+◌, ◌*◌, ◌≤◌, ◌≡◌, count_by, IsSome}
use Rattle.ff_base.specs.Count.{last_event}
use Rattle.ff_base.specs.declared.geometry.Geometry.{Geometry}
use Rattle.ff_flash.specs.FlashState.{FlashState}
use Rattle.ff_model.specs.Image.{Content}
use Rattle.ff_model.specs.Legal.{IsLegal, Opening, faults_after, next_event, opening_of}
use Rattle.ff_model.specs.declared.counts.Counts.{Counts}
use Rattle.ff_core.specs.Core.{CoreView, from_operations}
use Rattle.ff_core.specs.CoreSound.{has_failed, has_fault, is_promotion, is_served_access}
use Rattle.ff_core.specs.Record.{RecordView}

-- where a session begins: its image, its event number, and the operations and faults of its flash
pub record Start : Type 0 where
  pub base : Content
  pub event : ℕ
  pub operations : ℕ
  pub faults : ℕ

abbrev pub start_of : {T E : Type 0} → CoreView T E → Start
start_of core = record {
  base = core.opening.base;
  event = core.opening.event;
  operations = from_operations core;
  faults = core.opening.faults;
}

abbrev pub opening_at : Geometry → Start → Opening
opening_at geometry start = opening_of start.base geometry start.event start.faults

-- how many flash operations were counted
abbrev pub operations_in : Counts → ℕ
operations_in counts = counts.reads + counts.programs + counts.seals + counts.erases

-- a session of this geometry, whose policy's threshold doesn't fall below the floor, began so and left this flash: its
-- history is that of a flat byte array, each promotion was paid for by device accesses, the counts are what the history,
-- the log and the flash tell, and the flash met each fault that an entry counts
pub record IsAccountOf (geometry : Geometry) (floor : ℕ) (start : Start) (account : RecordView)
    (flash : FlashState) : Type 0 where
  pub geometry_is : account.geometry ≡ geometry
  pub from_event : account.from_event ≡ start.event
  pub legal : IsLegal (opening_at geometry start) account.entries
  pub events : next_event (opening_at geometry start) account.entries ≤ account.events
  pub not_past : account.events ≤ last_event
  pub served : account.counts.device + account.counts.host
      ≡ count_by is_served_access account.entries
  pub promotions : account.counts.promoted ≡ count_by is_promotion account.turns
  pub paid : account.counts.promoted * floor ≤ account.counts.device
  pub operations : start.operations + operations_in account.counts ≡ flash.operations
  pub faults : start.faults + account.counts.faults ≡ flash.faults
  pub met : faults_after (opening_at geometry start) account.entries ≤ flash.faults
  pub told : IsSome flash.plan → account.counts.faults
      ≡ count_by has_fault account.entries + count_by has_failed account.turns
