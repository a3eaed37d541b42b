-- What the events of one call, from its first to the one that answers it, make of a core.
use Rattle.std.specs.Prelude.{ℕ, ◌+◌, ◌*◌, ◌<◌, ◌≤◌, ◌≡◌, true, false}
use Rattle.ff_base.specs.declared.geometry.Geometry.{Geometry}
use Rattle.ff_base.specs.declared.numbers.Caller.{Caller}
use Rattle.ff_model.specs.declared.op.Op.{Op}
use Rattle.ff_model.specs.declared.op.Op.TheVariants.{Load, Store, Verify, Mark, Release}
use Rattle.ff_store.specs.Calls.{SameStore}
use Rattle.ff_core.specs.Core.{CoreView, with_entry}
use Rattle.ff_core.specs.EventsLeft.{events_left}
use Rattle.ff_core.specs.Hierarchy.{flash_under}
use Rattle.ff_core.specs.declared.turn.Driven.{Driven}
use Rattle.ff_core.specs.declared.turn.Driven.TheVariants.{Served, Off}
use Rattle.ff_core.specs.declared.turn.Turn.{Turn}
use Rattle.ff_core.specs.declared.turn.Turn.TheVariants.{Served as TurnServed, Miss, Off as TurnOff}

-- how many events a call takes at most
abbrev pub most_events : Geometry → Op → ℕ
most_events geometry (Load at len) = 8 * geometry.per_block + 200
most_events geometry (Store at bytes) = 8 * geometry.per_block + 200
most_events geometry (Mark page from count) = 3 * (8 * geometry.per_block + 400)
most_events geometry Verify = 1
most_events geometry (Release page from count) = 1

-- what the events of a session leave
pub record SameSession {T E : Type 0} (old new : CoreView T E) : Type 0 where
  pub opening : new.opening ≡ old.opening
  pub geometry : new.geometry ≡ old.geometry
  pub from_counts : new.from_counts ≡ old.from_counts
  pub room : new.history.room ≡ old.history.room
  pub turns_room : new.log.room ≡ old.log.room
  pub floor : new.hierarchy.policy.tuner ≡ old.hierarchy.policy.tuner
  pub picker : new.hierarchy.evictor.picker ≡ old.hierarchy.evictor.picker
  pub store : SameStore old.hierarchy.device.store new.hierarchy.device.store

-- the call was answered, the history has its entry and the power is on; or the power is off, and the history is as before
pub data IsAnswered {T E : Type 0} (old : CoreView T E) (caller : Caller) (number : ℕ) (op : Op)
    (driven : Driven) (new : CoreView T E) : Type 0 where
  served : (reply : _) (event faults : ℕ) → driven ≡ Served reply
      → new.history ≡ with_entry
      (record {
        event = event;
        caller = caller;
        number = number;
        op = op;
        reply = reply;
        faults = faults;
      }) old.history
      → (flash_under new.hierarchy).on ≡ true → IsAnswered old caller number op driven new
  cut : driven ≡ Off → new.history ≡ old.history → (flash_under new.hierarchy).on ≡ false
      → IsAnswered old caller number op driven new

-- an event didn't answer the call: fewer events are left, and the power is on
pub record LeavesFewer {T E : Type 0} (op : Op) (old new : CoreView T E) : Type 0 where
  pub history : new.history ≡ old.history
  pub fewer : events_left op new.hierarchy < events_left op old.hierarchy
  pub on : (flash_under new.hierarchy).on ≡ true

-- what an event of a call comes to: it answers the call, or it leaves fewer events
abbrev pub AnswersOrLeaves : {T E : Type 0} → Turn → CoreView T E → Caller → ℕ → Op → CoreView T E
    → Type 0
AnswersOrLeaves (TurnServed reply) old caller number op new =
    IsAnswered old caller number op (Served reply) new
AnswersOrLeaves (Miss page) old caller number op new = LeavesFewer op old new
AnswersOrLeaves TurnOff old caller number op new = IsAnswered old caller number op Off new

-- one event of a call
pub record IsEvent {T E : Type 0} (old : CoreView T E) (caller : Caller) (number : ℕ) (op : Op)
    (turn : Turn) (new : CoreView T E) : Type 0 where
  pub answer : AnswersOrLeaves turn old caller number op new
  pub log : new.log ≡ old.log
  pub same : SameSession old new
  pub events : new.events ≤ old.events + 1
  pub no_fall : (flash_under old.hierarchy).operations ≤ (flash_under new.hierarchy).operations
  pub one_more : (flash_under new.hierarchy).operations ≤ (flash_under old.hierarchy).operations + 1

pub record IsDriven {T E : Type 0} (old : CoreView T E) (caller : Caller) (number : ℕ) (op : Op)
    (driven : Driven) (new : CoreView T E) : Type 0 where
  pub answer : IsAnswered old caller number op driven new
  pub log : new.log ≡ old.log
  pub same : SameSession old new
  pub events : new.events ≤ old.events + most_events old.geometry op
  pub no_fall : (flash_under old.hierarchy).operations ≤ (flash_under new.hierarchy).operations
  pub operations : (flash_under new.hierarchy).operations
      ≤ (flash_under old.hierarchy).operations + most_events old.geometry op
