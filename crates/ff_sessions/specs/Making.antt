-- What the calls and turns of rows make of a session that is open.
use Rattle.std.specs.Prelude.{ℕ, ◌+◌, ◌<◌, ◌≤◌, ◌≡◌, Bool, true, false, List, ◌++◌, length, count_by, slice_index}
use Rattle.ff_core.specs.Core.{CoreView, spare_calls, spare_turns}
use Rattle.ff_core.specs.Drives.{SameSession}
use Rattle.ff_core.specs.Hierarchy.{flash_under}
use Rattle.ff_core.specs.Powered.{IsCutOff}
use Rattle.ff_model.specs.Callers.{AreNumbered, entries_of}
use Rattle.ff_model.specs.declared.history.Entry.{Entry}
use Rattle.ff_trace.specs.Fields.{caller_count}
use Rattle.ff_trace.specs.declared.row.Row.{Row}
use Rattle.ff_sessions.specs.Age.{RisesBy, age_of}
use Rattle.ff_sessions.specs.Items.{BeginWithWork, IsWork, Item, call, turn}
use Rattle.ff_sessions.specs.Stops.{IsStopWithin, items_at, items_behind, stop_items}
use Rattle.ff_sessions.specs.declared.stop.Cursor.{Cursor}
use Rattle.ff_sessions.specs.declared.stop.Stop.{Stop}
use Rattle.ff_sessions.specs.declared.stop.Stop.TheVariants as stops

abbrev pub is_call : Item → Bool
is_call (call caller op) = true
is_call item = false

abbrev pub is_turn : Item → Bool
is_turn (turn kind) = true
is_turn item = false

-- the number of each caller's next call: how many it has made
pub record AreNext (numbers : List ℕ) (entries : List Entry) : Type 0 where
  pub size : length numbers ≡ caller_count
  pub each : (caller : ℕ) → caller < caller_count
      → slice_index numbers caller ≡ length (entries_of caller entries)

-- the session is open: its power is on, and the calls of each caller are numbered from 0
pub record IsOpen {T E : Type 0} (core : CoreView T E) (numbers : List ℕ) : Type 0 where
  pub on : (flash_under core.hierarchy).on ≡ true
  pub numbered : (caller : ℕ) → AreNumbered caller core.history.entries
  pub next : AreNext numbers core.history.entries

-- there is room for these items
pub record HasRoomFor {T E : Type 0} (core : CoreView T E) (items : List Item) : Type 0 where
  pub calls : count_by is_call items ≤ spare_calls core
  pub turns : count_by is_turn items ≤ spare_turns core

-- these items were done behind those before
pub record DidItems {T E : Type 0} (old new : CoreView T E) (items : List Item) : Type 0 where
  pub same : SameSession old new
  pub work : (before : List Item) → IsWork 0 old.history.entries old.log.turns before
      → IsWork 0 new.history.entries new.log.turns (before ++ items)
  pub calls : spare_calls old ≡ spare_calls new + count_by is_call items
  pub turns : spare_turns old ≡ spare_turns new + count_by is_turn items

-- these items were done, and the session is open
pub record HasDone {T E : Type 0} (old new : CoreView T E) (numbers : List ℕ) (items : List Item)
    : Type 0 where
  pub opened : IsOpen new numbers
  pub did : DidItems old new items
  pub rise : RisesBy (age_of old) (age_of new) (length items)

-- these items were done, and then an operation that was cut turned the power off
pub record IsCutBehind {T E : Type 0} (old new : CoreView T E) (items : List Item) : Type 0 where
  pub did : DidItems old new items
  pub numbered : (caller : ℕ) → AreNumbered caller new.history.entries
  pub rise : RisesBy (age_of old) (age_of new) (length items + 1)
  pub cut : IsCutOff (flash_under old.hierarchy) (flash_under new.hierarchy)

-- the power is as a stop says: a cut turned it off in front of a call or turn, and else it is on
abbrev pub IsPoweredAt : {T E : Type 0} → CoreView T E → Stop → List Item → CoreView T E → Type 0
IsPoweredAt old (stops.Cut cursor) left new =
    BeginWithWork left × IsCutOff (flash_under old.hierarchy) (flash_under new.hierarchy)
IsPoweredAt old (stops.Power row arrive) left new = (flash_under new.hierarchy).on ≡ true
IsPoweredAt old stops.End left new = (flash_under new.hierarchy).on ≡ true

-- a session that was open made the rows from a cursor on up to a stop
pub record StopsAt {T E : Type 0} (old : CoreView T E) (rows : List Row) (at : Cursor) (stop : Stop)
    (new : CoreView T E) : Type 0 where
  pub items : List Item
  pub split : items_at rows at ≡ items ++ (stop_items stop ++ items_behind rows stop)
  pub did : DidItems old new items
  pub numbered : (caller : ℕ) → AreNumbered caller new.history.entries
  pub rise : RisesBy (age_of old) (age_of new) (length items + 1)
  pub powered : IsPoweredAt old stop (items_behind rows stop) new
  pub within : IsStopWithin (length rows) stop
