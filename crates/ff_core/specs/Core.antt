-- What a contract sees of a core.
use Rattle.std.specs.Prelude.{ℕ, ◌+◌, ◌-◌, ◌∷◌, ◌++◌, [], length, min}
use Rattle.ff_base.specs.Count.{last_event}
use Rattle.ff_base.specs.declared.geometry.Geometry.{Geometry}
use Rattle.ff_base.specs.declared.numbers.Caller.{Caller}
use Rattle.ff_gc.specs.FlashCounts.{total_of}
use Rattle.ff_gc.specs.declared.counts.FlashCounts.{FlashCounts}
use Rattle.ff_model.specs.declared.counts.Counts.{Counts}
use Rattle.ff_model.specs.History.{Entries}
use Rattle.ff_model.specs.Legal.{Opening}
use Rattle.ff_model.specs.declared.history.Entry.{Entry}
use Rattle.ff_model.specs.declared.op.Op.{Op}
use Rattle.ff_model.specs.declared.op.Reply.{Reply}
use Rattle.ff_core.specs.Hierarchy.{HierarchyView, flash_under}
use Rattle.ff_core.specs.Log.{LogView}
use Rattle.ff_core.specs.declared.tally.EventTally.{EventTally}

-- how the session was opened, its geometry, how many operations of each kind the store had counted then, its answered
-- calls, the event number, its background turns, what was done, and the hierarchy
pub record CoreView (T E : Type 0) : Type 0 where
  pub opening : Opening
  pub geometry : Geometry
  pub from_counts : FlashCounts
  pub history : Entries
  pub events : ℕ
  pub log : LogView
  pub tally : EventTally
  pub hierarchy : HierarchyView T E

-- for how many more calls there is room, and for how many more turns
abbrev pub spare_calls : {T E : Type 0} → CoreView T E → ℕ
spare_calls core = core.history.room - length core.history.entries

abbrev pub spare_turns : {T E : Type 0} → CoreView T E → ℕ
spare_turns core = core.log.room - length core.log.turns

-- how many operations the flash had made when the session was opened
abbrev pub from_operations : {T E : Type 0} → CoreView T E → ℕ
from_operations core = core.hierarchy.device.store.opened + total_of core.from_counts

-- the event number after an event
abbrev pub next_number : ℕ → ℕ
next_number event = min (event + 1) last_event

-- the entry of a call that is answered now, where the flash has failed so often
abbrev pub entry_now : {T E : Type 0} → CoreView T E → Caller → ℕ → Op → Reply → ℕ → Entry
entry_now core caller number op reply faults = record {
  event = core.events;
  caller = caller;
  number = number;
  op = op;
  reply = reply;
  faults = faults;
}

-- the history with one more entry
abbrev pub with_entry : Entry → Entries → Entries
with_entry entry history = record history { entries = history.entries ++ entry ∷ [] }

-- what the session did, with the flash operations and failures since its opening
abbrev pub counts_of : {T E : Type 0} → CoreView T E → Counts
counts_of core = record {
  device = core.tally.device;
  host = core.tally.host;
  landed = core.tally.landed;
  dropped = core.tally.dropped;
  promoted = core.tally.promoted;
  retreated = core.tally.retreated;
  reads = core.hierarchy.device.store.world.counts.reads - core.from_counts.reads;
  programs = core.hierarchy.device.store.world.counts.programs - core.from_counts.programs;
  seals = core.hierarchy.device.store.world.counts.seals - core.from_counts.seals;
  erases = core.hierarchy.device.store.world.counts.erases - core.from_counts.erases;
  faults = (flash_under core.hierarchy).faults - core.opening.faults;
}
