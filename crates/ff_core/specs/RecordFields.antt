-- How a record's fields show, and what they keep.
use Rattle.ff_core.specs.Record.{RecordView, IsRecordSound}
use Rattle.ff_core.specs.declared.account.Record.TheInside.{Inside}

-- the record that the fields show
abbrev pub view_of : Inside → RecordView
view_of r = record {
  entries = r.history.entries;
  turns = r.log.turns;
  counts = r.counts;
  geometry = r.geometry;
  from_event = r.from_event;
  from_faults = r.from_faults;
  events = r.events;
  kept = r.kept;
}

-- the record is sound
abbrev pub IsKept : Inside → Type 0
IsKept r = IsRecordSound (view_of r)
