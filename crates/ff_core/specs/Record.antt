-- What a contract sees of the record of a session.
use Rattle.std.specs.Prelude.{ℕ, ◌+◌, ◌≤◌, ◌≡◌, List, length, count_by}
use Rattle.ff_base.specs.Count.{last_event}
use Rattle.ff_base.specs.declared.geometry.Geometry.{Geometry}
use Rattle.ff_model.specs.Image.{Content}
use Rattle.ff_model.specs.Legal.{Opening, IsLegal, next_event, opening_of}
use Rattle.ff_model.specs.declared.counts.Counts.{Counts}
use Rattle.ff_model.specs.declared.history.Entry.{Entry}
use Rattle.ff_core.specs.Core.{CoreView, counts_of}
use Rattle.ff_core.specs.CoreSound.{has_failed, has_fault, is_promotion, is_served_access}
use Rattle.ff_core.specs.declared.log.Turned.{Turned}

-- the answered calls, the background turns, the counts, the geometry, the event number and the count of faults at the
-- opening, the event number at the end, and how many entries are kept
pub record RecordView : Type 0 where
  pub entries : List Entry
  pub turns : List Turned
  pub counts : Counts
  pub geometry : Geometry
  pub from_event : ℕ
  pub from_faults : ℕ
  pub events : ℕ
  pub kept : ℕ

-- how the session of a record was opened, where it began from an image
abbrev pub opening_from : Content → RecordView → Opening
opening_from base account =
    opening_of base account.geometry account.from_event account.from_faults

-- what a record keeps: its history is legal over its opening from some image, the event number is past its entries, and
-- what it counts stands in its history and its log
pub record IsRecordSound (account : RecordView) : Type 0 where
  pub base : Content
  pub legal : IsLegal (opening_from base account) account.entries
  pub events : next_event (opening_from base account) account.entries ≤ account.events
  pub not_past : account.events ≤ last_event
  pub served : account.counts.device + account.counts.host
      ≡ count_by is_served_access account.entries
  pub promotions : account.counts.promoted ≡ count_by is_promotion account.turns
  pub faults : count_by has_fault account.entries + count_by has_failed account.turns
      ≤ account.counts.faults
  pub kept : account.kept ≤ length account.entries

-- the record that a core ends in, where so many entries are kept
abbrev pub record_of : {T E : Type 0} → CoreView T E → ℕ → RecordView
record_of core kept = record {
  entries = core.history.entries;
  turns = core.log.turns;
  counts = counts_of core;
  geometry = core.geometry;
  from_event = core.opening.event;
  from_faults = core.opening.faults;
  events = core.events;
  kept = kept;
}
