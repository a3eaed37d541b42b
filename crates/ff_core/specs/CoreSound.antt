-- What a core keeps.
use Rattle.std.specs.Prelude.{ℕ, ◌+◌, ◌-◌, ◌*◌, ◌<◌, ◌≤◌, ◌≡◌, ◌^◌, Bool, true, false, length, count_by, IsSome}
use Rattle.ff_base.specs.Count.{last_event}
use Rattle.ff_base.specs.Geometry.{IsWithinLimits, capacity_of}
use Rattle.ff_calls.specs.Told.{IsTold}
use Rattle.ff_evict.specs.Evictor.{IsHandInside}
use Rattle.ff_gc.specs.declared.counts.FlashCounts.{FlashCounts}
use Rattle.ff_memory.specs.declared.access.What.{What}
use Rattle.ff_memory.specs.declared.access.What.TheVariants.{Started}
use Rattle.ff_model.specs.Legal.{next_event}
use Rattle.ff_model.specs.declared.counts.Kind.{Kind}
use Rattle.ff_model.specs.declared.counts.Kind.TheVariants.{Promote}
use Rattle.ff_model.specs.declared.history.Entry.{Entry}
use Rattle.ff_model.specs.declared.op.Op.{Op}
use Rattle.ff_model.specs.declared.op.Op.TheVariants.{Load, Store}
use Rattle.ff_model.specs.declared.op.Reply.{Reply}
use Rattle.ff_model.specs.declared.op.Reply.TheVariants.{Bytes, Done, Fault}
use Rattle.ff_core.specs.Core.{CoreView, from_operations}
use Rattle.ff_core.specs.Hierarchy.{flash_under, lines_under}
use Rattle.ff_core.specs.declared.log.Back.{Back}
use Rattle.ff_core.specs.declared.log.Back.TheVariants.{Did, Failed}
use Rattle.ff_core.specs.declared.log.Turned.{Turned}

-- the parts have the sizes of the geometry
pub record IsSized {T E : Type 0} (core : CoreView T E) : Type 0 where
  pub limits : IsWithinLimits core.geometry
  pub pages : core.opening.pages ≡ core.geometry.pages
  pub capacity : core.opening.capacity ≡ capacity_of core.geometry
  pub window : (lines_under core.hierarchy).most_posts ≡ core.geometry.window
  pub steps : (lines_under core.hierarchy).most_steps ≡ 6 * core.geometry.per_block + 10
  pub sets : core.hierarchy.device.cache.sets ≡ core.geometry.sets
  pub ways : core.hierarchy.device.cache.ways ≡ core.geometry.ways
  pub counters : length core.hierarchy.policy.counters ≡ core.geometry.pages
  pub frames : length core.hierarchy.memory.frames ≡ core.geometry.frames
  pub slots : length core.hierarchy.memory.slots ≡ core.geometry.plb
  pub hand : IsHandInside core.hierarchy.evictor.hand core.hierarchy.memory.frames
  pub few_calls : core.history.room < 2 ^ 32
  pub few_turns : core.log.room < 2 ^ 32

-- how many events the session has made
abbrev pub events_made : {T E : Type 0} → CoreView T E → ℕ
events_made core = core.events - core.opening.event

-- the event numbers rise, and each event made at most one operation. One that was cut is no event
pub record IsTimed {T E : Type 0} (core : CoreView T E) : Type 0 where
  pub next : next_event core.opening core.history.entries ≤ core.events
  pub from_on : core.opening.event ≤ core.events
  pub not_past : core.events ≤ last_event
  pub few : from_operations core + (last_event - core.opening.event) ≤ 2 ^ 63
  pub on : (flash_under core.hierarchy).on ≡ true
      → (flash_under core.hierarchy).operations ≤ from_operations core + events_made core
  pub off : (flash_under core.hierarchy).operations ≤ from_operations core + events_made core + 1

-- the entry is a load or a store that was served
abbrev pub is_served_op : Op → Reply → Bool
is_served_op (Load at len) (Bytes bytes) = true
is_served_op (Store at bytes) Done = true
is_served_op op reply = false

abbrev pub is_served_access : Entry → Bool
is_served_access entry = is_served_op entry.op entry.reply

-- the entry says that the flash failed
abbrev pub is_fault : Reply → Bool
is_fault Fault = true
is_fault reply = false

abbrev pub has_fault : Entry → Bool
has_fault entry = is_fault entry.reply

-- the turn failed
abbrev pub is_failed : Back → Bool
is_failed Failed = true
is_failed back = false

abbrev pub has_failed : Turned → Bool
has_failed turn = is_failed turn.answer

-- a promotion began in the turn
abbrev pub is_start : What → Bool
is_start Started = true
is_start what = false

abbrev pub is_promotion_by : Kind → Back → Bool
is_promotion_by Promote (Did what) = is_start what
is_promotion_by kind back = false

abbrev pub is_promotion : Turned → Bool
is_promotion turn = is_promotion_by turn.kind turn.answer

-- how many failures the history and the log tell of, over those at the opening
abbrev pub faults_told : {T E : Type 0} → CoreView T E → ℕ
faults_told core = core.opening.faults
    + (count_by has_fault core.history.entries + count_by has_failed core.log.turns)

-- no kind of operation was counted more often at the opening than now
pub record IsSince (from now : FlashCounts) : Type 0 where
  pub reads : from.reads ≤ now.reads
  pub programs : from.programs ≤ now.programs
  pub seals : from.seals ≤ now.seals
  pub erases : from.erases ≤ now.erases

-- what is counted: served loads and stores by side, promotions, each paid for by accesses, and failures. Where the
-- flash tells no plan, a cut may be counted as a failure by it
pub record IsCounted {T E : Type 0} (core : CoreView T E) : Type 0 where
  pub served : core.tally.device + core.tally.host
      ≡ count_by is_served_access core.history.entries
  pub promotions : core.tally.promoted ≡ count_by is_promotion core.log.turns
  pub paid : core.hierarchy.policy.promotions ≡ core.tally.promoted
  pub accesses : core.hierarchy.policy.accesses ≡ core.tally.device
  pub hits : core.hierarchy.policy.hits ≤ core.tally.host
  pub moves : core.tally.landed + core.tally.dropped + core.tally.promoted + core.tally.retreated
      ≤ events_made core
  pub faults : faults_told core ≤ (flash_under core.hierarchy).faults
  pub planned : IsSome (flash_under core.hierarchy).plan
      → faults_told core ≡ (flash_under core.hierarchy).faults
  pub kinds : IsSince core.from_counts core.hierarchy.device.store.world.counts

pub record IsCoreSound {T E : Type 0} (core : CoreView T E) : Type 0 where
  pub sized : IsSized core
  pub told : IsTold core.opening core.history.entries core.hierarchy.memory
      (lines_under core.hierarchy)
  pub timed : IsTimed core
  pub counted : IsCounted core
