-- The event numbers rise with each event, and each makes at most one operation.
use Rattle.std.proofs.Common.{◌≡◌, ◌≤◌, ◌<◌, ◌+◌, ℕ, true, false, ap, arith}
use Rattle.ff_base.specs.Count.{last_event}
use Rattle.ff_base.specs.declared.numbers.Caller.{Caller}
use Rattle.ff_model.specs.History.{Entries}
use Rattle.ff_model.specs.Legal.{next_event}
use Rattle.ff_model.specs.declared.op.Op.{Op}
use Rattle.ff_model.specs.declared.op.Reply.{Reply}
use Rattle.ff_model.proofs.Appended.{next_event-append}
use Rattle.ff_store.specs.PageStore.{PageStoreView}
use Rattle.ff_core.specs.Core.{CoreView, entry_now, next_number, with_entry}
use Rattle.ff_core.specs.CoreSound.{IsTimed}
use Rattle.ff_core.specs.Hierarchy.{HierarchyView, flash_under}
use Rattle.ff_core.specs.Log.{LogView}
use Rattle.ff_core.specs.declared.tally.EventTally.{EventTally}

-- the event number behind an event, its history and its operations
pub record IsLater {T E : Type 0} (core : CoreView T E) (history : Entries) (events : ℕ) (h : HierarchyView T E) : Type 0 where
  pub next : next_event core.opening history.entries ≤ events
  pub rose : core.events ≤ events
  pub not_past : events ≤ last_event
  pub opened : h.device.store.opened ≡ core.hierarchy.device.store.opened
  pub spent : (flash_under h).on ≡ true → (flash_under h).operations + core.events ≤ (flash_under core.hierarchy).operations + events
  pub cut : (flash_under h).operations + core.events ≤ (flash_under core.hierarchy).operations + events + 1

-- an event with the power on
pub timed-over : {T E : Type 0} (core : CoreView T E) (history : Entries) (events : ℕ) (log : LogView) (tally : EventTally)
    (h : HierarchyView T E) → IsTimed core → (flash_under core.hierarchy).on ≡ true → IsLater core history events h
    → IsTimed (record core { history = history; events = events; log = log; tally = tally; hierarchy = h })
timed-over core history events log tally h timed on later =
    let from_on = timed.from_on in
    let rose = later.rose in
    let opened = later.opened in
    let few = timed.few in
    let before = timed.on on in
    let cut = later.cut in
    record {
      next = later.next;
      from_on = omega arith;
      not_past = later.not_past;
      few = omega arith;
      on = λ still. let spent = later.spent still in omega arith;
      off = omega arith;
    }

-- nothing was done but to answer a call
pub later-answered : {T E : Type 0} (core : CoreView T E) (caller : Caller) (number : ℕ) (op : Op) (reply : Reply) (faults : ℕ)
    (h : HierarchyView T E) → IsTimed core → h.device.store ≡ core.hierarchy.device.store
    → IsLater core (with_entry (entry_now core caller number op reply faults) core.history) (next_number core.events) h
later-answered core caller number op reply faults h timed store =
    let last = next_event-append core.opening core.history.entries (entry_now core caller number op reply faults) in
    let not_past = timed.not_past in
    let operations = ap (λ (s : PageStoreView). s.world.flash.operations) store in
    record {
      next = omega arith;
      rose = omega arith;
      not_past = omega arith;
      opened = ap (λ (s : PageStoreView). s.opened) store;
      spent = λ on. omega arith;
      cut = omega arith;
    }

-- a call was answered that an operation was made for
pub later-fault : {T E : Type 0} (core : CoreView T E) (caller : Caller) (number : ℕ) (op : Op) (reply : Reply) (faults : ℕ)
    (h : HierarchyView T E) → core.events < last_event → h.device.store.opened ≡ core.hierarchy.device.store.opened
    → (flash_under h).operations ≤ (flash_under core.hierarchy).operations + 1
    → IsLater core (with_entry (entry_now core caller number op reply faults) core.history) (next_number core.events) h
later-fault core caller number op reply faults h going opened one_more =
    let last = next_event-append core.opening core.history.entries (entry_now core caller number op reply faults) in
    record {
      next = omega arith;
      rose = omega arith;
      not_past = omega arith;
      opened = opened;
      spent = λ on. omega arith;
      cut = omega arith;
    }

-- a step was made, and no call was answered
pub later-stepped : {T E : Type 0} (core : CoreView T E) (h : HierarchyView T E) → IsTimed core → core.events < last_event
    → h.device.store.opened ≡ core.hierarchy.device.store.opened
    → (flash_under h).operations ≤ (flash_under core.hierarchy).operations + 1
    → IsLater core core.history (next_number core.events) h
later-stepped core h timed going opened one_more =
    let next = timed.next in
    record {
      next = omega arith;
      rose = omega arith;
      not_past = omega arith;
      opened = opened;
      spent = λ on. omega arith;
      cut = omega arith;
    }

-- an operation was cut, and the power is off
pub later-cut : {T E : Type 0} (core : CoreView T E) (h : HierarchyView T E) → IsTimed core
    → h.device.store.opened ≡ core.hierarchy.device.store.opened
    → (flash_under h).operations ≤ (flash_under core.hierarchy).operations + 1 → (flash_under h).on ≡ false
    → IsLater core core.history core.events h
later-cut core h timed opened one_more off = record {
  next = timed.next;
  rose = omega arith;
  not_past = timed.not_past;
  opened = opened;
  spent = λ on. absurd (let down = off in cc);
  cut = omega arith;
}

-- nothing was done to the store
pub later-looked : {T E : Type 0} (core : CoreView T E) (h : HierarchyView T E) → IsTimed core
    → h.device.store ≡ core.hierarchy.device.store → IsLater core core.history core.events h
later-looked core h timed store =
    let operations = ap (λ (s : PageStoreView). s.world.flash.operations) store in
    record {
      next = timed.next;
      rose = omega arith;
      not_past = timed.not_past;
      opened = ap (λ (s : PageStoreView). s.opened) store;
      spent = λ on. omega arith;
      cut = omega arith;
    }
