-- The events of a call so far, one more, and the one that answers it.
use Rattle.std.proofs.Common.{◌≡◌, ◌<◌, ◌≤◌, ◌+◌, ◌^◌, ℕ, true, refl, ◌∙◌, arith}
use Rattle.ff_base.specs.declared.numbers.Caller.{Caller}
use Rattle.ff_base.specs.declared.numbers.PageNo.{PageNo}
use Rattle.ff_lines.specs.DeviceState.{IsDevice}
use Rattle.ff_model.specs.declared.op.Op.{Op}
use Rattle.ff_model.specs.declared.op.Reply.{Reply}
use Rattle.ff_store.specs.Calls.{SameStore}
use Rattle.ff_store.specs.PageStore.{PageStoreView}
use Rattle.ff_core.specs.Core.{CoreView, spare_calls}
use Rattle.ff_core.specs.CoreSound.{IsCoreSound}
use Rattle.ff_core.specs.Drives.{IsAnswered, IsDriven, IsEvent, SameSession, cut, most_events, served}
use Rattle.ff_core.specs.EventsLeft.{events_left}
use Rattle.ff_core.specs.Hierarchy.{flash_under, lines_under}
use Rattle.ff_core.specs.Powered.{GoesOffByCut}
use Rattle.ff_core.specs.declared.turn.Driven.{Driven}
use Rattle.ff_core.specs.declared.turn.Driven.TheVariants.{Served as DrivenServed, Off as DrivenOff}
use Rattle.ff_core.specs.declared.turn.Turn.{Turn}
use Rattle.ff_core.specs.declared.turn.Turn.TheVariants.{Served, Miss, Off}
use Rattle.ff_core.proofs.MissFalls.{left_few}
use Rattle.ff_core.proofs.MissRuns.{store_same}

-- so many events of a call were made, and none answered it
pub record IsDrivenFor {T E : Type 0} (count : ℕ) (op : Op) (old new : CoreView T E) : Type 0 where
  pub history : new.history ≡ old.history
  pub log : new.log ≡ old.log
  pub same : SameSession old new
  pub on : (flash_under old.hierarchy).on ≡ true → (flash_under new.hierarchy).on ≡ true
  pub events : new.events ≤ old.events + count
  pub no_fall : (flash_under old.hierarchy).operations ≤ (flash_under new.hierarchy).operations
  pub operations : (flash_under new.hierarchy).operations ≤ (flash_under old.hierarchy).operations + count
  pub left : count + events_left op new.hierarchy ≤ events_left op old.hierarchy

pub driven_none : {T E : Type 0} (op : Op) (core : CoreView T E) → IsDrivenFor 0 op core core
driven_none op core = record {
  history = refl;
  log = refl;
  same = record {
    opening = refl;
    geometry = refl;
    from_counts = refl;
    room = refl;
    turns_room = refl;
    floor = refl;
    picker = refl;
    store = store_same core.hierarchy.device.store;
  };
  on = λ on. on;
  events = omega arith;
  no_fall = omega arith;
  operations = omega arith;
  left = omega arith;
}

store_more : (a b c : PageStoreView) → SameStore a b → SameStore b c → SameStore a c
store_more a b c first second = record {
  blocks = second.blocks ∙ first.blocks;
  per_block = second.per_block ∙ first.per_block;
  pages = second.pages ∙ first.pages;
  plan = second.plan ∙ first.plan;
  making = second.making ∙ first.making;
  low = second.low ∙ first.low;
  opened = second.opened ∙ first.opened;
}

pub session_more : {T E : Type 0} (a b c : CoreView T E) → SameSession a b → SameSession b c → SameSession a c
session_more a b c first second = record {
  opening = second.opening ∙ first.opening;
  geometry = second.geometry ∙ first.geometry;
  from_counts = second.from_counts ∙ first.from_counts;
  room = second.room ∙ first.room;
  turns_room = second.turns_room ∙ first.turns_room;
  floor = second.floor ∙ first.floor;
  picker = second.picker ∙ first.picker;
  store = store_more a.hierarchy.device.store b.hierarchy.device.store c.hierarchy.device.store first.store second.store;
}

-- one more event missed a page
pub driven_more : {T E : Type 0} (count : ℕ) (op : Op) (caller : Caller) (number : ℕ) (page : PageNo) (a b c : CoreView T E)
    → IsDrivenFor count op a b → IsEvent b caller number op (Miss page) c → IsDrivenFor (count + 1) op a c
driven_more count op caller number page a b c driven event =
    let less = event.answer.fewer in
    let before = driven.left in
    let first = driven.events in
    let second = event.events in
    let low = driven.no_fall in
    let lower = event.no_fall in
    let high = driven.operations in
    let higher = event.one_more in
    record {
      history = event.answer.history ∙ driven.history;
      log = event.log ∙ driven.log;
      same = session_more a b c driven.same event.same;
      on = λ on. event.answer.on;
      events = omega (arith, first, second);
      no_fall = omega (arith, low, lower);
      operations = omega (arith, high, higher);
      left = omega (arith, less, before);
    }

-- a call is answered over the history that it began with
answered_since : {T E : Type 0} (a b : CoreView T E) (caller : Caller) (number : ℕ) (op : Op) (driven : Driven) (c : CoreView T E)
    → b.history ≡ a.history → IsAnswered b caller number op driven c → IsAnswered a caller number op driven c
answered_since a b caller number op driven c same (served reply event faults is history on) =
    served reply event faults is (rw same at history) on
answered_since a b caller number op driven c same (cut is history off) = cut is (history ∙ same) off

-- the last event
driven_last : {T E : Type 0} (count : ℕ) (op : Op) (caller : Caller) (number : ℕ) (turn : Turn) (driven : Driven) (a b c : CoreView T E)
    → IsDrivenFor count op a b → events_left op a.hierarchy < most_events a.geometry op → IsEvent b caller number op turn c
    → IsAnswered b caller number op driven c → IsDriven a caller number op driven c
driven_last count op caller number turn driven a b c so_far few event answer =
    let most : ℕ = most_events a.geometry op in
    let enough : count + 1 ≤ most_events a.geometry op = let left = so_far.left in omega (arith, left, few) in
    let first = so_far.events in
    let second = event.events in
    let low = so_far.no_fall in
    let lower = event.no_fall in
    let high = so_far.operations in
    let higher = event.one_more in
    record {
      answer = answered_since a b caller number op driven c so_far.history answer;
      log = event.log ∙ so_far.log;
      same = session_more a b c so_far.same event.same;
      events = omega (arith, first, second, enough);
      no_fall = omega (arith, low, lower);
      operations = omega (arith, high, higher, enough);
    }

pub driven_served : {T E : Type 0} (count : ℕ) (op : Op) (caller : Caller) (number : ℕ) (reply : Reply) (a b c : CoreView T E)
    → IsDrivenFor count op a b → events_left op a.hierarchy < most_events a.geometry op
    → IsEvent b caller number op (Served reply) c → IsDriven a caller number op (DrivenServed reply) c
driven_served count op caller number reply a b c so_far few event =
    driven_last count op caller number (Served reply) (DrivenServed reply) a b c so_far few event event.answer

pub driven_off : {T E : Type 0} (count : ℕ) (op : Op) (caller : Caller) (number : ℕ) (a b c : CoreView T E)
    → IsDrivenFor count op a b → events_left op a.hierarchy < most_events a.geometry op
    → IsEvent b caller number op Off c → IsDriven a caller number op DrivenOff c
driven_off count op caller number a b c so_far few event =
    driven_last count op caller number Off DrivenOff a b c so_far few event event.answer

-- the events so far left the power on, so it went off by the last one
pub driven_power : {T E : Type 0} (count : ℕ) (op : Op) (a b c : CoreView T E) → IsDrivenFor count op a b
    → GoesOffByCut (flash_under b.hierarchy) (flash_under c.hierarchy)
    → GoesOffByCut (flash_under a.hierarchy) (flash_under c.hierarchy)
driven_power count op a b c so_far goes on off =
    let gone = goes (so_far.on on) off in
    let no_fall = so_far.no_fall in
    let counted = gone.counted in
    record { cut = gone.cut; counted = omega (arith, no_fall, counted) }

-- no call takes more events
pub driven_ends : {T E : Type 0} (count : ℕ) (op : Op) (a b : CoreView T E) → IsDrivenFor count op a b
    → events_left op a.hierarchy < most_events a.geometry op → most_events a.geometry op ≤ count → ⊥
driven_ends count op a b so_far few all =
    let left = so_far.left in omega (arith, left, few, all)

-- there is still room for the call
pub driven_spare : {T E : Type 0} (count : ℕ) (op : Op) (a b : CoreView T E) → IsDrivenFor count op a b → 0 < spare_calls a
    → 0 < spare_calls b
driven_spare count op a b so_far spare = rw so_far.history spare

-- the events that a core's call may take, and that the loop counts
pub core_few : {T E : Type 0} (op : Op) (core : CoreView T E) → IsCoreSound core → IsDevice (lines_under core.hierarchy)
    → events_left op core.hierarchy < most_events core.geometry op
core_few op core sound device = left_few op core.geometry core.hierarchy device.few_steps sound.sized.steps

pub few_blocks : {T E : Type 0} (core : CoreView T E) → IsCoreSound core → core.geometry.per_block < 2 ^ 20
few_blocks core sound = let high = sound.sized.limits.per_block.high in omega arith
