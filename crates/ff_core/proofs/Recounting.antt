-- What each event adds to what is counted.
use Rattle.std.proofs.Common.{◌≡◌, ◌≤◌, ◌<◌, ◌+◌, ℕ, Bool, true, false, cond, refl, arith}
use Rattle.ff_base.specs.Count.{last_event}
use Rattle.ff_base.specs.declared.numbers.Caller.{Caller}
use Rattle.ff_flash.specs.declared.flash.FlashStop.TheVariants.{Failed as FailedStop}
use Rattle.ff_model.specs.declared.counts.Kind.{Kind}
use Rattle.ff_model.specs.declared.history.Entry.{Entry}
use Rattle.ff_model.specs.declared.op.Op.{Op}
use Rattle.ff_model.specs.declared.op.Op.TheVariants.{Load, Store, Verify, Mark, Release}
use Rattle.ff_model.specs.declared.op.Reply.{Reply}
use Rattle.ff_model.specs.declared.op.Reply.TheVariants.{Fault}
use Rattle.std.specs.Prelude.{None, Some}
use Rattle.ff_core.specs.Backs.{turned_now, with_logged}
use Rattle.ff_core.specs.Core.{CoreView, entry_now, next_number, with_entry}
use Rattle.ff_core.specs.CoreSound.{has_failed, has_fault, is_failed, is_fault, is_promotion, is_promotion_by, is_served_access, is_served_op}
use Rattle.ff_core.specs.Hierarchy.{HierarchyView}
use Rattle.ff_core.specs.declared.log.Back.{Back}
use Rattle.ff_core.specs.declared.tally.EventTally.{EventTally}
use Rattle.ff_core.proofs.Counting.{IsRecounted, count-more}
use Rattle.ff_core.proofs.Running.{FailsBy, RunsOnce, fails-none, fails-once, runs-same}
use Rattle.ff_core.proofs.Tallied.{CountsAlike, CountsMove, moves_of}

-- the tally after a call was answered
pub record CountsCall (passes : Bool) (old new : EventTally) : Type 0 where
  pub served : new.device + new.host ≡ old.device + old.host + cond {A = ℕ} passes 1 0
  pub promoted : new.promoted ≡ old.promoted
  pub moves : moves_of new ≡ moves_of old

-- a call was answered without an operation
pub recounted-answered : {T E : Type 0} (core : CoreView T E) (caller : Caller) (number : ℕ) (op : Op) (reply : Reply) (faults : ℕ)
    (passes : Bool) (events : ℕ) (tally : EventTally) (h : HierarchyView T E) → is_served_op op reply ≡ passes → is_fault reply ≡ false
    → CountsCall passes core.tally tally → CountsAlike h.policy tally → core.events ≤ events
    → h.device.store ≡ core.hierarchy.device.store
    → IsRecounted core (with_entry (entry_now core caller number op reply faults) core.history) events core.log tally h
recounted-answered core caller number op reply faults passes events tally h serves well counts alike rose store =
    let entry : Entry = entry_now core caller number op reply faults in
    let served = count-more is_served_access core.history.entries entry passes serves in
    let told = count-more has_fault core.history.entries entry false well in
    let runs = runs-same core.hierarchy.device.store h.device.store store in
    let one = counts.served in
    let two = counts.promoted in
    let three = counts.moves in
    record {
      served = omega arith;
      promotions = omega arith;
      alike = alike;
      moves = omega arith;
      failures = 0;
      told = omega arith;
      fails = fails-none core.hierarchy.device.store h.device.store runs;
    }

fault-unserved : (op : Op) → is_served_op op Fault ≡ false
fault-unserved (Load at len) = refl
fault-unserved (Store at bytes) = refl
fault-unserved Verify = refl
fault-unserved (Mark page from count) = refl
fault-unserved (Release page from count) = refl

-- an operation failed, and a call was answered so
pub recounted-fault : {T E : Type 0} (core : CoreView T E) (caller : Caller) (number : ℕ) (op : Op) (faults : ℕ) (events : ℕ)
    (h : HierarchyView T E) → CountsAlike h.policy core.tally → core.events ≤ events
    → RunsOnce core.hierarchy.device.store (Some FailedStop) h.device.store
    → IsRecounted core (with_entry (entry_now core caller number op Fault faults) core.history) events core.log core.tally h
recounted-fault core caller number op faults events h alike rose runs =
    let entry : Entry = entry_now core caller number op Fault faults in
    let served = count-more is_served_access core.history.entries entry false (fault-unserved op) in
    let told = count-more has_fault core.history.entries entry true refl in
    record {
      served = omega arith;
      promotions = refl;
      alike = alike;
      moves = omega arith;
      failures = 1;
      told = omega arith;
      fails = fails-once core.hierarchy.device.store h.device.store runs;
    }

-- a step was made for a call, which is no promotion
pub recounted-stepped : {T E : Type 0} (core : CoreView T E) (tally : EventTally) (h : HierarchyView T E) → core.events < last_event
    → CountsMove core.tally tally → tally.promoted ≡ core.tally.promoted → CountsAlike h.policy tally
    → RunsOnce core.hierarchy.device.store None h.device.store
    → IsRecounted core core.history (next_number core.events) core.log tally h
recounted-stepped core tally h going counts promoted alike runs =
    let device = counts.device in
    let host = counts.host in
    let moves = counts.moves in
    record {
      served = omega arith;
      promotions = omega arith;
      alike = alike;
      moves = omega arith;
      failures = 0;
      told = omega arith;
      fails = fails-none core.hierarchy.device.store h.device.store runs;
    }

-- nothing was done that is counted
pub recounted-still : {T E : Type 0} (core : CoreView T E) (h : HierarchyView T E) → CountsAlike h.policy core.tally
    → FailsBy 0 core.hierarchy.device.store h.device.store → IsRecounted core core.history core.events core.log core.tally h
recounted-still core h alike fails = record {
  served = refl;
  promotions = refl;
  alike = alike;
  moves = omega arith;
  failures = 0;
  told = omega arith;
  fails = fails;
}

-- a turn was made that didn't fail
pub recounted-turned : {T E : Type 0} (core : CoreView T E) (kind : Kind) (back : Back) (events : ℕ) (tally : EventTally)
    (h : HierarchyView T E) → tally.device ≡ core.tally.device → tally.host ≡ core.tally.host
    → moves_of tally + core.events ≤ moves_of core.tally + events
    → tally.promoted ≡ core.tally.promoted + cond {A = ℕ} (is_promotion_by kind back) 1 0 → is_failed back ≡ false
    → CountsAlike h.policy tally → RunsOnce core.hierarchy.device.store None h.device.store
    → IsRecounted core core.history events (with_logged (turned_now core kind back) core.log) tally h
recounted-turned core kind back events tally h device host moves promoted well alike runs =
    let turn = turned_now core kind back in
    let promotions = count-more is_promotion core.log.turns turn (is_promotion_by kind back) refl in
    let told = count-more has_failed core.log.turns turn false well in
    record {
      served = omega arith;
      promotions = omega arith;
      alike = alike;
      moves = moves;
      failures = 0;
      told = omega arith;
      fails = fails-none core.hierarchy.device.store h.device.store runs;
    }

-- an operation failed in a turn
pub recounted-failed : {T E : Type 0} (core : CoreView T E) (kind : Kind) (back : Back) (events : ℕ) (h : HierarchyView T E)
    → core.events ≤ events → is_promotion_by kind back ≡ false → is_failed back ≡ true → CountsAlike h.policy core.tally
    → RunsOnce core.hierarchy.device.store (Some FailedStop) h.device.store
    → IsRecounted core core.history events (with_logged (turned_now core kind back) core.log) core.tally h
recounted-failed core kind back events h rose none failed alike runs =
    let turn = turned_now core kind back in
    let promotions = count-more is_promotion core.log.turns turn false none in
    let told = count-more has_failed core.log.turns turn true failed in
    record {
      served = refl;
      promotions = omega arith;
      alike = alike;
      moves = omega arith;
      failures = 1;
      told = omega arith;
      fails = fails-once core.hierarchy.device.store h.device.store runs;
    }
