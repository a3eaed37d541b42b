-- What a background turn leaves of a session, and that the power goes off by a cut alone.
use Rattle.std.proofs.Common.{◌≡◌, ◌==◌, ◌≤◌, ◌+◌, ℕ, Bool, true, false, Option, Some, None, refl, sym, ap, ◌∙◌, subst, arith}
use Rattle.std.proofs.lemmas.Bool.{both_ways}
use Rattle.ff_base.specs.Count.{last_event}
use Rattle.ff_base.specs.declared.numbers.Caller.{Caller}
use Rattle.ff_flash.specs.FlashState.{FlashState}
use Rattle.ff_flash.specs.declared.flash.FlashStop.{FlashStop}
use Rattle.ff_gc.specs.Steps.{Takes, made as made_world, rested as rested_world}
use Rattle.ff_model.specs.declared.counts.Kind.{Kind}
use Rattle.ff_model.specs.declared.op.Op.{Op}
use Rattle.ff_model.specs.declared.op.Reply.{Reply}
use Rattle.ff_store.specs.Calls.{SameStore}
use Rattle.ff_store.specs.PageStore.{PageStoreView}
use Rattle.ff_device.specs.StoreSteps.{CallsOnce}
use Rattle.ff_core.specs.BackEvents.{IsBackEvent, IsLogged}
use Rattle.ff_core.specs.Backs.{IsBack, IsBackAt, IsBackBy, back_of, core_after, rested}
use Rattle.ff_core.specs.Core.{CoreView}
use Rattle.ff_core.specs.Hierarchy.{HierarchyView, flash_under}
use Rattle.ff_core.specs.Performs.{IsAdvanced, IsWorkedFor, Performs, steps, yields}
use Rattle.ff_core.specs.Powered.{GoesOffByCut}
use Rattle.ff_model.specs.Legal.{refusal}
use Rattle.ff_core.specs.Turns.{IsAttempt, IsTurn, IsTurnBy, misses, serves}
use Rattle.ff_core.specs.declared.action.Action.{Action}
use Rattle.ff_core.specs.declared.action.Action.TheVariants.{Advance, TurnBack, Work, Promote, Retreat, Evict, Collect, Drain}
use Rattle.ff_core.specs.declared.action.Progress.{Progress}
use Rattle.ff_core.specs.declared.action.Progress.TheVariants.{Did, Failed, Off}
use Rattle.ff_core.specs.declared.log.Back.{Back}
use Rattle.ff_core.specs.declared.log.Back.TheVariants.{Idle, Spent, Off as BackOff}
use Rattle.ff_core.specs.declared.turn.Turn.{Turn}
use Rattle.ff_core.proofs.DriveEvents.{next_few}
use Rattle.ff_core.proofs.MissRuns.{store_same}
use Rattle.ff_core.proofs.Owning.{own_store}
use Rattle.ff_core.proofs.Running.{Runs, performs-runs}

-- the power is on, so it didn't go off
stays_on : (old new : FlashState) → new.on ≡ true → GoesOffByCut old new
stays_on old new on was off = absurd (both_ways new.on off on)

-- the power was off before
was_off : (old new : FlashState) → old.on ≡ false → GoesOffByCut old new
was_off old new off was gone = absurd (both_ways old.on off was)

-- an action turns the power off by a cut alone
action_cut : {T E : Type 0} (progress : Progress) (h h' : HierarchyView T E) → (flash_under h).on ≡ true → Runs progress h h'
    → GoesOffByCut (flash_under h) (flash_under h')
action_cut (Did what) h h' on runs = stays_on (flash_under h) (flash_under h') (runs.power on)
action_cut Failed h h' on runs = stays_on (flash_under h) (flash_under h') (runs.power on)
action_cut Off h h' on runs = λ was off. runs.power on

-- a call of the store with the power on undoes no operation
taken_rise : (old new : PageStoreView) (stop : Option FlashStop) → old.world.flash.on ≡ true → Takes old.world stop new.world
    → old.world.flash.operations ≤ new.world.flash.operations
taken_rise old new stop on (made_world kind makes) = let counted = makes.flash.power.counted on in omega arith
taken_rise old new stop on (rested_world flash counts none) =
    let same = ap (λ (f : FlashState). f.operations) flash in omega arith

-- what a performed action leaves of a hierarchy
record Leaves {T E : Type 0} (h h' : HierarchyView T E) : Type 0 where
  floor : h'.policy.tuner ≡ h.policy.tuner
  picker : h'.evictor.picker ≡ h.evictor.picker
  store : SameStore h.device.store h'.device.store
  no_fall : (flash_under h).operations ≤ (flash_under h').operations

-- the store was let alone
left_still : {T E : Type 0} (h h' : HierarchyView T E) → h'.device.store ≡ h.device.store
    → h'.policy.tuner ≡ h.policy.tuner → h'.evictor.picker ≡ h.evictor.picker → Leaves h h'
left_still h h' store floor picker = record {
  floor = floor;
  picker = picker;
  store = rw store (store_same h.device.store);
  no_fall = let same = ap (λ (s : PageStoreView). s.world.flash.operations) store in omega arith;
}

-- the store was called
left_called : {T E : Type 0} (h : HierarchyView T E) (stop : Option FlashStop) (h' : HierarchyView T E) → (flash_under h).on ≡ true
    → CallsOnce h.device.store stop h'.device.store → h' ≡ record h { device = h'.device } → Leaves h h'
left_called {T = T} {E = E} h stop h' on calls rest =
    let call = calls.with_power on in
    record {
      floor = ap (λ (g : HierarchyView T E). g.policy.tuner) rest;
      picker = ap (λ (g : HierarchyView T E). g.evictor.picker) rest;
      store = call.same;
      no_fall = taken_rise h.device.store h'.device.store stop on call.takes;
    }

left_advanced : {T E : Type 0} (slot : ℕ) (h : HierarchyView T E) (progress : Progress) (h' : HierarchyView T E)
    → IsAdvanced slot h progress h' → Leaves h h'
left_advanced {T = T} {E = E} slot h progress h' is =
    left_still h h' (own_store h.device h'.device is.moved.own) (ap (λ (g : HierarchyView T E). g.policy.tuner) is.rest)
    (ap (λ (g : HierarchyView T E). g.evictor.picker) is.rest)

left_worked : {T E : Type 0} (page : ℕ) (h : HierarchyView T E) (progress : Progress) (h' : HierarchyView T E)
    → (flash_under h).on ≡ true → IsWorkedFor page h progress h' → Leaves h h'
left_worked page h progress h' on (steps work came step free) = left_called h _ h' on step.calls step.rest
left_worked page h progress h' on (yields other slot pinned found is) = left_advanced slot h progress h' is

performs_leaves : {T E : Type 0} (action : Action) (h : HierarchyView T E) (progress : Progress) (h' : HierarchyView T E)
    → (flash_under h).on ≡ true → Performs action h progress h' → Leaves h h'
performs_leaves (Advance slot) h progress h' on is = left_advanced slot h progress h' is
performs_leaves {T = T} {E = E} (TurnBack slot) h progress h' on is =
    left_still h h' (own_store h.device h'.device is.moved.own) (ap (λ (g : HierarchyView T E). g.policy.tuner) is.rest)
    (ap (λ (g : HierarchyView T E). g.evictor.picker) is.rest)
performs_leaves (Work page) h progress h' on is = left_worked page.0 h progress h' on is
performs_leaves {T = T} {E = E} (Promote page) h progress h' on is =
    left_still h h' (own_store h.device h'.device is.moved.own) (ap (λ (g : HierarchyView T E). g.policy.tuner) is.rest)
    (ap (λ (g : HierarchyView T E). g.evictor.picker) is.rest)
performs_leaves {T = T} {E = E} (Retreat page) h progress h' on is =
    left_still h h' (own_store h.device h'.device is.moved.own) (ap (λ (g : HierarchyView T E). g.policy.tuner) is.rest)
    (ap (λ (g : HierarchyView T E). g.evictor.picker) is.rest)
performs_leaves {T = T} {E = E} (Evict frame) h progress h' on is =
    left_still h h' (own_store h.device h'.device is.moved.own) (ap (λ (g : HierarchyView T E). g.policy.tuner) is.rest)
    (ap (λ (g : HierarchyView T E). g.evictor.picker) is.rest)
performs_leaves Collect h progress h' on is = left_called h _ h' on is.calls is.rest
performs_leaves {T = T} {E = E} Drain h progress h' on is =
    left_still h h' (own_store h.device h'.device is.own) (ap (λ (g : HierarchyView T E). g.policy.tuner) is.rest)
    (ap (λ (g : HierarchyView T E). g.evictor.picker) is.rest)

-- what a background turn leaves, and that the power goes off by a cut alone
record LeavesSession {T E : Type 0} (old : CoreView T E) (kind : Kind) (back : Back) (new : CoreView T E) : Type 0 where
  event : IsBackEvent old kind back new
  power : GoesOffByCut (flash_under old.hierarchy) (flash_under new.hierarchy)

-- no part but the log and the counts changed
left_by : {T E : Type 0} (old : CoreView T E) (kind : Kind) (back : Back) (new : CoreView T E) → new ≡ record old {
  events = new.events;
  log = record old.log { turns = new.log.turns };
  tally = new.tally;
  hierarchy = new.hierarchy;
} → Leaves old.hierarchy new.hierarchy → GoesOffByCut (flash_under old.hierarchy) (flash_under new.hierarchy)
    → IsLogged old kind back new → new.events ≤ old.events + 1
    → (flash_under new.hierarchy).operations ≤ (flash_under old.hierarchy).operations + 1 → LeavesSession old kind back new
left_by {T = T} {E = E} old kind back new is leaves power logged events one_more = record {
  event = record {
    logged = logged;
    history = ap (λ (c : CoreView T E). c.history) is;
    same = record {
      opening = ap (λ (c : CoreView T E). c.opening) is;
      geometry = ap (λ (c : CoreView T E). c.geometry) is;
      from_counts = ap (λ (c : CoreView T E). c.from_counts) is;
      room = ap (λ (c : CoreView T E). c.history.room) is;
      turns_room = ap (λ (c : CoreView T E). c.log.room) is;
      floor = leaves.floor;
      picker = leaves.picker;
      store = leaves.store;
    };
    events = events;
    no_fall = leaves.no_fall;
    one_more = one_more;
  };
  power = power;
}

-- the hierarchy was let alone
rested_leaves : {T E : Type 0} (old : CoreView T E) (kind : Kind) (back : Back) → (flash_under old.hierarchy).on ≡ true
    → IsLogged old kind back (rested old kind back) → LeavesSession old kind back (rested old kind back)
rested_leaves old kind back on logged =
    left_by old kind back (rested old kind back) refl (left_still old.hierarchy old.hierarchy refl refl refl)
    (stays_on (flash_under old.hierarchy) (flash_under old.hierarchy) on) logged (omega arith) (omega arith)

-- what its action came to leaves the log and the power so
acted_logged : {T E : Type 0} (progress : Progress) (action : Action) (kind : Kind) (old : CoreView T E) (h : HierarchyView T E)
    → (flash_under old.hierarchy).on ≡ true → Runs progress old.hierarchy h
    → IsLogged old kind (back_of action progress) (core_after action progress kind old h)
acted_logged (Did what) action kind old h on runs = (refl, runs.power on)
acted_logged Failed action kind old h on runs = (refl, runs.power on)
acted_logged Off action kind old h on runs = (refl, runs.stops.0)

acted_leaves : {T E : Type 0} (progress : Progress) (action : Action) (kind : Kind) (old : CoreView T E) (h : HierarchyView T E)
    → (flash_under old.hierarchy).on ≡ true → Leaves old.hierarchy h → Runs progress old.hierarchy h
    → LeavesSession old kind (back_of action progress) (core_after action progress kind old h)
acted_leaves (Did what) action kind old h on leaves runs =
    left_by old kind (back_of action (Did what)) (core_after action (Did what) kind old h) refl leaves
    (action_cut (Did what) old.hierarchy h on runs) (acted_logged (Did what) action kind old h on runs) (next_few old.events)
    runs.one_more
acted_leaves Failed action kind old h on leaves runs =
    left_by old kind (back_of action Failed) (core_after action Failed kind old h) refl leaves
    (action_cut Failed old.hierarchy h on runs) (acted_logged Failed action kind old h on runs) (next_few old.events) runs.one_more
acted_leaves Off action kind old h on leaves runs =
    left_by old kind (back_of action Off) (core_after action Off kind old h) refl leaves (action_cut Off old.hierarchy h on runs)
    (acted_logged Off action kind old h on runs) (omega arith) runs.one_more

chosen_leaves : {T E : Type 0} (action : Option Action) (kind : Kind) (old : CoreView T E) (back : Back) (new : CoreView T E)
    → (flash_under old.hierarchy).on ≡ true → IsBackBy action kind old back new → LeavesSession old kind back new
chosen_leaves {T = T} {E = E} None kind old back new on is = rw (is.0, is.1) (rested_leaves old kind Idle on (refl, on))
chosen_leaves {T = T} {E = E} (Some action) kind old back new on is =
    rw is.answer (subst (λ (c : CoreView T E). LeavesSession old kind (back_of action is.progress) c) (sym is.core)
    (acted_leaves is.progress action kind old new.hierarchy on
    (performs_leaves action old.hierarchy is.progress new.hierarchy on is.performs)
    (performs-runs action old.hierarchy is.progress new.hierarchy on is.performs)))

back_at_leaves : {T E : Type 0} (spent : Bool) (score : E → Bool → ℕ → ℕ) (kind : Kind) (old : CoreView T E) (back : Back)
    (new : CoreView T E) → (flash_under old.hierarchy).on ≡ true → IsBackAt spent score kind old back new
    → LeavesSession old kind back new
back_at_leaves true score kind old back new on is = rw (is.0, is.1) (rested_leaves old kind Spent on (refl, on))
back_at_leaves false score kind old back new on is = chosen_leaves is.action kind old back new on is.turn

-- the power was off, and nothing was done
unchanged_leaves : {T E : Type 0} (old : CoreView T E) (kind : Kind) → (flash_under old.hierarchy).on ≡ false
    → LeavesSession old kind BackOff old
unchanged_leaves old kind off =
    left_by old kind BackOff old refl (left_still old.hierarchy old.hierarchy refl refl refl)
    (was_off (flash_under old.hierarchy) (flash_under old.hierarchy) off) (refl, off) (omega arith) (omega arith)

back_leaves_by : {T E : Type 0} (on : Bool) (score : E → Bool → ℕ → ℕ) (kind : Kind) (old : CoreView T E) (back : Back)
    (new : CoreView T E) → (flash_under old.hierarchy).on ≡ on → IsBack on score kind old back new → LeavesSession old kind back new
back_leaves_by false score kind old back new on is = rw (is.0, is.1) (unchanged_leaves old kind on)
back_leaves_by true score kind old back new on is = back_at_leaves (old.events == last_event) score kind old back new on is

-- one event of a background turn
pub back_event : {T E : Type 0} (score : E → Bool → ℕ → ℕ) (kind : Kind) (old : CoreView T E) (back : Back) (new : CoreView T E)
    → IsBack (flash_under old.hierarchy).on score kind old back new → IsBackEvent old kind back new
back_event score kind old back new is =
    (back_leaves_by (flash_under old.hierarchy).on score kind old back new refl is).event

pub back_cut : {T E : Type 0} (score : E → Bool → ℕ → ℕ) (kind : Kind) (old : CoreView T E) (back : Back) (new : CoreView T E)
    → IsBack (flash_under old.hierarchy).on score kind old back new
    → GoesOffByCut (flash_under old.hierarchy) (flash_under new.hierarchy)
back_cut score kind old back new is =
    (back_leaves_by (flash_under old.hierarchy).on score kind old back new refl is).power

-- an event of a call that isn't refused at once
attempt_cut : {T E : Type 0} (answers : T → ℕ → ℕ → ℕ → ℕ → Type 0) (old : CoreView T E) (caller : Caller) (number : ℕ) (op : Op)
    (turn : Turn) (new : CoreView T E) → (flash_under old.hierarchy).on ≡ true → IsAttempt answers old caller number op turn new
    → GoesOffByCut (flash_under old.hierarchy) (flash_under new.hierarchy)
attempt_cut {T = T} {E = E} answers old caller number op turn new on (serves reply answer is) =
    let core = ap (λ (c : CoreView T E). (flash_under c.hierarchy).on) is.core in
    let still = ap (λ (s : PageStoreView). s.world.flash.on) is.access.store in
    stays_on (flash_under old.hierarchy) (flash_under new.hierarchy) (core ∙ (still ∙ on))
attempt_cut {T = T} {E = E} answers old caller number op turn new on (misses is) =
    let between : HierarchyView T E = is.between in
    let still : flash_under between ≡ flash_under old.hierarchy = ap (λ (s : PageStoreView). s.world.flash) is.access.store in
    let before : (flash_under between).on ≡ true = ap (λ (f : FlashState). f.on) still ∙ on in
    let runs = performs-runs is.step.action between is.step.progress new.hierarchy before is.step.performs in
    subst (λ (f : FlashState). GoesOffByCut f (flash_under new.hierarchy)) still
    (action_cut is.step.progress between new.hierarchy before runs)

asked_cut : {T E : Type 0} (refused : Option Reply) (answers : T → ℕ → ℕ → ℕ → ℕ → Type 0) (old : CoreView T E) (caller : Caller)
    (number : ℕ) (op : Op) (turn : Turn) (new : CoreView T E) → (flash_under old.hierarchy).on ≡ true
    → IsTurnBy refused answers old caller number op turn new
    → GoesOffByCut (flash_under old.hierarchy) (flash_under new.hierarchy)
asked_cut {T = T} {E = E} (Some reply) answers old caller number op turn new on is =
    stays_on (flash_under old.hierarchy) (flash_under new.hierarchy)
    (ap (λ (c : CoreView T E). (flash_under c.hierarchy).on) is.1 ∙ on)
asked_cut None answers old caller number op turn new on is = attempt_cut answers old caller number op turn new on is

turn_cut_by : {T E : Type 0} (on : Bool) (answers : T → ℕ → ℕ → ℕ → ℕ → Type 0) (old : CoreView T E) (caller : Caller)
    (number : ℕ) (op : Op) (turn : Turn) (new : CoreView T E) → (flash_under old.hierarchy).on ≡ on
    → IsTurn on answers old caller number op turn new → GoesOffByCut (flash_under old.hierarchy) (flash_under new.hierarchy)
turn_cut_by false answers old caller number op turn new off is = was_off (flash_under old.hierarchy) (flash_under new.hierarchy) off
turn_cut_by true answers old caller number op turn new on is =
    asked_cut (refusal old.opening.pages old.events op) answers old caller number op turn new on is

-- one event of a call
pub turn_cut : {T E : Type 0} (answers : T → ℕ → ℕ → ℕ → ℕ → Type 0) (old : CoreView T E) (caller : Caller) (number : ℕ) (op : Op)
    (turn : Turn) (new : CoreView T E) → IsTurn (flash_under old.hierarchy).on answers old caller number op turn new
    → GoesOffByCut (flash_under old.hierarchy) (flash_under new.hierarchy)
turn_cut answers old caller number op turn new is =
    turn_cut_by (flash_under old.hierarchy).on answers old caller number op turn new refl is
