-- What an action makes of the flash under the hierarchy: at most one operation.
use Rattle.std.proofs.Common.{◌≡◌, ◌≤◌, ◌+◌, ℕ, Bool, true, false, not, Option, Some, None, refl, ap, ◌∙◌, arith}
use Rattle.std.proofs.lemmas.Bool.{true_from_ne_false}
use Rattle.std.specs.Prelude.{IsSome}
use Rattle.std.specs.Option.{is_some}
use Rattle.ff_flash.specs.FlashState.{FlashState, Operates}
use Rattle.ff_flash.specs.declared.flash.FlashStop.{FlashStop}
use Rattle.ff_flash.specs.declared.flash.FlashStop.TheVariants.{Failed as FailedStop, Off as OffStop}
use Rattle.ff_gc.specs.FlashCounts.{begun}
use Rattle.ff_gc.specs.Steps.{Takes, made, rested}
use Rattle.ff_gc.specs.declared.counts.FlashCounts.{FlashCounts}
use Rattle.ff_gc.specs.declared.counts.OperationKind.{OperationKind}
use Rattle.ff_gc.specs.declared.counts.OperationKind.TheVariants.{Read, Program, Seal, Erase}
use Rattle.ff_lines.specs.declared.device.Work.{Work}
use Rattle.ff_lines.specs.declared.device.Work.TheVariants.{Ready, Stepped, Failed as WorkFailed, Off as WorkOff, Pinned}
use Rattle.ff_store.specs.PageStore.{PageStoreView}
use Rattle.ff_device.specs.StoreSteps.{CallsOnce}
use Rattle.ff_device.specs.WorkRows.{stop_of_work}
use Rattle.ff_core.specs.CoreSound.{IsSince}
use Rattle.ff_core.specs.Hierarchy.{HierarchyView, flash_under}
use Rattle.ff_core.specs.Performs.{MakesCollectTurn, IsAdvanced, IsMoved, IsWorkedFor, Performs, collect_progress, progress_of, steps, yields}
use Rattle.ff_core.specs.Powered.{IsCutOff}
use Rattle.ff_core.specs.declared.action.Action.{Action}
use Rattle.ff_core.specs.declared.action.Action.TheVariants.{Advance, TurnBack, Work as WorkFor, Promote, Retreat, Evict, Collect, Drain}
use Rattle.ff_core.specs.declared.action.Progress.{Progress}
use Rattle.ff_core.specs.declared.action.Progress.TheVariants.{Did, Failed, Off}
use Rattle.ff_core.proofs.Owning.{own_store}

-- how the operation of an action stopped, if it did
abbrev pub stop_of_progress : Progress → Option FlashStop
stop_of_progress (Did what) = None
stop_of_progress Failed = Some FailedStop
stop_of_progress Off = Some OffStop

-- what stopping so, or not stopping, makes of the power and the count of faults
abbrev pub Stops : Option FlashStop → FlashState → FlashState → Type 0
Stops None old new = new.faults ≡ old.faults
Stops (Some FailedStop) old new = new.faults ≡ old.faults + 1
Stops (Some OffStop) old new =
    (new.on ≡ false) × (IsSome old.plan → new.faults ≡ old.faults)

-- and of a power that was on
abbrev pub StopsPower : Option FlashStop → FlashState → FlashState → Type 0
StopsPower None old new = new.on ≡ true
StopsPower (Some FailedStop) old new = new.on ≡ true
StopsPower (Some OffStop) old new = IsCutOff old new

-- at most one operation was begun, which stopped so, or didn't stop
pub record RunsOnce (old : PageStoreView) (stop : Option FlashStop) (new : PageStoreView) : Type 0 where
  pub opened : new.opened ≡ old.opened
  pub plan : new.world.flash.plan ≡ old.world.flash.plan
  pub no_fall : old.world.flash.faults ≤ new.world.flash.faults
  pub one_more : new.world.flash.operations ≤ old.world.flash.operations + 1
  pub since : IsSince old.world.counts new.world.counts
  pub stops : Stops stop old.world.flash new.world.flash
  pub power : old.world.flash.on ≡ true → StopsPower stop old.world.flash new.world.flash

-- no operation was begun
pub runs-still : (s : PageStoreView) → RunsOnce s None s
runs-still s = record {
  opened = refl;
  plan = refl;
  no_fall = omega arith;
  one_more = omega arith;
  since = record { reads = omega arith; programs = omega arith; seals = omega arith; erases = omega arith };
  stops = refl;
  power = λ on. on;
}

pub runs-same : (old new : PageStoreView) → new ≡ old → RunsOnce old None new
runs-same old new same = rw same (runs-still old)

-- so many failures more are counted, exactly so many where the plan is told, and no kind of operation is counted less
pub record FailsBy (failures : ℕ) (old new : PageStoreView) : Type 0 where
  pub faults : old.world.flash.faults + failures ≤ new.world.flash.faults
  pub plan : new.world.flash.plan ≡ old.world.flash.plan
  pub planned : IsSome old.world.flash.plan → new.world.flash.faults ≡ old.world.flash.faults + failures
  pub since : IsSince old.world.counts new.world.counts

pub fails-none : (old new : PageStoreView) → RunsOnce old None new → FailsBy 0 old new
fails-none old new runs =
    let same = runs.stops in
    record { faults = omega arith; plan = runs.plan; planned = λ some. omega arith; since = runs.since }

pub fails-once : (old new : PageStoreView) → RunsOnce old (Some FailedStop) new → FailsBy 1 old new
fails-once old new runs =
    let more = runs.stops in
    record { faults = omega arith; plan = runs.plan; planned = λ some. more; since = runs.since }

pub fails-cut : (old new : PageStoreView) → RunsOnce old (Some OffStop) new → FailsBy 0 old new
fails-cut old new runs =
    let no_fall = runs.no_fall in
    record {
      faults = omega arith;
      plan = runs.plan;
      planned = λ some. let same = runs.stops.1 some in omega arith;
      since = runs.since;
    }

since-begun : (kind : OperationKind) (counts : FlashCounts) → IsSince counts (begun kind counts)
since-begun Read counts = record { reads = omega arith; programs = omega arith; seals = omega arith; erases = omega arith }
since-begun Program counts = record { reads = omega arith; programs = omega arith; seals = omega arith; erases = omega arith }
since-begun Seal counts = record { reads = omega arith; programs = omega arith; seals = omega arith; erases = omega arith }
since-begun Erase counts = record { reads = omega arith; programs = omega arith; seals = omega arith; erases = omega arith }

since-same : (old new : FlashCounts) → new ≡ old → IsSince old new
since-same old new same =
    rw same record { reads = omega arith; programs = omega arith; seals = omega arith; erases = omega arith }

stops-operated : (stop : Option FlashStop) (old new : FlashState) → Operates old stop new → Stops stop old new
stops-operated None old new o = o.faults.worked refl
stops-operated (Some FailedStop) old new o = o.faults.failed refl
stops-operated (Some OffStop) old new o = (o.power.off.0 refl, λ planned. o.faults.planned_cut planned refl)

stops-rested : (stop : Option FlashStop) (old new : FlashState) → stop ≡ None → new ≡ old → Stops stop old new
stops-rested stop old new none same = rw none (ap (λ (f : FlashState). f.faults) same)

power-operated : (stop : Option FlashStop) (old new : FlashState) → old.on ≡ true → Operates old stop new → StopsPower stop old new
power-operated None old new on o =
    true_from_ne_false new.on (λ off. (let stopped : None ≡ Some OffStop = o.power.off.1 off in absurd (cc)))
power-operated (Some FailedStop) old new on o =
    true_from_ne_false new.on (λ off. (let stopped : Some FailedStop ≡ Some OffStop = o.power.off.1 off in absurd (cc)))
power-operated (Some OffStop) old new on o =
    let counted = o.power.counted on in
    record { cut = o.power.cut on ∙ ap not (o.power.off.0 refl); counted = omega arith }

power-rested : (stop : Option FlashStop) (old new : FlashState) → stop ≡ None → new ≡ old → old.on ≡ true → StopsPower stop old new
power-rested stop old new none same on = rw none (ap (λ (f : FlashState). f.on) same ∙ on)

-- the store's call with the power on
runs-taken : (old new : PageStoreView) (stop : Option FlashStop) → old.world.flash.on ≡ true → new.opened ≡ old.opened
    → new.world.flash.plan ≡ old.world.flash.plan → Takes old.world stop new.world → RunsOnce old stop new
runs-taken old new stop on opened plan (made kind makes) =
    let counted = makes.flash.power.counted on in
    record {
      opened = opened;
      plan = plan;
      no_fall = makes.flash.faults.no_fall;
      one_more = omega arith;
      since = rw makes.counts (since-begun kind old.world.counts);
      stops = stops-operated stop old.world.flash new.world.flash makes.flash;
      power = λ was. power-operated stop old.world.flash new.world.flash was makes.flash;
    }
runs-taken old new stop on opened plan (rested flash counts none) =
    let faults = ap (λ (f : FlashState). f.faults) flash in
    let operations = ap (λ (f : FlashState). f.operations) flash in
    record {
      opened = opened;
      plan = plan;
      no_fall = omega arith;
      one_more = omega arith;
      since = since-same old.world.counts new.world.counts counts;
      stops = stops-rested stop old.world.flash new.world.flash none flash;
      power = power-rested stop old.world.flash new.world.flash none flash;
    }

pub runs-called : (old new : PageStoreView) (stop : Option FlashStop) → old.world.flash.on ≡ true → CallsOnce old stop new
    → RunsOnce old stop new
runs-called old new stop on calls =
    let call = calls.with_power on in
    runs-taken old new stop on call.same.opened call.same.plan call.takes

-- a step of work stopped as its progress says
stop-worked : (work : Work) → stop_of_progress (progress_of work) ≡ stop_of_work work
stop-worked Ready = refl
stop-worked Stepped = refl
stop-worked (Pinned other) = refl
stop-worked WorkFailed = refl
stop-worked WorkOff = refl

stop-collected : (waits : Bool) (work : Work) → stop_of_progress (collect_progress waits work) ≡ stop_of_work work
stop-collected waits Ready = refl
stop-collected waits Stepped = refl
stop-collected waits (Pinned other) = refl
stop-collected waits WorkFailed = refl
stop-collected waits WorkOff = refl

-- what an action makes of the store below
abbrev pub Runs : {T E : Type 0} → Progress → HierarchyView T E → HierarchyView T E → Type 0
Runs progress h h' = RunsOnce h.device.store (stop_of_progress progress) h'.device.store

moved-runs : {T E : Type 0} (h : HierarchyView T E) (progress : Progress) (h' : HierarchyView T E)
    → stop_of_progress progress ≡ None → IsMoved h h' → Runs progress h h'
moved-runs h progress h' none moved = rw none (runs-same h.device.store h'.device.store (own_store h.device h'.device moved.own))

advanced-runs : {T E : Type 0} (slot : ℕ) (h : HierarchyView T E) (progress : Progress) (h' : HierarchyView T E)
    → IsAdvanced slot h progress h' → Runs progress h h'
advanced-runs slot h progress h' is = moved-runs h progress h' (ap stop_of_progress is.did) is.moved

worked-runs : {T E : Type 0} (page : ℕ) (h : HierarchyView T E) (progress : Progress) (h' : HierarchyView T E)
    → (flash_under h).on ≡ true → IsWorkedFor page h progress h' → Runs progress h h'
worked-runs page h progress h' on (steps work came step unpinned) =
    rw (ap stop_of_progress came ∙ stop-worked work)
    (runs-called h.device.store h'.device.store (stop_of_work work) on step.calls)
worked-runs page h progress h' on (yields other slot pinned found is) = advanced-runs slot h progress h' is

collected-runs : {T E : Type 0} (h : HierarchyView T E) (progress : Progress) (h' : HierarchyView T E)
    → (flash_under h).on ≡ true → MakesCollectTurn h progress h' → Runs progress h h'
collected-runs h progress h' on is =
    rw (ap stop_of_progress is.came_to ∙ stop-collected (is_some h.device.store.waits) is.work)
    (runs-called h.device.store h'.device.store (stop_of_work is.work) on is.calls)

pub performs-runs : {T E : Type 0} (action : Action) (h : HierarchyView T E) (progress : Progress) (h' : HierarchyView T E)
    → (flash_under h).on ≡ true → Performs action h progress h' → Runs progress h h'
performs-runs (Advance slot) h progress h' on is = advanced-runs slot h progress h' is
performs-runs (TurnBack slot) h progress h' on is = moved-runs h progress h' (ap stop_of_progress is.did) is.moved
performs-runs (WorkFor page) h progress h' on is = worked-runs page.0 h progress h' on is
performs-runs (Promote page) h progress h' on is = moved-runs h progress h' (ap stop_of_progress is.did) is.moved
performs-runs (Retreat page) h progress h' on is = moved-runs h progress h' (ap stop_of_progress is.did) is.moved
performs-runs (Evict frame) h progress h' on is = moved-runs h progress h' (ap stop_of_progress is.did) is.moved
performs-runs Collect h progress h' on is = collected-runs h progress h' on is
performs-runs Drain h progress h' on is =
    rw (ap stop_of_progress is.did) (runs-same h.device.store h'.device.store (own_store h.device h'.device is.own))
