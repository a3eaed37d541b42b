-- What a step for a missed call leaves, and that it makes at most one operation.
use Rattle.std.proofs.Common.{◌≡◌, ◌≤◌, ◌+◌, ℕ, true, refl, ap, arith}
use Rattle.ff_base.specs.declared.numbers.PageNo.{PageNo}
use Rattle.ff_model.specs.declared.op.Op.{Op}
use Rattle.ff_model.specs.declared.op.Op.TheVariants.{Load, Store, Verify, Mark, Release}
use Rattle.ff_plb.specs.declared.slot.Way.{Way}
use Rattle.ff_plb.specs.declared.slot.Way.TheVariants.{Coming, Leaving}
use Rattle.ff_store.specs.Calls.{SameStore}
use Rattle.ff_store.specs.PageStore.{PageStoreView}
use Rattle.ff_core.specs.Hierarchy.{HierarchyView, flash_under}
use Rattle.ff_core.specs.Misses.{IsActionAtRest, IsMarkAction, IsMissAction, action_in_flight, at_rest, in_flight, retreats, waits_for_slot, works}
use Rattle.ff_core.specs.Performs.{HasRetreated, IsAdvanced, IsTurnedBack, IsWorkedFor, Performs, steps, yields}
use Rattle.ff_core.specs.declared.action.Action.{Action}
use Rattle.ff_core.specs.declared.action.Progress.{Progress}
use Rattle.ff_core.proofs.Owning.{own_store}

-- what a step leaves of a hierarchy, and what it makes of its flash
pub record RunsStep {T E : Type 0} (h : HierarchyView T E) (progress : Progress) (h' : HierarchyView T E) : Type 0 where
  pub policy : h'.policy ≡ h.policy
  pub evictor : h'.evictor ≡ h.evictor
  pub store : SameStore h.device.store h'.device.store
  pub no_fall : (flash_under h).operations ≤ (flash_under h').operations
  pub one_more : (flash_under h').operations ≤ (flash_under h).operations + 1

pub store_same : (s : PageStoreView) → SameStore s s
store_same s = record {
  blocks = refl;
  per_block = refl;
  pages = refl;
  plan = refl;
  making = refl;
  low = refl;
  opened = refl;
}

-- no operation was made
still_runs : {T E : Type 0} (h : HierarchyView T E) (progress : Progress) (h' : HierarchyView T E)
    → h'.device.store ≡ h.device.store → h'.policy ≡ h.policy → h'.evictor ≡ h.evictor → RunsStep h progress h'
still_runs h progress h' store policy evictor = record {
  policy = policy;
  evictor = evictor;
  store = rw store (store_same h.device.store);
  no_fall = let same = ap (λ (s : PageStoreView). s.world.flash.operations) store in omega arith;
  one_more = let same = ap (λ (s : PageStoreView). s.world.flash.operations) store in omega arith;
}

advanced_runs : {T E : Type 0} (slot : ℕ) (h : HierarchyView T E) (progress : Progress) (h' : HierarchyView T E)
    → IsAdvanced slot h progress h' → RunsStep h progress h'
advanced_runs {T = T} {E = E} slot h progress h' is =
    still_runs h progress h' (own_store h.device h'.device is.moved.own) (ap (λ (g : HierarchyView T E). g.policy) is.rest)
    (ap (λ (g : HierarchyView T E). g.evictor) is.rest)

turned_runs : {T E : Type 0} (slot : ℕ) (h : HierarchyView T E) (progress : Progress) (h' : HierarchyView T E)
    → IsTurnedBack slot h progress h' → RunsStep h progress h'
turned_runs {T = T} {E = E} slot h progress h' is =
    still_runs h progress h' (own_store h.device h'.device is.moved.own) (ap (λ (g : HierarchyView T E). g.policy) is.rest)
    (ap (λ (g : HierarchyView T E). g.evictor) is.rest)

retreated_runs : {T E : Type 0} (page : ℕ) (h : HierarchyView T E) (progress : Progress) (h' : HierarchyView T E)
    → HasRetreated page h progress h' → RunsStep h progress h'
retreated_runs {T = T} {E = E} page h progress h' is =
    still_runs h progress h' (own_store h.device h'.device is.moved.own) (ap (λ (g : HierarchyView T E). g.policy) is.rest)
    (ap (λ (g : HierarchyView T E). g.evictor) is.rest)

worked_runs : {T E : Type 0} (page : ℕ) (h : HierarchyView T E) (progress : Progress) (h' : HierarchyView T E)
    → (flash_under h).on ≡ true → IsWorkedFor page h progress h' → RunsStep h progress h'
worked_runs {T = T} {E = E} page h progress h' on (steps work came step free) = record {
  policy = ap (λ (g : HierarchyView T E). g.policy) step.rest;
  evictor = ap (λ (g : HierarchyView T E). g.evictor) step.rest;
  store = (step.calls.with_power on).same;
  no_fall = step.kept.no_fall;
  one_more = step.kept.one_more;
}
worked_runs page h progress h' on (yields other slot pinned found is) = advanced_runs slot h progress h' is

flight_runs : {T E : Type 0} (way : Way) (slot : ℕ) (h : HierarchyView T E) (progress : Progress) (h' : HierarchyView T E)
    → Performs (action_in_flight way slot) h progress h' → RunsStep h progress h'
flight_runs Coming slot h progress h' is = turned_runs slot h progress h' is
flight_runs Leaving slot h progress h' is = advanced_runs slot h progress h' is

rest_runs : {T E : Type 0} (page : PageNo) (action : Action) (h : HierarchyView T E) (progress : Progress) (h' : HierarchyView T E)
    → (flash_under h).on ≡ true → IsActionAtRest h page action → Performs action h progress h' → RunsStep h progress h'
rest_runs page action h progress h' on (waits_for_slot busy is) performs =
    let did : IsAdvanced 0 h progress h' = rw is at performs in advanced_runs 0 h progress h' did
rest_runs page action h progress h' on (works some absent is) performs =
    let did : IsWorkedFor page.0 h progress h' = rw is at performs in worked_runs page.0 h progress h' on did
rest_runs page action h progress h' on (retreats some resident is) performs =
    let did : HasRetreated page.0 h progress h' = rw is at performs in retreated_runs page.0 h progress h' did

mark_runs : {T E : Type 0} (page : PageNo) (action : Action) (h : HierarchyView T E) (progress : Progress) (h' : HierarchyView T E)
    → (flash_under h).on ≡ true → IsMarkAction h page action → Performs action h progress h' → RunsStep h progress h'
mark_runs page action h progress h' on (in_flight slot entry found at is) performs =
    let did : Performs (action_in_flight entry.way slot) h progress h' = rw is at performs in
    flight_runs entry.way slot h progress h' did
mark_runs page action h progress h' on (at_rest none rest) performs = rest_runs page action h progress h' on rest performs

-- a step for a call that missed
pub miss_runs : {T E : Type 0} (op : Op) (page : PageNo) (action : Action) (h : HierarchyView T E) (progress : Progress)
    (h' : HierarchyView T E) → (flash_under h).on ≡ true → IsMissAction op page h action → Performs action h progress h'
    → RunsStep h progress h'
miss_runs (Load at len) page action h progress h' on is performs =
    let did : IsWorkedFor page.0 h progress h' = rw is at performs in worked_runs page.0 h progress h' on did
miss_runs (Store at bytes) page action h progress h' on is performs =
    let did : IsWorkedFor page.0 h progress h' = rw is at performs in worked_runs page.0 h progress h' on did
miss_runs (Mark marked from count) page action h progress h' on is performs = mark_runs page action h progress h' on is performs
miss_runs Verify page action h progress h' on is performs = absurd is
miss_runs (Release released from count) page action h progress h' on is performs = absurd is
