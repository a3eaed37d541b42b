-- A core stays sound where a call misses a page and a step is made for it.
use Rattle.std.proofs.Common.{◌≡◌, ◌<◌, ℕ, true, refl, sym, ap, ◌∙◌, subst, arith}
use Rattle.ff_base.specs.Count.{last_event}
use Rattle.ff_base.specs.declared.numbers.Caller.{Caller}
use Rattle.ff_base.specs.declared.numbers.PageNo.{PageNo}
use Rattle.ff_calls.specs.Told.{IsTold}
use Rattle.ff_calls.proofs.ToldAnswered.{told-fault}
use Rattle.ff_calls.proofs.ToldMissed.{told-missed}
use Rattle.ff_lines.specs.DeviceState.{IsDevice}
use Rattle.ff_memory.specs.Memory.{IsMemorySound}
use Rattle.ff_memory.specs.declared.access.Access.TheVariants.{Miss as AccessMiss}
use Rattle.ff_model.specs.Legal.{due_reply, is_served, may_fault}
use Rattle.ff_model.specs.Spans.{is_in_range}
use Rattle.ff_model.specs.declared.history.Entry.{Entry}
use Rattle.ff_model.specs.declared.op.Op.{Op}
use Rattle.ff_model.specs.declared.op.Op.TheVariants.{Load, Store, Verify, Mark, Release}
use Rattle.ff_model.specs.declared.op.Reply.TheVariants.{Fault}
use Rattle.ff_plb.specs.declared.slot.Way.{Way}
use Rattle.ff_plb.specs.declared.slot.Way.TheVariants.{Coming, Leaving}
use Rattle.ff_store.specs.PageStore.{PageStoreView}
use Rattle.ff_core.specs.Core.{CoreView, entry_now, next_number, with_entry}
use Rattle.ff_core.specs.CoreSound.{IsCoreSound}
use Rattle.ff_core.specs.Hierarchy.{HierarchyView, flash_under, lines_under}
use Rattle.ff_core.specs.Misses.{IsActionAtRest, IsMarkAction, IsMissAction, action_in_flight, at_rest, in_flight, retreats, waits_for_slot, works}
use Rattle.ff_core.specs.Performs.{Performs}
use Rattle.ff_core.specs.EventTally.{started_by, tally_after}
use Rattle.ff_core.specs.Turns.{AfterStep, IsMiss, IsMissStep}
use Rattle.ff_core.specs.declared.action.Action.{Action}
use Rattle.ff_core.specs.declared.action.Progress.{Progress}
use Rattle.ff_core.specs.declared.action.Progress.TheVariants.{Did, Failed, Off}
use Rattle.ff_core.specs.declared.tally.EventTally.{EventTally}
use Rattle.ff_core.specs.declared.turn.Turn.{Turn}
use Rattle.ff_core.proofs.ActionsTold.{performs-tells}
use Rattle.ff_core.proofs.Recounting.{recounted-fault, recounted-stepped, recounted-still}
use Rattle.ff_core.proofs.Running.{Runs, fails-cut, fails-none, performs-runs, runs-same}
use Rattle.ff_core.proofs.Sizes.{access-parts, performs-parts}
use Rattle.ff_core.proofs.SoundOver.{counted-alike, sound-over}
use Rattle.ff_core.proofs.Tallied.{CountsAlike, after-moves, after-promoted, performs-alike}
use Rattle.ff_core.proofs.Timing.{later-cut, later-fault, later-looked, later-stepped}

-- no step for a call is a promotion
abbrev IsOther : Action → Type 0
IsOther action = (tally : EventTally) → (started_by action tally).promoted ≡ tally.promoted

flight-other : (way : Way) (slot : ℕ) → IsOther (action_in_flight way slot)
flight-other Coming slot tally = refl
flight-other Leaving slot tally = refl

same-other : (action other : Action) → action ≡ other → IsOther other → IsOther action
same-other action other same is = rw same is

rest-other : {T E : Type 0} (h : HierarchyView T E) (page : PageNo) (action : Action) → IsActionAtRest h page action → IsOther action
rest-other h page action (waits_for_slot none is) = same-other action _ is (λ tally. refl)
rest-other h page action (works some absent is) = same-other action _ is (λ tally. refl)
rest-other h page action (retreats some resident is) = same-other action _ is (λ tally. refl)

mark-other : {T E : Type 0} (h : HierarchyView T E) (page : PageNo) (action : Action) → IsMarkAction h page action → IsOther action
mark-other h page action (in_flight slot entry found has is) = same-other action _ is (flight-other entry.way slot)
mark-other h page action (at_rest none is) = rest-other h page action is

miss-other : {T E : Type 0} (op : Op) (page : PageNo) (h : HierarchyView T E) (action : Action) → IsMissAction op page h action
    → IsOther action
miss-other (Load at len) page h action is = same-other action _ is (λ tally. refl)
miss-other (Store at bytes) page h action is = same-other action _ is (λ tally. refl)
miss-other (Mark marked from count) page h action is = mark-other h page action is
miss-other Verify page h action is = absurd is
miss-other (Release released from count) page h action is = absurd is

-- a call that isn't refused and may meet a fault is at a core before the last event, with the power on
record IsMissing {T E : Type 0} (core : CoreView T E) (op : Op) : Type 0 where
  sound : IsCoreSound core
  memory : IsMemorySound core.hierarchy.memory
  device : IsDevice (lines_under core.hierarchy)
  on : (flash_under core.hierarchy).on ≡ true
  going : core.events < last_event
  may : may_fault op ≡ true
  due : is_served (due_reply core.opening core.history.entries core.events op) ≡ true

step-sound : {T E : Type 0} (progress : Progress) (action : Action) (page : PageNo) (core : CoreView T E) (caller : Caller)
    (number : ℕ) (op : Op) (turn : Turn) (h : HierarchyView T E) (new : CoreView T E) → IsMissing core op
    → IsMissAction op page core.hierarchy action → Performs action core.hierarchy progress h → Runs progress core.hierarchy h
    → CountsAlike h.policy (tally_after action progress core.tally)
    → IsTold core.opening core.history.entries h.memory (lines_under h)
    → AfterStep progress action page core caller number op turn h new → IsCoreSound new
step-sound {T} {E} (Did what) action page core caller number op turn h new missing asked is runs alike told after =
    let counts = after-moves (Did what) action core.tally in
    subst (λ (c : CoreView T E). IsCoreSound c) (sym after.1)
    (sound-over core core.history (next_number core.events) core.log (tally_after action (Did what) core.tally) h missing.sound
    missing.on
    (record {
      parts = performs-parts action core.hierarchy (Did what) h is;
      calls = refl;
      turns = refl;
      told = told;
      later = later-stepped core h missing.sound.timed missing.going runs.opened runs.one_more;
      counts = recounted-stepped core (tally_after action (Did what) core.tally) h missing.going counts
          (after-promoted (Did what) action core.tally (miss-other op page core.hierarchy action asked core.tally)) alike runs;
    }))
step-sound {T} {E} Failed action page core caller number op turn h new missing asked is runs alike told after =
    let faults : ℕ = (flash_under h).faults in
    let entry : Entry = entry_now core caller number op Fault faults in
    let before = missing.sound.told.faults in
    let failed = runs.stops in
    let going = missing.going in
    subst (λ (c : CoreView T E). IsCoreSound c) (sym after.1)
    (sound-over core (with_entry entry core.history) (next_number core.events) core.log core.tally h missing.sound missing.on
    (record {
      parts = performs-parts action core.hierarchy Failed h is;
      calls = refl;
      turns = refl;
      told = told-fault core.opening core.history.entries entry h.memory (lines_under h) told
          (record { later = missing.sound.timed.next; not_past = missing.sound.timed.not_past; faults = refl }) refl missing.may
          missing.due (omega arith);
      later = later-fault core caller number op Fault faults h missing.going runs.opened runs.one_more;
      counts = recounted-fault core caller number op faults (next_number core.events) h alike (omega arith) runs;
    }))
step-sound {T} {E} Off action page core caller number op turn h new missing asked is runs alike told after =
    subst (λ (c : CoreView T E). IsCoreSound c) (sym after.1)
    (sound-over core core.history core.events core.log core.tally h missing.sound missing.on
    (record {
      parts = performs-parts action core.hierarchy Off h is;
      calls = refl;
      turns = refl;
      told = told;
      later = later-cut core h missing.sound.timed runs.opened runs.one_more runs.stops.0;
      counts = recounted-still core h alike (fails-cut core.hierarchy.device.store h.device.store runs);
    }))

-- one step was made for a call that missed a page
made-sound : {T E : Type 0} (page : PageNo) (core : CoreView T E) (caller : Caller) (number : ℕ) (op : Op) (turn : Turn)
    (new : CoreView T E) → IsMissing core op → IsMissStep page core caller number op turn new → IsCoreSound new
made-sound page core caller number op turn new missing step =
    let runs = performs-runs step.action core.hierarchy step.progress new.hierarchy missing.on step.performs in
    step-sound step.progress step.action page core caller number op turn new.hierarchy new missing step.asked step.performs runs
    (performs-alike step.action core.tally core.hierarchy step.progress new.hierarchy step.performs
    (counted-alike core missing.sound))
    (performs-tells core.opening core.history.entries step.action core.hierarchy step.progress new.hierarchy missing.sound.told
    missing.memory missing.device runs.no_fall step.performs)
    step.after

-- a call missed a page
pub miss-sound : {T E : Type 0} (old : CoreView T E) (caller : Caller) (number : ℕ) (op : Op) (turn : Turn) (new : CoreView T E)
    → IsCoreSound old → IsMemorySound old.hierarchy.memory → IsDevice (lines_under old.hierarchy)
    → (flash_under old.hierarchy).on ≡ true → is_in_range old.opening.pages op ≡ true → old.events < last_event
    → IsMiss old caller number op turn new → IsCoreSound new
miss-sound {T} {E} old caller number op turn new sound memory device on range going is =
    let looked : HierarchyView T E = is.between in
    let missed = told-missed old.opening old.history.entries old.events op _ is.page old.hierarchy.memory
    (lines_under old.hierarchy) looked.memory (lines_under looked) sound.told memory range going is.access.accesses in
    let told : IsTold old.opening old.history.entries looked.memory (lines_under looked) =
    rw (missed.memory, missed.device) sound.told in
    let timed = sound.timed in
    let same = is.access.store in
    let between : CoreView T E = record old { hierarchy = looked } in
    let kept : IsCoreSound between =
    sound-over old old.history old.events old.log old.tally looked sound on
    (record {
      parts = access-parts op _ old.hierarchy (AccessMiss is.page) looked is.access;
      calls = refl;
      turns = refl;
      told = told;
      later = later-looked old looked timed same;
      counts = recounted-still old looked
          (rw (ap (λ (x : HierarchyView T E). x.policy) is.access.rest) (counted-alike old sound))
          (fails-none old.hierarchy.device.store looked.device.store
          (runs-same old.hierarchy.device.store looked.device.store same));
    }) in
    made-sound is.page between caller number op turn new
    (record {
      sound = kept;
      memory = rw missed.memory memory;
      device = rw missed.device device;
      on = ap (λ (s : PageStoreView). s.world.flash.on) same ∙ on;
      going = going;
      may = missed.may;
      due = missed.due;
    })
    is.step
