-- What one event of a call makes of a core.
use Rattle.std.proofs.Common.{◌≡◌, ◌<◌, ◌≤◌, ◌+◌, ◌==◌, ℕ, Bool, true, false, not, length, Option, Some, None, refl, sym, ap, ◌∙◌, arith}
use Rattle.std.specs.Prelude.{if◌then◌else◌}
use Rattle.std.proofs.Math.Nat.{min-le_left}
use Rattle.std.proofs.Math.Arith.{lt_of_le-ne}
use Rattle.std.proofs.lemmas.Bool.{eqb-false}
use Rattle.std.proofs.lemmas.Option.{none-some}
use Rattle.ff_base.specs.Count.{last_event}
use Rattle.ff_base.specs.declared.numbers.Caller.{Caller}
use Rattle.ff_base.specs.declared.numbers.PageNo.{PageNo}
use Rattle.ff_calls.proofs.ToldMissed.{told-missed}
use Rattle.ff_lines.specs.DeviceState.{IsDevice}
use Rattle.ff_memory.specs.Memory.{IsMemorySound}
use Rattle.ff_memory.specs.declared.access.Access.TheVariants.{Miss as AccessMiss}
use Rattle.ff_memory.specs.declared.access.Side.{Side}
use Rattle.ff_memory.specs.declared.access.Side.TheVariants.{Device, Host, Neither}
use Rattle.ff_model.specs.Spans.{is_in_range}
use Rattle.ff_model.specs.declared.op.Op.{Op}
use Rattle.ff_model.specs.declared.op.Reply.{Reply}
use Rattle.ff_model.specs.declared.op.Reply.TheVariants.{Range, Spent, Fault}
use Rattle.ff_policy.specs.Policy.{PolicyView, StepsWhere, counted}
use Rattle.ff_store.specs.PageStore.{PageStoreView}
use Rattle.ff_core.specs.Core.{CoreView, next_number}
use Rattle.ff_core.specs.CoreSound.{IsCoreSound}
use Rattle.ff_core.specs.Drives.{AnswersOrLeaves, IsEvent, cut, served}
use Rattle.ff_core.specs.EventsLeft.{events_left}
use Rattle.ff_core.specs.Hierarchy.{HierarchyView, flash_under, lines_under}
use Rattle.ff_core.specs.Serving.{IsAccess, PolicyAfter, page_asked}
use Rattle.ff_model.specs.Legal.{refusal}
use Rattle.ff_core.specs.Turns.{AfterStep, IsAttempt, IsMiss, IsServed, IsTurn, IsTurnBy, answered, misses, serves}
use Rattle.ff_core.specs.declared.action.Action.{Action}
use Rattle.ff_core.specs.declared.action.Progress.{Progress}
use Rattle.ff_core.specs.declared.action.Progress.TheVariants.{Did, Failed, Off as ProgressOff}
use Rattle.ff_core.specs.declared.turn.Turn.{Turn}
use Rattle.ff_core.specs.declared.turn.Turn.TheVariants.{Served, Miss, Off}
use Rattle.ff_core.proofs.MissFalls.{LooksSame, miss_falls}
use Rattle.ff_core.proofs.MissRuns.{RunsStep, miss_runs, store_same}
use Rattle.ff_core.proofs.Running.{Runs, performs-runs}
use Rattle.ff_core.proofs.WorkFalls.{IsStepGiven}

pub next_few : (event : ℕ) → next_number event ≤ event + 1
next_few event = min-le_left (event + 1) last_event

-- the power was off
off_event : {T E : Type 0} (old : CoreView T E) (caller : Caller) (number : ℕ) (op : Op) (turn : Turn) (new : CoreView T E)
    → (flash_under old.hierarchy).on ≡ false → turn ≡ Off → new ≡ old → IsEvent old caller number op turn new
off_event old caller number op turn new off is same = rw (is, same) (record {
  answer = cut refl refl off;
  log = refl;
  same = record {
    opening = refl;
    geometry = refl;
    from_counts = refl;
    room = refl;
    turns_room = refl;
    floor = refl;
    picker = refl;
    store = store_same old.hierarchy.device.store;
  };
  events = omega arith;
  no_fall = omega arith;
  one_more = omega arith;
})

-- the call was refused
refused_event : {T E : Type 0} (old : CoreView T E) (caller : Caller) (number : ℕ) (op : Op) (reply : Reply) (turn : Turn)
    (new : CoreView T E) → (flash_under old.hierarchy).on ≡ true → turn ≡ Served reply
    → new ≡ answered old caller number op reply → IsEvent old caller number op turn new
refused_event old caller number op reply turn new on is same = rw (is, same) (record {
  answer = served reply old.events (flash_under old.hierarchy).faults refl refl on;
  log = refl;
  same = record {
    opening = refl;
    geometry = refl;
    from_counts = refl;
    room = refl;
    turns_room = refl;
    floor = refl;
    picker = refl;
    store = store_same old.hierarchy.device.store;
  };
  events = next_few old.events;
  no_fall = omega arith;
  one_more = omega arith;
})

steps_tuner : {T : Type 0} (due : Bool) (answers : T → ℕ → ℕ → ℕ → ℕ → Type 0) (old new : PolicyView T)
    → StepsWhere due answers old new → new.tuner ≡ old.tuner
steps_tuner {T = T} true answers old new is = ap (λ (p : PolicyView T). p.tuner) is.policy
steps_tuner {T = T} false answers old new is = ap (λ (p : PolicyView T). p.tuner) is

-- an access leaves the tuner
policy_tuner : {T : Type 0} (side : Side) (page : ℕ) (answers : T → ℕ → ℕ → ℕ → ℕ → Type 0) (old new : PolicyView T)
    → PolicyAfter side page answers old new → new.tuner ≡ old.tuner
policy_tuner {T = T} Device page answers old new is = steps_tuner _ answers (counted page old) new is
policy_tuner {T = T} Host page answers old new is = ap (λ (p : PolicyView T). p.tuner) is
policy_tuner {T = T} Neither page answers old new is = ap (λ (p : PolicyView T). p.tuner) is

-- the call was served
served_event : {T E : Type 0} (answers : T → ℕ → ℕ → ℕ → ℕ → Type 0) (old : CoreView T E) (caller : Caller) (number : ℕ) (op : Op)
    (reply : Reply) (turn : Turn) (new : CoreView T E) → (flash_under old.hierarchy).on ≡ true → turn ≡ Served reply
    → IsServed answers old caller number op reply new → IsEvent old caller number op turn new
served_event {T = T} {E = E} answers old caller number op reply turn new on is s =
    let store : new.hierarchy.device.store ≡ old.hierarchy.device.store =
    ap (λ (c : CoreView T E). c.hierarchy.device.store) s.core ∙ s.access.store in
    let operations = ap (λ (t : PageStoreView). t.world.flash.operations) store in
    let power = ap (λ (t : PageStoreView). t.world.flash.on) store ∙ on in
    rw is (record {
      answer = served reply old.events _ refl (ap (λ (c : CoreView T E). c.history) s.core) power;
      log = ap (λ (c : CoreView T E). c.log) s.core;
      same = record {
        opening = ap (λ (c : CoreView T E). c.opening) s.core;
        geometry = ap (λ (c : CoreView T E). c.geometry) s.core;
        from_counts = ap (λ (c : CoreView T E). c.from_counts) s.core;
        room = ap (λ (c : CoreView T E). c.history.room) s.core;
        turns_room = ap (λ (c : CoreView T E). c.log.room) s.core;
        floor = policy_tuner s.side (page_asked op) answers old.hierarchy.policy new.hierarchy.policy s.policy;
        picker = ap (λ (c : CoreView T E). c.hierarchy.evictor.picker) s.core
            ∙ ap (λ (g : HierarchyView T E). g.evictor.picker) s.access.rest;
        store = rw store (store_same old.hierarchy.device.store);
      };
      events = let event = ap (λ (c : CoreView T E). c.events) s.core in let few = next_few old.events in omega (arith, event, few);
      no_fall = omega (arith, operations);
      one_more = omega (arith, operations);
    })

-- a call that isn't refused
record IsAsked (pages event : ℕ) (op : Op) : Type 0 where
  range : is_in_range pages op ≡ true
  going : (event == last_event) ≡ false

asked_by : (range last : Bool) → (if not range then Some Range else if last then Some Spent else None) ≡ None
    → (range ≡ true) × (last ≡ false)
asked_by true true none = absurd (none-some Spent (sym none))
asked_by true false none = (refl, refl)
asked_by false last none = absurd (none-some Range (sym none))

before_last : (event : ℕ) → (event == last_event) ≡ false → event ≤ last_event → event < last_event
before_last event other most = lt_of_le-ne most (eqb-false event last_event other)

-- what a missed call's step leaves of the core
record LeavesCore {T E : Type 0} (old new : CoreView T E) : Type 0 where
  opening : new.opening ≡ old.opening
  geometry : new.geometry ≡ old.geometry
  from_counts : new.from_counts ≡ old.from_counts
  room : new.history.room ≡ old.history.room
  log : new.log ≡ old.log
  events : new.events ≤ old.events + 1

-- a call missed a page, and its step was made
record IsMissing {T E : Type 0} (old : CoreView T E) (op : Op) (page : PageNo) (between : HierarchyView T E)
    (progress : Progress) (new : CoreView T E) : Type 0 where
  access : IsAccess op (length old.history.entries) old.hierarchy (AccessMiss page) between
  on : (flash_under between).on ≡ true
  leaves : RunsStep between progress new.hierarchy
  runs : Runs progress between new.hierarchy
  falls : (what : _) → progress ≡ Did what → events_left op new.hierarchy < events_left op old.hierarchy

missing_event : {T E : Type 0} (old : CoreView T E) (caller : Caller) (number : ℕ) (op : Op) (page : PageNo)
    (between : HierarchyView T E) (progress : Progress) (turn : Turn) (new : CoreView T E)
    → IsMissing old op page between progress new → LeavesCore old new → AnswersOrLeaves turn old caller number op new
    → IsEvent old caller number op turn new
missing_event {T = T} {E = E} old caller number op page between progress turn new m leaves answer =
    let store = m.access.store in
    let operations = ap (λ (t : PageStoreView). t.world.flash.operations) store in
    let no_fall = m.leaves.no_fall in
    let one_more = m.leaves.one_more in
    record {
      answer = answer;
      log = leaves.log;
      same = record {
        opening = leaves.opening;
        geometry = leaves.geometry;
        from_counts = leaves.from_counts;
        room = leaves.room;
        turns_room = ap (λ l. l.room) leaves.log;
        floor = ap (λ (p : PolicyView T). p.tuner) m.leaves.policy
            ∙ ap (λ (g : HierarchyView T E). g.policy.tuner) m.access.rest;
        picker = ap (λ v. v.picker) m.leaves.evictor ∙ ap (λ (g : HierarchyView T E). g.evictor.picker) m.access.rest;
        store = rw store at m.leaves.store;
      };
      events = leaves.events;
      no_fall = omega (arith, operations, no_fall);
      one_more = omega (arith, operations, one_more);
    }

-- by what the step came to
missing_by : {T E : Type 0} (progress : Progress) (old : CoreView T E) (caller : Caller) (number : ℕ) (op : Op) (page : PageNo)
    (action : Action) (between : HierarchyView T E) (turn : Turn) (new : CoreView T E)
    → IsMissing old op page between progress new
    → AfterStep progress action page (record old { hierarchy = between }) caller number op turn new.hierarchy new
    → IsEvent old caller number op turn new
missing_by {T = T} {E = E} (Did what) old caller number op page action between turn new m after =
    let core = after.1 in
    let event = ap (λ (c : CoreView T E). c.events) core in
    let few = next_few old.events in
    let leaves : LeavesCore old new = record {
      opening = ap (λ (c : CoreView T E). c.opening) core;
      geometry = ap (λ (c : CoreView T E). c.geometry) core;
      from_counts = ap (λ (c : CoreView T E). c.from_counts) core;
      room = ap (λ (c : CoreView T E). c.history.room) core;
      log = ap (λ (c : CoreView T E). c.log) core;
      events = omega (arith, event, few);
    } in
    let answer : AnswersOrLeaves (Miss page) old caller number op new =
    record { history = ap (λ (c : CoreView T E). c.history) core; fewer = m.falls what refl; on = m.runs.power m.on } in
    rw after.0 (missing_event old caller number op page between (Did what) (Miss page) new m leaves answer)
missing_by {T = T} {E = E} Failed old caller number op page action between turn new m after =
    let core = after.1 in
    let event = ap (λ (c : CoreView T E). c.events) core in
    let few = next_few old.events in
    let leaves : LeavesCore old new = record {
      opening = ap (λ (c : CoreView T E). c.opening) core;
      geometry = ap (λ (c : CoreView T E). c.geometry) core;
      from_counts = ap (λ (c : CoreView T E). c.from_counts) core;
      room = ap (λ (c : CoreView T E). c.history.room) core;
      log = ap (λ (c : CoreView T E). c.log) core;
      events = omega (arith, event, few);
    } in
    let answer : AnswersOrLeaves (Served Fault) old caller number op new =
    served Fault old.events (flash_under new.hierarchy).faults refl (ap (λ (c : CoreView T E). c.history) core) (m.runs.power m.on) in
    rw after.0 (missing_event old caller number op page between Failed (Served Fault) new m leaves answer)
missing_by {T = T} {E = E} ProgressOff old caller number op page action between turn new m after =
    let core = after.1 in
    let event = ap (λ (c : CoreView T E). c.events) core in
    let leaves : LeavesCore old new = record {
      opening = ap (λ (c : CoreView T E). c.opening) core;
      geometry = ap (λ (c : CoreView T E). c.geometry) core;
      from_counts = ap (λ (c : CoreView T E). c.from_counts) core;
      room = ap (λ (c : CoreView T E). c.history.room) core;
      log = ap (λ (c : CoreView T E). c.log) core;
      events = omega (arith, event);
    } in
    let answer : AnswersOrLeaves Off old caller number op new =
    cut refl (ap (λ (c : CoreView T E). c.history) core) m.runs.stops.0 in
    rw after.0 (missing_event old caller number op page between ProgressOff Off new m leaves answer)

-- what is known of a core before and after an event with the power on
record IsEventGiven {T E : Type 0} (old new : CoreView T E) : Type 0 where
  sound : IsCoreSound old
  memory : IsMemorySound old.hierarchy.memory
  device : IsDevice (lines_under old.hierarchy)
  after : IsDevice (lines_under new.hierarchy)

missed_event : {T E : Type 0} (old : CoreView T E) (caller : Caller) (number : ℕ) (op : Op) (turn : Turn) (new : CoreView T E)
    → IsEventGiven old new → (flash_under old.hierarchy).on ≡ true → IsAsked old.opening.pages old.events op
    → IsMiss old caller number op turn new → IsEvent old caller number op turn new
missed_event {T = T} {E = E} old caller number op turn new given on asked m =
    let between : HierarchyView T E = m.between in
    let going = before_last old.events asked.going given.sound.timed.not_past in
    let told = told-missed old.opening old.history.entries old.events op (length old.history.entries) m.page old.hierarchy.memory
    (lines_under old.hierarchy) between.memory (lines_under between) given.sound.told given.memory asked.range going
    m.access.accesses in
    let looks : LooksSame old.hierarchy between = record { memory = told.memory; lines = told.device; own = m.access.own } in
    let known : IsStepGiven between new.hierarchy = record {
      memory = rw told.memory given.memory;
      cache = m.access.cache;
      device = rw told.device given.device;
      located = m.access.located;
      after = given.after;
    } in
    let power : (flash_under between).on ≡ true = ap (λ (t : PageStoreView). t.world.flash.on) m.access.store ∙ on in
    let step = m.step in
    let missing : IsMissing old op m.page between step.progress new = record {
      access = m.access;
      on = power;
      leaves = miss_runs op m.page step.action between step.progress new.hierarchy power step.asked step.performs;
      runs = performs-runs step.action between step.progress new.hierarchy power step.performs;
      falls = λ what did. miss_falls op m.page step.action what old.hierarchy between new.hierarchy looks known told.finds step.asked
          (rw did at step.performs);
    } in
    missing_by step.progress old caller number op m.page step.action between turn new missing step.after

attempt_event : {T E : Type 0} (answers : T → ℕ → ℕ → ℕ → ℕ → Type 0) (old : CoreView T E) (caller : Caller) (number : ℕ) (op : Op)
    (turn : Turn) (new : CoreView T E) → IsEventGiven old new → (flash_under old.hierarchy).on ≡ true
    → IsAsked old.opening.pages old.events op → IsAttempt answers old caller number op turn new
    → IsEvent old caller number op turn new
attempt_event answers old caller number op turn new given on asked (serves reply is s) =
    served_event answers old caller number op reply turn new on is s
attempt_event answers old caller number op turn new given on asked (misses m) =
    missed_event old caller number op turn new given on asked m

powered_event : {T E : Type 0} (refused : Option Reply) (answers : T → ℕ → ℕ → ℕ → ℕ → Type 0) (old : CoreView T E)
    (caller : Caller) (number : ℕ) (op : Op) (turn : Turn) (new : CoreView T E) → refusal old.opening.pages old.events op ≡ refused
    → IsEventGiven old new → (flash_under old.hierarchy).on ≡ true → IsTurnBy refused answers old caller number op turn new
    → IsEvent old caller number op turn new
powered_event (Some reply) answers old caller number op turn new refused given on is =
    refused_event old caller number op reply turn new on is.0 is.1
powered_event None answers old caller number op turn new refused given on is =
    let asked = asked_by (is_in_range old.opening.pages op) (old.events == last_event) refused in
    attempt_event answers old caller number op turn new given on (record { range = asked.0; going = asked.1 }) is

by_power : {T E : Type 0} (on : Bool) (answers : T → ℕ → ℕ → ℕ → ℕ → Type 0) (old : CoreView T E) (caller : Caller) (number : ℕ)
    (op : Op) (turn : Turn) (new : CoreView T E) → (flash_under old.hierarchy).on ≡ on → IsEventGiven old new
    → IsTurn on answers old caller number op turn new → IsEvent old caller number op turn new
by_power false answers old caller number op turn new off given is = off_event old caller number op turn new off is.0 is.1
by_power true answers old caller number op turn new on given is =
    powered_event (refusal old.opening.pages old.events op) answers old caller number op turn new refl given on is

-- one event of a call
pub turn_event : {T E : Type 0} (answers : T → ℕ → ℕ → ℕ → ℕ → Type 0) (old : CoreView T E) (caller : Caller) (number : ℕ) (op : Op)
    (turn : Turn) (new : CoreView T E) → IsCoreSound old → IsMemorySound old.hierarchy.memory → IsDevice (lines_under old.hierarchy)
    → IsDevice (lines_under new.hierarchy) → IsTurn (flash_under old.hierarchy).on answers old caller number op turn new
    → IsEvent old caller number op turn new
turn_event answers old caller number op turn new sound memory device after is =
    by_power (flash_under old.hierarchy).on answers old caller number op turn new refl
    (record { sound = sound; memory = memory; device = device; after = after }) is
