-- A run of sessions, one step after the other.
use Rattle.std.proofs.Common.{◌≡◌, ◌+◌, ◌≤◌, ℕ, List, [], ◌∷◌, ◌++◌, length, refl, sym, ap, ◌∙◌, subst, arith, length-append}
use Rattle.std.specs.Prelude.{Option, Some, None, IfNone, IfOk, IsSome, Result, ⊤}
use Rattle.std.proofs.lemmas.Option.{IfSome_then, MatchOption-at_none, MatchOption-at_some}
use Rattle.std.proofs.lemmas.Result.{IfOk-weaker}
use Rattle.ff_base.specs.declared.geometry.Geometry.{Geometry}
use Rattle.ff_base.specs.declared.memory.NoMemory.{NoMemory}
use Rattle.ff_core.specs.Account.{Start, start_of}
use Rattle.ff_core.specs.Core.{CoreView}
use Rattle.ff_core.specs.Hierarchy.{flash_under}
use Rattle.ff_core.specs.declared.core_state.losing.Lost.{Lost}
use Rattle.ff_flash.specs.FlashState.{FlashState}
use Rattle.ff_mount.specs.declared.stop.MountStop.{MountStop}
use Rattle.ff_trace.specs.Tally.{most_losses}
use Rattle.ff_trace.specs.Within.{AreWithin}
use Rattle.ff_trace.specs.declared.row.Row.{Row}
use Rattle.ff_sessions.specs.Age.{HasLife, age_at}
use Rattle.ff_sessions.specs.Begun.{IsBegun, IsRun, setup_in}
use Rattle.ff_sessions.specs.Closing.{IsClosedSession}
use Rattle.ff_sessions.specs.Following.{Follow, GoesOn, IsGoneOn, IsUnderWay, IsNextStep, MayRun, cursor_after, stops_left}
use Rattle.ff_sessions.specs.Items.{Item, items_of}
use Rattle.ff_sessions.specs.Making.{HasRoomFor}
use Rattle.ff_sessions.specs.Sessions.{AreSessionsOf, Setup, first_start, start_after}
use Rattle.ff_sessions.specs.Stops.{items_at, items_behind}
use Rattle.ff_sessions.specs.declared.chain.Open.{Open}
use Rattle.ff_sessions.specs.declared.chain.Step.{Step}
use Rattle.ff_sessions.specs.declared.closing.Closed.{Closed}
use Rattle.ff_sessions.specs.declared.session.Session.{Session}
use Rattle.ff_sessions.specs.declared.stop.Stop.{Stop}
use Rattle.ff_sessions.proofs.Fewer.{items_few, stops_first}
use Rattle.ff_sessions.proofs.Follows.{follow_last, follow_more}
use Rattle.ff_sessions.proofs.RowItems.{items_whole}
use Rattle.ff_sessions.proofs.Steps.{goes_on, items_none, next_of, told_is}

-- what has no stop is mounted
is_mounted : {M : Type 0} (mounted : Option M) (stop : Option MountStop) → IfNone mounted (IsSome stop) → stop ≡ None → IsSome mounted
is_mounted None stop stopped none = absurd (let some = rw none at stopped in cc)
is_mounted (Some m) stop stopped none = refl

-- where no session is open behind one that has an image, nothing is left
ends_of : {T E : Type 0} (setup : Setup) (rows : List Row) (stop : Stop) (lost : Lost FlashState T E) (closed : Closed T E)
    (next : Option (Open T E)) → IsClosedSession setup.geometry lost closed → IfNone next (IsSome closed.mounted → cursor_after stop ≡ None)
    → IfNone next (closed.session.stop ≡ None → items_behind rows stop ≡ [])
ends_of setup rows stop lost closed (Some later) closes ends = tt
ends_of setup rows stop lost closed None closes ends = λ imaged. items_none rows stop (ends (is_mounted closed.mounted closed.session.stop closes.stopped imaged))

-- a session was run and closed, and the run went on behind it
pub step_of : {T E : Type 0} (setup : Setup) (start : Start) (rows : List Row) (running : Open T E) (stop : Stop)
    (lost : Lost FlashState T E) (closed : Closed T E) (step : Step T E) → MayRun setup start rows running
    → IsRun setup start rows running.at stop lost → IsClosedSession setup.geometry lost closed → IsGoneOn setup.geometry rows closed stop step
    → IsNextStep setup start rows running.at step
step_of setup start rows running stop lost closed step may ran closes gone = record {
  left = items_behind rows stop;
  next = rw gone.session (next_of setup start rows running stop lost closed.session may ran closes.session);
  again = rw gone.session (IfSome_then step.next gone.next
      (λ later opens. goes_on setup start rows running stop lost closed later may ran closes opens));
  ends = rw gone.session (ends_of setup rows stop lost closed step.next closes gone.ends);
}

-- the same of what a step answers
pub ok_step : {T E : Type 0} (rows : List Row) (running : Open T E) (geometry : Geometry) (stop : Stop) (lost : Lost FlashState T E)
    (closed : Closed T E) (result : Result (Step T E) NoMemory) → geometry ≡ running.core.geometry
    → MayRun (setup_in running.core) (start_of running.core) rows running
    → IsRun (setup_in running.core) (start_of running.core) rows running.at stop lost → IsClosedSession geometry lost closed
    → IfOk result (IsGoneOn geometry rows closed stop)
    → IfOk result (IsNextStep (setup_in running.core) (start_of running.core) rows running.at)
ok_step rows running geometry stop lost closed result same may ran closes gone =
    IfOk-weaker result (IsGoneOn geometry rows closed stop) (IsNextStep (setup_in running.core) (start_of running.core) rows running.at)
    (λ step goes. step_of (setup_in running.core) (start_of running.core) rows running stop lost closed step may ran
    (rw same at closes) (rw same at goes)) gone

-- the setup of a core that has begun so
setup_is : {T E : Type 0} (setup : Setup) (start : Start) (core : CoreView T E) → IsBegun setup start core → setup_in core ≡ setup
setup_is setup start core begun =
    let told = told_is (flash_under core.hierarchy) setup.plan begun.plan in
    rw (begun.geometry, told, begun.floor) refl

-- what a step asks of the open session
pub may_step : {T E : Type 0} (setup : Setup) (rows : List Row) (sessions : List Session) (running : Open T E)
    → IsUnderWay setup rows sessions running → MayRun (setup_in running.core) (start_of running.core) rows running
may_step setup rows sessions running runs =
    let begun = runs.may_run.begun in
    subst (λ (s : Setup). MayRun s (start_of running.core) rows running) (sym (setup_is setup runs.start running.core begun))
    (subst (λ (s : Start). MayRun setup s rows running) (sym begun.start_is) runs.may_run)

-- a step of the run's own setup and start
own_step : {T E : Type 0} (setup : Setup) (rows : List Row) (sessions : List Session) (running : Open T E) (step : Step T E)
    → (runs : IsUnderWay setup rows sessions running)
    → IsNextStep (setup_in running.core) (start_of running.core) rows running.at step → IsNextStep setup runs.start rows running.at step
own_step setup rows sessions running step runs is_step =
    let begun = runs.may_run.begun in
    subst (λ (s : Start). IsNextStep setup s rows running.at step) begun.start_is
    (subst (λ (s : Setup). IsNextStep s (start_of running.core) rows running.at step) (setup_is setup runs.start running.core begun) is_step)

-- the run goes on
pub runs_on : {T E : Type 0} (setup : Setup) (rows : List Row) (sessions : List Session) (running : Open T E) (step : Step T E)
    (later : Open T E) → IsUnderWay setup rows sessions running
    → IsNextStep (setup_in running.core) (start_of running.core) rows running.at step → step.next ≡ Some later
    → IsUnderWay setup rows (sessions ++ step.session ∷ []) later
runs_on setup rows sessions running step later runs is_step is =
    let own = own_step setup rows sessions running step runs is_step in
    let goes = MatchOption-at_some ⊤ (GoesOn setup rows step.session (items_at rows running.at) own.left runs.start) later is own.again in
    let size = length-append sessions (step.session ∷ []) in
    let few = runs.few in
    let fewer = goes.fewer in
    let left_few = ap (stops_left (start_after setup step.session).operations setup.plan) goes.left_is in
    record {
      start = start_after setup step.session;
      follow = subst (λ (items : List Item). Follow setup (first_start setup) (items_of rows) (sessions ++ step.session ∷ [])
          (start_after setup step.session) items) goes.left_is
          (follow_more setup (first_start setup) (items_of rows) sessions runs.start (items_at rows running.at) own.left step.session
          runs.follow own.next goes.imaged);
      may_run = goes.may_run;
      few = omega arith;
    }

-- the run is over
pub runs_out : {T E : Type 0} (setup : Setup) (rows : List Row) (sessions : List Session) (running : Open T E) (step : Step T E)
    → IsUnderWay setup rows sessions running → IsNextStep (setup_in running.core) (start_of running.core) rows running.at step
    → step.next ≡ None → AreSessionsOf setup rows (sessions ++ step.session ∷ [])
runs_out setup rows sessions running step runs is_step is =
    let own = own_step setup rows sessions running step runs is_step in
    follow_last setup (first_start setup) (items_of rows) sessions runs.start (items_at rows running.at) own.left step.session
    runs.follow own.next (MatchOption-at_none (step.session.stop ≡ None → own.left ≡ []) (λ _. ⊤) is own.ends)

-- the first session is open
pub runs_first : {T E : Type 0} (setup : Setup) (rows : List Row) (core : CoreView T E) → IsBegun setup (first_start setup) core
    → HasRoomFor core (items_of rows) → AreWithin (length setup.plan.cuts) rows
    → IsUnderWay setup rows [] (record { core = core; at = record { row = 0; made = 0 } })
runs_first setup rows core begun room within =
    let whole = items_whole rows in
    let stops = stops_first setup.plan rows most_losses within.losses in
    let few = items_few rows in
    let few_rows = within.few in
    let few_turns = within.turns in
    record {
      start = first_start setup;
      follow = (refl, whole);
      may_run = record {
        begun = begun;
        cursor = omega arith;
        room = subst (λ (items : List Item). HasRoomFor core items) whole room;
        life = subst (λ (items : List Item). HasLife (age_at (first_start setup)) (length items) (stops_left 0 setup.plan items)) whole
            (record { events = omega arith; operations = omega arith });
      };
      few = subst (λ (items : List Item). 0 + stops_left 0 setup.plan items ≤ 16) whole (omega arith);
    }

-- the same by the core's own setup
pub own_first : {T E : Type 0} (setup : Setup) (rows : List Row) (core : CoreView T E) → IsBegun setup (first_start setup) core
    → HasRoomFor core (items_of rows) → AreWithin (length setup.plan.cuts) rows
    → IsUnderWay (setup_in core) rows [] (record { core = core; at = record { row = 0; made = 0 } })
own_first setup rows core begun room within =
    subst (λ (s : Setup). IsUnderWay s rows [] (record { core = core; at = record { row = 0; made = 0 } }))
    (sym (setup_is setup (first_start setup) core begun)) (runs_first setup rows core begun room within)

-- one session more is over
pub count_more : (sessions pushed : List Session) (session : Session) (count : ℕ) → pushed ≡ sessions ++ session ∷ []
    → length sessions ≡ count → length pushed ≡ count + 1
count_more sessions pushed session count is size =
    let all = ap length is ∙ length-append sessions (session ∷ []) in
    omega arith
