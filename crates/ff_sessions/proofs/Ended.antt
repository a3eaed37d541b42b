-- A session that made rows up to a stop, and then lost its power.
use Rattle.std.proofs.Common.{◌≡◌, ◌+◌, ◌*◌, ◌<◌, ◌≤◌, ℕ, Bool, true, false, inl, inr, cond, List, [], ◌++◌, length, refl, sym, ap, ◌∙◌, subst, arith}
use Rattle.std.proofs.lemmas.Bool.{cases_Bool}
use Rattle.std.specs.Prelude.{None, Option, Some, is_some, option_map, unwrap_or}
use Rattle.ff_base.specs.declared.geometry.Geometry.{Geometry}
use Rattle.ff_core.specs.Account.{IsAccountOf, start_of}
use Rattle.ff_core.specs.Core.{CoreView}
use Rattle.ff_core.specs.Drives.{SameSession}
use Rattle.ff_core.specs.Hierarchy.{flash_under}
use Rattle.ff_core.specs.Losing.{IsLossOf}
use Rattle.ff_core.specs.declared.core_state.losing.Lost.{Lost}
use Rattle.ff_core.proofs.PoweredDown.{off_same}
use Rattle.ff_flash.specs.FlashState.{FlashState, IsFlashSound, powered_off}
use Rattle.ff_flash.specs.Plans.{Planned, cut_at, listed_count, no_plan}
use Rattle.ff_flash.specs.SimFlash.{IsSimFlashSound, arrive_of_cut, told_plan}
use Rattle.ff_flash.specs.declared.plan.CutAt.{CutAt}
use Rattle.ff_model.specs.Legal.{Opening}
use Rattle.ff_policy.specs.Tuner.{TunerView}
use Rattle.ff_trace.specs.declared.row.Row.{Row}
use Rattle.ff_sessions.specs.Age.{Age, most_per_item}
use Rattle.ff_sessions.specs.Begun.{IsBegun, IsRun, setup_in}
use Rattle.ff_sessions.specs.Items.{Item}
use Rattle.ff_sessions.specs.Making.{IsPoweredAt, StopsAt}
use Rattle.ff_sessions.specs.Sessions.{MayLeave, arrive_by, cut_by, ending_items}
use Rattle.ff_sessions.specs.Stops.{ending_of, items_behind, stop_items}
use Rattle.ff_sessions.specs.declared.stop.Cursor.{Cursor}
use Rattle.ff_sessions.specs.declared.stop.Stop.{Stop}
use Rattle.ff_sessions.specs.declared.stop.Stop.TheVariants as stops

-- a session begins where its core did, whatever its events
start_same : {T E : Type 0} (old new : CoreView T E) → SameSession old new → start_of new ≡ start_of old
start_same old new same =
    let opening = same.opening in
    let counts = same.from_counts in
    let opened = same.store.opened in
    rw (opening, counts, opened) refl

-- a flash that was cut is off, and stays as it is
cut_is_off : (flash : FlashState) → IsFlashSound flash → flash.cut ≡ true → flash.on ≡ false
cut_is_off flash sound cut = elim (cases_Bool flash.on) [
  | inl on ↦ absurd (let both : true ≡ false = sym cut ∙ sound.power on in cc)
  | inr off ↦ off
]

off_already : (flash : FlashState) → flash.on ≡ false → powered_off flash ≡ flash
off_already flash off =
    ap (λ (b : Bool). cond b (record flash { on = false; cut = false }) flash) off

-- a cut says how many posts arrive
some_arrive : (cut : Option CutAt) → is_some cut ≡ true → (arrive : ℕ) × (option_map (λ (c : CutAt). c.arrive) cut ≡ Some arrive)
some_arrive (Some cut) some = (cut.arrive, refl)
some_arrive None some = absurd (let both : false ≡ true = some in cc)

cut_arrives : (flash : FlashState) → IsSimFlashSound flash → flash.cut ≡ true → (arrive : ℕ) × (arrive_of_cut flash ≡ Some arrive)
cut_arrives flash known cut =
    let some = some_arrive (cut_at flash.operations (told_plan flash).cuts) (known.cut cut) in (
      some.0,
      ap (λ (b : Bool). cond b (option_map (λ (c : CutAt). c.arrive) (cut_at flash.operations (told_plan flash).cuts)) None) cut ∙ some.1,
    )

some_unwrapped : (arrives : Option ℕ) (arrive : ℕ) → arrives ≡ Some arrive → arrives ≡ Some (unwrap_or arrives 0)
some_unwrapped arrives arrive is =
    subst (λ (o : Option ℕ). o ≡ Some (unwrap_or o 0)) (sym is) refl

-- a flash whose power was turned off wasn't cut
uncut : (flash : FlashState) → flash.on ≡ true → arrive_of_cut (powered_off flash) ≡ None
uncut flash on =
    ap (λ (b : Bool). arrive_of_cut (cond b (record flash { on = false; cut = false }) flash)) on

-- the item of an ending is that of its stop
item_of : (stop : Stop) (flash : FlashState) → stop_items stop ≡ ending_items (ending_of stop flash)
item_of (stops.Cut cursor) flash = refl
item_of (stops.Power row arrive) flash = refl
item_of stops.End flash = refl

-- how a session ends whose flash lost its power, if it still had it, at a stop
record EndsSo (geometry : Geometry) (from flash : FlashState) (stop : Stop) (left : List Item) : Type 0 where
  cut : arrive_of_cut (powered_off flash) ≡ cut_by (ending_of stop (powered_off flash))
  leaves : MayLeave (ending_of stop (powered_off flash)) left
  arrives : arrive_by geometry (ending_of stop flash) ≡ arrive_by geometry (ending_of stop (powered_off flash))
  counted : (arrive : ℕ) → arrive_of_cut (powered_off flash) ≡ Some arrive → from.operations < (powered_off flash).operations

ends_so : {T E : Type 0} (geometry : Geometry) (old new : CoreView T E) (rows : List Row) (stop : Stop)
    → IsSimFlashSound (flash_under new.hierarchy) → IsPoweredAt old stop (items_behind rows stop) new
    → EndsSo geometry (flash_under old.hierarchy) (flash_under new.hierarchy) stop (items_behind rows stop)
ends_so geometry old new rows (stops.Cut cursor) known powered =
    let flash = flash_under new.hierarchy in
    let same = sym (off_already flash (cut_is_off flash known.sound powered.1.cut)) in
    let some = cut_arrives flash known powered.1.cut in
    record {
      cut = subst (λ (f : FlashState). arrive_of_cut f ≡ Some (unwrap_or (arrive_of_cut f) 0)) same
          (some_unwrapped (arrive_of_cut flash) some.0 some.1);
      leaves = powered.0;
      arrives = ap (λ (f : FlashState). unwrap_or (arrive_of_cut f) 0) same;
      counted = λ arrive is. subst (λ (f : FlashState). (flash_under old.hierarchy).operations < f.operations) same powered.1.counted;
    }
ends_so geometry old new rows (stops.Power row arrive) known on =
    let none = uncut (flash_under new.hierarchy) on in
    record {
      cut = none;
      leaves = tt;
      arrives = refl;
      counted = λ arrives is. absurd (let both : ◌≡◌ {A = Option ℕ} None (Some arrives) = sym none ∙ is in cc);
    }
ends_so geometry old new rows stops.End known on =
    let none = uncut (flash_under new.hierarchy) on in
    record {
      cut = none;
      leaves = refl;
      arrives = refl;
      counted = λ arrives is. absurd (let both : ◌≡◌ {A = Option ℕ} None (Some arrives) = sym none ∙ is in cc);
    }

-- what an ended session left is what its core held
pub record IsLeft {T E : Type 0} (core : CoreView T E) (arrive : ℕ) (lost : Lost FlashState T E) : Type 0 where
  pub base : lost.base ≡ core.opening.base
  pub entries : lost.account.entries ≡ core.history.entries
  pub turns : lost.account.turns ≡ core.log.turns
  pub events : lost.account.events ≡ core.events
  pub flash : lost.flash ≡ powered_off (flash_under core.hierarchy)
  pub tuner : lost.tuner ≡ core.hierarchy.policy.tuner
  pub good : IsAccountOf core.geometry core.hierarchy.policy.tuner.floor (start_of core) lost.account lost.flash
  pub owed : IsLossOf core.geometry core.opening.base arrive lost.account lost.nv lost.flash

-- a session that began, and made its rows up to a stop at which it lost its power, has run
pub ran_so : {T E : Type 0} (core new : CoreView T E) (rows : List Row) (at : Cursor) (stop : Stop) (arrive : ℕ)
    (lost : Lost FlashState T E) → IsBegun (setup_in core) (start_of core) core → StopsAt core rows at stop new
    → IsSimFlashSound (flash_under new.hierarchy) → arrive ≡ arrive_by new.geometry (ending_of stop (flash_under new.hierarchy))
    → IsLeft new arrive lost → IsRun (setup_in core) (start_of core) rows at stop lost
ran_so {T = T} {E = E} core new rows at stop arrive lost begun stops known is left =
    let flash = flash_under new.hierarchy in
    let same = stops.did.same in
    let ends = ends_so core.geometry core new rows stop known stops.powered in
    let back = sym left.flash in
    let base : new.opening.base ≡ core.opening.base = ap (λ (o : Opening). o.base) same.opening in
    let floor : new.hierarchy.policy.tuner.floor ≡ core.hierarchy.policy.tuner.floor =
    ap (λ (t : TunerView T). t.floor) same.floor in
    let start : start_of new ≡ start_of core = start_same core new same in
    let told : told_plan flash ≡ (setup_in core).plan = ap (λ (p : Option Planned). unwrap_or p no_plan) same.store.plan in
    let operations : lost.flash.operations ≡ flash.operations =
    ap (λ (f : FlashState). f.operations) left.flash ∙ off_same (λ (f : FlashState). f.operations) flash refl in
    let faults : lost.flash.faults ≡ flash.faults =
    ap (λ (f : FlashState). f.faults) left.flash ∙ off_same (λ (f : FlashState). f.faults) flash refl in
    let plan : lost.flash.plan ≡ flash.plan =
    ap (λ (f : FlashState). f.plan) left.flash ∙ off_same (λ (f : FlashState). f.plan) flash refl in
    let arrives : arrive ≡ arrive_by core.geometry (ending_of stop lost.flash) =
    is ∙ ap (λ (g : Geometry). arrive_by g (ending_of stop flash)) same.geometry ∙ ends.arrives
    ∙ ap (λ (f : FlashState). arrive_by core.geometry (ending_of stop f)) back in
    let events : lost.account.events ≡ new.events = left.events in
    let begin_events : core.events ≡ (start_of core).event = ap (λ (age : Age). age.events) begun.age in
    let begin : (flash_under core.hierarchy).operations ≡ (start_of core).operations =
    ap (λ (age : Age). age.operations) begun.age in
    let low : (flash_under core.hierarchy).operations ≤ flash.operations = stops.rise.no_fall in
    let made : new.events ≤ core.events + most_per_item * (length stops.items + 1) = stops.rise.events in
    let high : flash.operations ≤ (flash_under core.hierarchy).operations + most_per_item * (length stops.items + 1) =
    stops.rise.operations in
    record {
      takes = record {
        work = stops.items;
        taken = stops.split
            ∙ ap (λ (item : List Item). stops.items ++ (item ++ items_behind rows stop)) (item_of stop lost.flash);
        is_work = rw (left.entries, left.turns) (stops.did.work [] (begun.calls, begun.turns));
        numbered = λ caller. rw left.entries (stops.numbered caller);
        cut = subst (λ (f : FlashState). arrive_of_cut f ≡ cut_by (ending_of stop f)) back ends.cut;
        leaves = subst (λ (f : FlashState). MayLeave (ending_of stop f) (items_behind rows stop)) back ends.leaves;
      };
      due = record {
        base_is = left.base ∙ base;
        is_account = rw (same.geometry, floor, start) at left.good;
        plan = plan ∙ same.store.plan ∙ begun.plan;
        planned = faults ∙ known.faults ∙ ap (λ (n : ℕ). listed_count n (told_plan flash).fail) (sym operations)
            ∙ ap (λ (p : Planned). listed_count lost.flash.operations p.fail) told;
        owed = rw (same.geometry, base, arrives) at left.owed;
      };
      within = stops.within;
      floor = ap (λ (t : TunerView T). t.floor) left.tuner ∙ floor;
      rise = record {
        no_fall = omega (arith, operations, begin, low);
        events = omega (arith, events, begin_events, made);
        operations = omega (arith, operations, begin, high);
      };
      counted = λ arrives is.
          let cut = subst (λ (f : FlashState). (arrive : ℕ) → arrive_of_cut f ≡ Some arrive
          → (flash_under core.hierarchy).operations < f.operations) back ends.counted in
          let more = cut arrives is in
          omega (arith, begin, more);
    }
