-- Settings within their bounds, and the first that isn't.
use Rattle.std.proofs.Common.{◌≡◌, ◌<◌, ◌≤◌, ◌+◌, ℕ, Bool, true, false, List, [], ◌∷◌, length, Option, Some, None, cond, refl, sym, subst, ap, inl, inr, arith, lit<}
use Rattle.std.specs.Prelude.{not, find, nat_le, ◌&&◌, ◌==◌, IfSome}
use Rattle.std.specs.List.{AllByRecursion, list_all}
use Rattle.std.proofs.lemmas.Bool.{and_parts, cases_Bool, cases_eq, leb-true}
use Rattle.std.proofs.lemmas.Bool.Decides.{nat_tests}
use Rattle.ff_base.specs.Count.{last_event}
use Rattle.ff_base.specs.Geometry.{IsAllowed, IsFirstBroken, IsWithinLimits, greatest_of, least_of, rank_of, value_of}
use Rattle.ff_base.specs.declared.geometry.Geometry.{Geometry}
use Rattle.ff_base.specs.declared.limits.Limit.{Limit}
use Rattle.ff_base.specs.declared.limits.LimitName.{LimitName}
use Rattle.ff_base.specs.declared.limits.LimitName.TheVariants as limit
use Rattle.ff_flash.specs.Plans.{RisesFrom, cut_at, cut_numbers, is_listed}
use Rattle.ff_flash.specs.declared.plan.CutAt.{CutAt}
use Rattle.ff_settings.specs.Bounds.{IsSettingsSound, event_fits, first_beyond, fits_in_cut, is_kept, is_within, rises_from, most_cuts, most_fails}
use Rattle.ff_settings.specs.Names.{later_names, name_of, setting_names}
use Rattle.ff_settings.specs.Settings.{SettingsView}
use Rattle.ff_settings.specs.Values.{short}
use Rattle.ff_settings.specs.declared.names.SettingName.{SettingName}
use Rattle.ff_settings.proofs.Lists.{short-fits}

kept : (g : Geometry) (n : LimitName) → IsAllowed n (value_of g n) → is_kept g n ≡ true
unfolding is_kept
kept g n keeps =
    let low : nat_le (least_of n) (value_of g n) ≡ true = let fact = keeps.low in grind (arith, nat_tests) in
    let high : nat_le (value_of g n) (greatest_of n) ≡ true = let fact = keeps.high in grind (arith, nat_tests) in
    rw (low, high)

unkept : (g : Geometry) (n : LimitName) → is_kept g n ≡ true → IsAllowed n (value_of g n)
unfolding is_kept
unkept g n both =
    let (low, high) = and_parts (nat_le (least_of n) (value_of g n)) (nat_le (value_of g n) (greatest_of n)) both in
    record { low = grind (arith, nat_tests); high = grind (arith, nat_tests) }

broken : (g : Geometry) (n : LimitName) → (IsAllowed n (value_of g n) → ⊥) → is_kept g n ≡ false
broken g n breaks = elim (cases_Bool (is_kept g n)) [ inl keeps ↦ absurd (breaks (unkept g n keeps)) | inr other ↦ other ]

-- the first number of a geometry that is out of its bounds is the first setting that is
first-at : (s : SettingsView) (n : LimitName) → is_kept s.geometry n ≡ false
    → ((m : LimitName) → rank_of m < rank_of n → is_kept s.geometry m ≡ true) → Some (name_of n) ≡ first_beyond s
first-at s limit.Blocks here before = rw here
first-at s limit.PerBlock here before = rw (before limit.Blocks (lit< tt), here)
first-at s limit.Pages here before = rw (before limit.Blocks (lit< tt), before limit.PerBlock (lit< tt), here)
first-at s limit.Sets here before = rw (before limit.Blocks (lit< tt), before limit.PerBlock (lit< tt), before limit.Pages (lit< tt), here)
first-at s limit.Ways here before =
    rw (before limit.Blocks (lit< tt), before limit.PerBlock (lit< tt), before limit.Pages (lit< tt), before limit.Sets (lit< tt), here)
first-at s limit.Frames here before =
    rw (
      before limit.Blocks (lit< tt),
      before limit.PerBlock (lit< tt),
      before limit.Pages (lit< tt),
      before limit.Sets (lit< tt),
      before limit.Ways (lit< tt),
      here,
    )
first-at s limit.Plb here before =
    rw (
      before limit.Blocks (lit< tt),
      before limit.PerBlock (lit< tt),
      before limit.Pages (lit< tt),
      before limit.Sets (lit< tt),
      before limit.Ways (lit< tt),
      before limit.Frames (lit< tt),
      here,
    )
first-at s limit.Window here before =
    rw (
      before limit.Blocks (lit< tt),
      before limit.PerBlock (lit< tt),
      before limit.Pages (lit< tt),
      before limit.Sets (lit< tt),
      before limit.Ways (lit< tt),
      before limit.Frames (lit< tt),
      before limit.Plb (lit< tt),
      here,
    )
first-at s limit.Low here before =
    rw (
      before limit.Blocks (lit< tt),
      before limit.PerBlock (lit< tt),
      before limit.Pages (lit< tt),
      before limit.Sets (lit< tt),
      before limit.Ways (lit< tt),
      before limit.Frames (lit< tt),
      before limit.Plb (lit< tt),
      before limit.Window (lit< tt),
      here,
    )
first-at s limit.FlashPages here before =
    rw (
      before limit.Blocks (lit< tt),
      before limit.PerBlock (lit< tt),
      before limit.Pages (lit< tt),
      before limit.Sets (lit< tt),
      before limit.Ways (lit< tt),
      before limit.Frames (lit< tt),
      before limit.Plb (lit< tt),
      before limit.Window (lit< tt),
      before limit.Low (lit< tt),
      here,
    )
first-at s limit.CacheWays here before =
    rw (
      before limit.Blocks (lit< tt),
      before limit.PerBlock (lit< tt),
      before limit.Pages (lit< tt),
      before limit.Sets (lit< tt),
      before limit.Ways (lit< tt),
      before limit.Frames (lit< tt),
      before limit.Plb (lit< tt),
      before limit.Window (lit< tt),
      before limit.Low (lit< tt),
      before limit.FlashPages (lit< tt),
      here,
    )

pub first-broken : (s : SettingsView) (bounds : Limit) → IsFirstBroken s.geometry bounds → Some (name_of bounds.name) ≡ first_beyond s
first-broken s bounds first =
    let value : value_of s.geometry bounds.name ≡ bounds.value = sym (ap (λ (l : Limit). l.value) first.told) in
    first-at s bounds.name
    (broken s.geometry bounds.name (λ allowed. first.broken (subst (λ (v : ℕ). IsAllowed bounds.name v) value allowed)))
    (λ m before. kept s.geometry m (first.first m before))

-- where the geometry is within its bounds, those behind it decide
pub first-later : (s : SettingsView) → IsWithinLimits s.geometry
    → find (λ name. not (is_within s name)) later_names ≡ first_beyond s
first-later s w =
    rw (
      kept s.geometry limit.Blocks w.blocks,
      kept s.geometry limit.PerBlock w.per_block,
      kept s.geometry limit.Pages w.pages,
      kept s.geometry limit.Sets w.sets,
      kept s.geometry limit.Ways w.ways,
      kept s.geometry limit.Frames w.frames,
      kept s.geometry limit.Plb w.plb,
      kept s.geometry limit.Window w.window,
      kept s.geometry limit.Low w.low,
      kept s.geometry limit.FlashPages w.flash_pages,
      kept s.geometry limit.CacheWays w.cache_ways,
    )

found-none : {X : Type 0} (b : Bool) (x : X) (o : Option X) → cond (not b) (Some x) o ≡ None → (b ≡ true) × (o ≡ None)
found-none true x o e = (refl, e)
found-none false x o e = cc

-- where no name fails a test, each passes it
all-pass : (test : SettingName → Bool) (names : List SettingName) → find (λ name. not (test name)) names ≡ None
    → AllByRecursion (λ name. test name ≡ true) names
all-pass test [] e = tt
all-pass test (name ∷ names) e =
    let (here, later) = found-none (test name) name (find (λ name. not (test name)) names) e in
    (here, all-pass test names later)

rises : (least : ℕ) (numbers : List ℕ) → rises_from least numbers ≡ true → RisesFrom least numbers
rises least [] e = tt
rises least (number ∷ later) e =
    let (bounds, more) = and_parts (nat_le least number && nat_le number last_event) (rises_from (number + 1) later) e in
    let (low, high) = and_parts (nat_le least number) (nat_le number last_event) bounds in
    (grind (arith, nat_tests), rises (number + 1) later more)

apart : (number : ℕ) (fail : List ℕ) (cuts : List CutAt) → list_all (λ cut. not (is_listed cut.at fail)) cuts ≡ true
    → is_listed number fail ≡ true → cut_at number cuts ≡ None
apart number fail [] beside listed = refl
apart number fail (cut ∷ cuts) beside listed =
    let (here, later) = and_parts (not (is_listed cut.at fail)) (list_all (λ cut. not (is_listed cut.at fail)) cuts) beside in
    elim (cases_eq cut.at number) [
      | inl same ↦
          let other : not (is_listed number fail) ≡ true = rw same at here in
          let clash : not true ≡ true = rw listed at other in cc
      | inr other ↦
          let test : (cut.at == number) ≡ false = grind (arith, nat_tests) in
          rw test (apart number fail cuts later listed)
    ]

fits : (event : Option ℕ) → event_fits event ≡ true → IfSome event (λ number. number ≤ last_event)
fits None e = tt
fits (Some number) e = grind (arith, nat_tests)

-- the posts that arrive fit in 32 bits
pub arrive-fits : (s : SettingsView) → first_beyond s ≡ None → short s.power_arrive ≡ s.power_arrive
arrive-fits s none =
    let all = all-pass (is_within s) setting_names none in
    short-fits s.power_arrive all.1.1.1.1.1.1.1.1.1.1.1.1.1.1.0

-- settings within their bounds are sound
pub sound : (s : SettingsView) → first_beyond s ≡ None → IsSettingsSound s
sound s none =
    let all = all-pass (is_within s) setting_names none in
    let later = all.1.1.1.1.1.1.1.1.1.1.1 in
    let (count, rising) = and_parts (nat_le (length s.plan.fail) most_fails) (rises_from 1 s.plan.fail) later.0 in
    let (cuts, fit) = and_parts (nat_le (length s.plan.cuts) most_cuts && rises_from 1 (cut_numbers s.plan.cuts)
    && list_all (λ cut. not (is_listed cut.at s.plan.fail)) s.plan.cuts) (list_all fits_in_cut s.plan.cuts) later.1.0 in
    let (few, beside) = and_parts (nat_le (length s.plan.cuts) most_cuts && rises_from 1 (cut_numbers s.plan.cuts))
    (list_all (λ cut. not (is_listed cut.at s.plan.fail)) s.plan.cuts) cuts in
    let (number, rise) = and_parts (nat_le (length s.plan.cuts) most_cuts) (rises_from 1 (cut_numbers s.plan.cuts)) few in
    record {
      geometry = record {
        blocks = unkept s.geometry limit.Blocks all.0;
        per_block = unkept s.geometry limit.PerBlock all.1.0;
        pages = unkept s.geometry limit.Pages all.1.1.0;
        sets = unkept s.geometry limit.Sets all.1.1.1.0;
        ways = unkept s.geometry limit.Ways all.1.1.1.1.0;
        frames = unkept s.geometry limit.Frames all.1.1.1.1.1.0;
        plb = unkept s.geometry limit.Plb all.1.1.1.1.1.1.0;
        window = unkept s.geometry limit.Window all.1.1.1.1.1.1.1.0;
        low = unkept s.geometry limit.Low all.1.1.1.1.1.1.1.1.0;
        flash_pages = unkept s.geometry limit.FlashPages all.1.1.1.1.1.1.1.1.1.0;
        cache_ways = unkept s.geometry limit.CacheWays all.1.1.1.1.1.1.1.1.1.1.0;
      };
      plan = record {
        fail = rises 1 s.plan.fail rising;
        cuts = rises 1 (cut_numbers s.plan.cuts) rise;
        apart = λ n listed. apart n s.plan.fail s.plan.cuts beside listed;
      };
      few_cuts = leb-true _ _ number;
      power_event = fits s.power_event later.1.1.0;
    }
