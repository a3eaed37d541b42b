-- The values of a document as the lists that the code goes over.
use Rattle.std.proofs.Common.{◌≡◌, ℕ, Bool, true, false, List, [], ◌∷◌, ◌++◌, map, take, length, get_or, String, Global, string_bytes, refl, sym, ap, ap₂, ◌∙◌, arith, ◌<◌, ◌+◌, ◌^◌}
use Rattle.std.specs.Prelude.{nat_lt, ◌&&◌}
use Rattle.std.specs.List.{list_all}
use Rattle.std.proofs.lemmas.Bool.{and_parts}
use Rattle.std.proofs.lemmas.Bool.Decides.{nat_tests}
use Rattle.std.proofs.lemmas.List.{map_more}
use Rattle.std.proofs.lemmas.List.Folds.{list_all-map}
use Rattle.std.specs.Map.{keys_of}
use Rattle.toml.specs.Data.{Data}
use Rattle.toml.specs.View.{items_view, members_view, view}
use Rattle.toml.specs.declared.value.Value.{Value}
use Rattle.ff_settings.specs.Bounds.{fits_in_cut}
use Rattle.ff_settings.specs.Given.{as_cut, as_cuts, planned_cut}
use Rattle.ff_settings.specs.Values.{keys_in, list_of, short}
use Rattle.ff_settings.specs.declared.cuts.WideCut.{WideCut}

map-each : {A : Type 0} (f : Data → A) (values : List Value)
    → map (λ value. f (view value)) values ≡ map f (map view values)
map-each f [] = refl
map-each f (value ∷ values) = rw (map-each f values)

-- a test of values that are seen as data
pub all-viewed : (test : Data → Bool) (values : List Value) (list : List Data) (r : Bool)
    → map view values ≡ list → r ≡ list_all (λ value. test (view value)) values → r ≡ list_all test list
all-viewed test values list r same e = e ∙ sym (list_all-map test view values) ∙ ap (list_all test) same

-- a function of values that are seen as data
pub map-viewed : {A : Type 0} (f : Data → A) (values : List Value) (list : List Data)
    → map view values ≡ list → map (λ value. f (view value)) values ≡ map f list
map-viewed f values list same = map-each f values ∙ ap (map f) same

-- one more item of a list that is made of another's
pub map-grows : {A B : Type 0} (f : A → B) (xs : List A) (at : ℕ) (x : A) (old new : List B) (y : B)
    → old ≡ map f (take at xs) → new ≡ old ++ y ∷ [] → x ≡ get_or xs at x → y ≡ f x → at < length xs
    → new ≡ map f (take (at + 1) xs)
map-grows f xs at x old new y before grown here is within =
    grown ∙ ap₂ (λ ys z. ys ++ z ∷ []) before (is ∙ ap f here) ∙ sym (map_more f xs at x within)

-- the values of an array, seen as data
pub items-viewed : (values : List Value) → map view values ≡ list_of (items_view values)
items-viewed [] = refl
items-viewed (value ∷ values) = ap (λ list. view value ∷ list) (items-viewed values)

-- a test of all keys
pub all_keys : (test : List ℕ → Bool) (entries : List (String Global × Value))
    → list_all (λ key. test (string_bytes key)) (keys_of entries) ≡ list_all test (keys_in (members_view entries))
all_keys test [] = refl
all_keys test (entry ∷ entries) = rw (all_keys test entries)

-- a number of 32 bits is itself
pub short-fits : (n : ℕ) → nat_lt n (2 ^ 32) ≡ true → short n ≡ n
short-fits n fits = let below : n < 2 ^ 32 = grind (arith, nat_tests) in omega arith

-- cuts whose numbers fit are those of a plan
pub planned-fits : (cuts : List WideCut) → list_all fits_in_cut (as_cuts cuts) ≡ true
    → map (λ cut. planned_cut (as_cut cut)) cuts ≡ as_cuts cuts
planned-fits [] fit = refl
planned-fits (cut ∷ cuts) fit =
    let (here, later) = and_parts (fits_in_cut (as_cut cut)) (list_all fits_in_cut (as_cuts cuts)) fit in
    let (mask, arrive) = and_parts (nat_lt cut.mask (2 ^ 32)) (nat_lt cut.arrive (2 ^ 32)) here in
    rw (short-fits cut.mask mask, short-fits cut.arrive arrive, planned-fits cuts later)

-- a test, and then another
pub both : (first second a b : Bool) → a ≡ first → a ≡ true → b ≡ second → b ≡ (first && second)
both true second a b is holds other = other
both false second a b is holds other = cc

-- a test that fails
pub stops : (first second a : Bool) → a ≡ first → a ≡ false → a ≡ (first && second)
stops true second a is fails = cc
stops false second a is fails = is

pub ruleset viewed = (all-viewed)
