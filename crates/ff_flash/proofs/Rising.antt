-- Lists of rising numbers, and how many of them are passed.
use Rattle.std.proofs.Common.{◌≡◌, ◌≤◌, ◌<◌, ◌+◌, ◌-◌, inl, inr, ℕ, zero, suc, Bool, true, false, cond, List, [], ◌∷◌, length, get_or, Option, Some, None, refl, sym, ap, ◌∙◌, arith}
use Rattle.std.specs.Prelude.{nat_le, nat_lt, ◌==◌, ◌||◌, if◌then◌else◌, is_some}
use Rattle.std.proofs.lemmas.Bool.{cases_lt, cases_eq}
use Rattle.std.proofs.lemmas.Bool.Decides.{nat_tests}
use Rattle.std.proofs.lemmas.List.Sums.{sum_by-cons}
use Rattle.std.proofs.lemmas.List.{get_or_past}
use Rattle.ff_flash.specs.Plans.{RisesFrom, is_listed, listed_count, cut_at, cut_numbers}
use Rattle.ff_flash.specs.declared.plan.CutAt.{CutAt}

count_cons : (n x : ℕ) (xs : List ℕ) → listed_count n (x ∷ xs) ≡ cond {A = ℕ} (nat_le x n) 1 0 + listed_count n xs
count_cons n x xs = sum_by-cons (λ y. cond (nat_le y n) 1 0) x xs

count_passed : (n x : ℕ) (xs : List ℕ) → x ≤ n → listed_count n (x ∷ xs) ≡ 1 + listed_count n xs
count_passed n x xs passed =
    let test : nat_le x n ≡ true = grind (arith, nat_tests) in
    count_cons n x xs ∙ ap (λ (b : Bool). cond {A = ℕ} b 1 0 + listed_count n xs) test

count_ahead : (n x : ℕ) (xs : List ℕ) → n < x → listed_count n (x ∷ xs) ≡ listed_count n xs
count_ahead n x xs ahead =
    let test : nat_le x n ≡ false = grind (arith, nat_tests) in
    let split = count_cons n x xs ∙ ap (λ (b : Bool). cond {A = ℕ} b 1 0 + listed_count n xs) test in
    omega arith

-- where the least number is ahead, none is passed
pub none_passed : (n least : ℕ) (xs : List ℕ) → RisesFrom least xs → n < least → listed_count n xs ≡ 0
none_passed n least [] rises ahead = refl
none_passed n least (x ∷ xs) rises ahead =
    let first = rises.0 in
    count_ahead n x xs (omega arith) ∙ none_passed n (x + 1) xs rises.1 (omega arith)

differs : (x n : ℕ) (rest : Bool) → (x ≡ n → ⊥) → (x == n || rest) ≡ rest
differs x n rest other =
    let test : (x == n) ≡ false = grind (arith, nat_tests) in
    ap (λ (b : Bool). b || rest) test

none_listed : (n least : ℕ) (xs : List ℕ) → RisesFrom least xs → n < least → is_listed n xs ≡ false
none_listed n least [] rises ahead = refl
none_listed n least (x ∷ xs) rises ahead =
    let first = rises.0 in
    differs x n (is_listed n xs) (λ e. omega arith) ∙ none_listed n (x + 1) xs rises.1 (omega arith)

or_false : (b : Bool) → (b || false) ≡ b
or_false true = refl
or_false false = refl

one_more : (b : Bool) (c : ℕ) → 1 + (if b then c + 1 else c) ≡ (if b then 1 + c + 1 else 1 + c)
one_more true c = omega arith
one_more false c = refl

cut_listed_if : (b : Bool) (cut : CutAt) (o : Option CutAt) (r : Bool) → is_some o ≡ r → is_some (if b then Some cut else o) ≡ (b || r)
cut_listed_if true cut o r e = refl
cut_listed_if false cut o r e = e

-- the next number is listed where it stands behind those that are passed
pub listed_next : (n least : ℕ) (xs : List ℕ) → RisesFrom least xs → 0 < least → is_listed (n + 1) xs ≡ (get_or xs (listed_count n xs) 0 == n + 1)
listed_next n least [] rises some =
    let test : (0 == n + 1) ≡ false = grind (arith, nat_tests) in sym test
listed_next n least (x ∷ xs) rises some = elim (cases_lt n x) [
  | inl ahead ↦
      let none : listed_count n (x ∷ xs) ≡ 0 = count_ahead n x xs ahead ∙ none_passed n (x + 1) xs rises.1 (omega arith) in
      let rest : is_listed (n + 1) xs ≡ false = none_listed (n + 1) (x + 1) xs rises.1 (omega arith) in
      rw (none, rest) (or_false (x == n + 1))
  | inr passed ↦
      let count : listed_count n (x ∷ xs) ≡ suc (listed_count n xs) = count_passed n x xs passed ∙ omega arith in
      rw count (differs x (n + 1) (is_listed (n + 1) xs) (λ e. omega arith) ∙ listed_next n (x + 1) xs rises.1 (omega arith))
]

-- one more is passed where the next number is listed
pub count_next : (n least : ℕ) (xs : List ℕ) → RisesFrom least xs → listed_count (n + 1) xs ≡ (if is_listed (n + 1) xs then listed_count n xs + 1 else listed_count n xs)
count_next n least [] rises = refl
count_next n least (x ∷ xs) rises = elim (cases_lt n x) [
  | inl ahead ↦
      let none : listed_count n (x ∷ xs) ≡ 0 = count_ahead n x xs ahead ∙ none_passed n (x + 1) xs rises.1 (omega arith) in
      let rest : is_listed (n + 1) xs ≡ false = none_listed (n + 1) (x + 1) xs rises.1 (omega arith) in
      let later : listed_count (n + 1) xs ≡ 0 = none_passed (n + 1) (x + 1) xs rises.1 (omega arith) in
      elim (cases_eq x (n + 1)) [
        | inl here ↦
            let count : listed_count (n + 1) (x ∷ xs) ≡ 1 = count_passed (n + 1) x xs (omega arith) ∙ omega arith in
            let test : (x == n + 1) ≡ true = grind (arith, nat_tests) in
            rw (count, none, test) refl
        | inr other ↦
            let count : listed_count (n + 1) (x ∷ xs) ≡ 0 = count_ahead (n + 1) x xs (omega arith) ∙ later in
            let test : is_listed (n + 1) (x ∷ xs) ≡ false = differs x (n + 1) (is_listed (n + 1) xs) other ∙ rest in
            rw (count, none, test) refl
      ]
  | inr passed ↦
      let old : listed_count n (x ∷ xs) ≡ 1 + listed_count n xs = count_passed n x xs passed in
      let new : listed_count (n + 1) (x ∷ xs) ≡ 1 + listed_count (n + 1) xs = count_passed (n + 1) x xs (omega arith) in
      let test : is_listed (n + 1) (x ∷ xs) ≡ is_listed (n + 1) xs = differs x (n + 1) (is_listed (n + 1) xs) (λ e. omega arith) in
      rw (old, new, test) (ap (λ (c : ℕ). 1 + c) (count_next n (x + 1) xs rises.1) ∙ one_more (is_listed (n + 1) xs) (listed_count n xs))
]

-- no more are passed than the number says
pub count_within : (n least : ℕ) (xs : List ℕ) → RisesFrom least xs → listed_count n xs ≤ n + 1 - least
count_within n least [] rises = omega arith
count_within n least (x ∷ xs) rises =
    let first = rises.0 in
    let rest = count_within n (x + 1) xs rises.1 in
    elim (cases_lt n x) [
      | inl ahead ↦ let count = count_ahead n x xs ahead in omega arith
      | inr passed ↦ let count = count_passed n x xs passed in omega arith
    ]

not_some : (o : Option CutAt) → is_some o ≡ false → o ≡ None
not_some None absent = refl
not_some (Some cut) absent = cc

-- the cut of the next operation is the one behind those that are passed
pub cut_next : (n least : ℕ) (cuts : List CutAt) (d : CutAt) → RisesFrom least (cut_numbers cuts) → listed_count n (cut_numbers cuts) < length cuts
    → (get_or cuts (listed_count n (cut_numbers cuts)) d).at ≡ n + 1 → cut_at (n + 1) cuts ≡ Some (get_or cuts (listed_count n (cut_numbers cuts)) d)
cut_next n least [] d rises within here = absurd (omega arith)
cut_next n least (cut ∷ cuts) d rises within here = elim (cases_lt n cut.at) [
  | inl ahead ↦
      let none : listed_count n (cut_numbers (cut ∷ cuts)) ≡ 0 = count_ahead n cut.at (cut_numbers cuts) ahead ∙ none_passed n (cut.at + 1) (cut_numbers cuts) rises.1 (omega arith) in
      let is = rw none at here in
      let test : (cut.at == n + 1) ≡ true = grind (arith, nat_tests) in
      rw (none, test) refl
  | inr passed ↦
      let count : listed_count n (cut_numbers (cut ∷ cuts)) ≡ suc (listed_count n (cut_numbers cuts)) = count_passed n cut.at (cut_numbers cuts) passed ∙ omega arith in
      let is = rw count at here in
      let test : (cut.at == n + 1) ≡ false = grind (arith, nat_tests) in
      let bound : listed_count n (cut_numbers cuts) < length cuts = omega arith in
      rw (count, test) (cut_next n (cut.at + 1) cuts d rises.1 bound is)
]

-- an operation has a cut where its number is listed
pub cut_listed : (n : ℕ) (cuts : List CutAt) → is_some (cut_at n cuts) ≡ is_listed n (cut_numbers cuts)
cut_listed n [] = refl
cut_listed n (cut ∷ cuts) = cut_listed_if (cut.at == n) cut (cut_at n cuts) (is_listed n (cut_numbers cuts)) (cut_listed n cuts)

-- the number that stands behind those that are passed tells whether the next is listed
pub listed_there : (p n : ℕ) (xs : List ℕ) → RisesFrom 1 xs → p ≡ listed_count n xs → (get_or xs p 0 == n + 1) ≡ is_listed (n + 1) xs
listed_there p n xs rises passed = rw passed (sym (listed_next n 1 xs rises (omega arith)))

-- where all are passed, the next is not listed
pub listed_past : (p n : ℕ) (xs : List ℕ) → RisesFrom 1 xs → p ≡ listed_count n xs → length xs ≤ p → false ≡ is_listed (n + 1) xs
listed_past p n xs rises passed past =
    let none : get_or xs p 0 ≡ 0 = get_or_past xs p 0 past in
    let test : (get_or xs p 0 == n + 1) ≡ false = grind (arith, nat_tests) in
    sym test ∙ listed_there p n xs rises passed

get_or-cut_numbers : (cuts : List CutAt) (p : ℕ) (d : CutAt) → p < length cuts → get_or (cut_numbers cuts) p 0 ≡ (get_or cuts p d).at
get_or-cut_numbers [] p d within = absurd (omega arith)
get_or-cut_numbers (cut ∷ cuts) zero d within = refl
get_or-cut_numbers (cut ∷ cuts) (suc p) d within = get_or-cut_numbers cuts p d (omega arith)

length-cut_numbers : (cuts : List CutAt) → length (cut_numbers cuts) ≡ length cuts
length-cut_numbers [] = refl
length-cut_numbers (cut ∷ cuts) = ap suc (length-cut_numbers cuts)

-- where the cut behind those that are passed is not of the next operation, that has none
pub cut_elsewhere : (p n : ℕ) (cuts : List CutAt) (d : CutAt) → RisesFrom 1 (cut_numbers cuts) → p ≡ listed_count n (cut_numbers cuts) → p < length cuts
    → ((get_or cuts p d).at ≡ n + 1 → ⊥) → cut_at (n + 1) cuts ≡ None
cut_elsewhere p n cuts d rises passed within other =
    let at : get_or (cut_numbers cuts) p 0 ≡ (get_or cuts p d).at = get_or-cut_numbers cuts p d within in
    let test : (get_or (cut_numbers cuts) p 0 == n + 1) ≡ false = grind (arith, nat_tests) in
    not_some (cut_at (n + 1) cuts) (cut_listed (n + 1) cuts ∙ sym (listed_there p n (cut_numbers cuts) rises passed) ∙ test)

-- where all cuts are passed, the next operation has none
pub cut_past : (p n : ℕ) (cuts : List CutAt) → RisesFrom 1 (cut_numbers cuts) → p ≡ listed_count n (cut_numbers cuts) → length cuts ≤ p → cut_at (n + 1) cuts ≡ None
cut_past p n cuts rises passed past =
    let size : length (cut_numbers cuts) ≡ length cuts = length-cut_numbers cuts in
    not_some (cut_at (n + 1) cuts) (cut_listed (n + 1) cuts ∙ sym (listed_past p n (cut_numbers cuts) rises passed (omega arith)))

-- where the cut behind those that are passed is of the next operation, it is the one
pub cut_there : (p n : ℕ) (cuts : List CutAt) (d : CutAt) → RisesFrom 1 (cut_numbers cuts) → p ≡ listed_count n (cut_numbers cuts) → p < length cuts
    → (get_or cuts p d).at ≡ n + 1 → cut_at (n + 1) cuts ≡ Some (get_or cuts p d)
cut_there p n cuts d rises passed within here =
    let bound : listed_count n (cut_numbers cuts) < length cuts = omega arith in
    let same : get_or cuts (listed_count n (cut_numbers cuts)) d ≡ get_or cuts p d = ap (λ (k : ℕ). get_or cuts k d) (sym passed) in
    cut_next n 1 cuts d rises bound (ap (λ (c : CutAt). c.at) same ∙ here) ∙ ap Some same

-- the same of the test that not all are passed
pub listed_past_test : (p n : ℕ) (xs : List ℕ) → RisesFrom 1 xs → p ≡ listed_count n xs → length xs ≤ p → nat_lt p (length xs) ≡ is_listed (n + 1) xs
listed_past_test p n xs rises passed past =
    let test : nat_lt p (length xs) ≡ false = grind (arith, nat_tests) in
    test ∙ listed_past p n xs rises passed past
