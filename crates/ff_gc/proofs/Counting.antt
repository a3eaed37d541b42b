-- How many elements of a list pass a test.
use Rattle.std.proofs.Common.{◌≡◌, ◌≢◌, ◌<◌, ◌≤◌, ◌+◌, ℕ, zero, suc, Bool, true, false, cond, List, [], ◌∷◌, length, get_or, set, inl, inr, refl, sym, ap, ◌∙◌, arith}
use Rattle.std.specs.Prelude.{count_by}
use Rattle.std.proofs.lemmas.Bool.{cases_Bool, cases_eq, cases_lt, both_ways}
use Rattle.std.proofs.lemmas.List.{get_or-set_other, get_or-set_same, get_or_past}
use Rattle.std.proofs.lemmas.List.Sums.{get_or-le-sum_by, sum_by-cons, sum_by-set}

-- one element more
pub count_cons : {X : Type 0} (p : X → Bool) (x : X) (xs : List X)
    → count_by p (x ∷ xs) ≡ cond (p x) 1 0 + count_by p xs
count_cons p x xs = sum_by-cons (λ x. cond (p x) 1 0) x xs

pub count_hit : {X : Type 0} (p : X → Bool) (x : X) (xs : List X) → p x ≡ true
    → count_by p (x ∷ xs) ≡ 1 + count_by p xs
count_hit p x xs hit = count_cons p x xs ∙ rw hit refl

pub count_miss : {X : Type 0} (p : X → Bool) (x : X) (xs : List X) → p x ≡ false
    → count_by p (x ∷ xs) ≡ count_by p xs
count_miss p x xs miss =
    let e : count_by p (x ∷ xs) ≡ 0 + count_by p xs = count_cons p x xs ∙ rw miss refl in omega arith

pub count_more : {X : Type 0} (p : X → Bool) (x : X) (xs : List X)
    → count_by p xs ≤ count_by p (x ∷ xs)
count_more p x xs = omega (arith, count_cons p x xs)

-- one element is replaced
pub count_set : {X : Type 0} (p : X → Bool) (xs : List X) (i : ℕ) (y d : X) → i < length xs
    → count_by p (set xs i y) + cond (p (get_or xs i d)) 1 0 ≡ count_by p xs + cond (p y) 1 0
count_set p xs i y d within = sum_by-set (λ x. cond (p x) 1 0) xs i y d within

-- an element that passes is counted
pub count_some : {X : Type 0} (p : X → Bool) (xs : List X) (i : ℕ) (d : X) → i < length xs
    → p (get_or xs i d) ≡ true → 0 < count_by p xs
count_some p xs i d within passes =
    let at_least : cond (p (get_or xs i d)) 1 0 ≤ count_by p xs =
    get_or-le-sum_by (λ x. cond (p x) 1 0) xs i d within in
    let one : 1 ≤ count_by p xs = rw passes at at_least in
    omega arith

-- where none is counted, none passes
pub count_none : {X : Type 0} (p : X → Bool) (xs : List X) (i : ℕ) (d : X) → count_by p xs ≡ 0
    → p d ≡ false → p (get_or xs i d) ≡ false
count_none p xs i d none past = elim (cases_lt i (length xs)) [
  | inl within ↦ elim (cases_Bool (p (get_or xs i d))) [
    | inl passes ↦ absurd (omega (arith, count_some p xs i d within passes))
    | inr fails ↦ fails
  ]
  | inr beyond ↦ ap p (get_or_past xs i d beyond) ∙ past
]

-- lists of one length whose elements pass two tests alike are counted alike
pub count_alike : {X : Type 0} (p q : X → Bool) (xs ys : List X) (d : X) → length xs ≡ length ys
    → ((i : ℕ) → p (get_or xs i d) ≡ q (get_or ys i d)) → count_by p xs ≡ count_by q ys
count_alike p q [] [] d same alike = refl
count_alike p q [] (y ∷ ys) d same alike = absurd (omega arith)
count_alike p q (x ∷ xs) [] d same alike = absurd (omega arith)
count_alike p q (x ∷ xs) (y ∷ ys) d same alike =
    let first : p x ≡ q y = alike 0 in
    let later = count_alike p q xs ys d (omega arith) (λ i. alike (suc i)) in
    count_cons p x xs
    ∙ ap (λ n. cond (p x) 1 0 + n) later
    ∙ ap (λ b. cond b 1 0 + count_by q ys) first
    ∙ sym (count_cons q y ys)

-- none passes
pub count_zero : {X : Type 0} (p : X → Bool) (xs : List X) (d : X)
    → ((i : ℕ) → p (get_or xs i d) ≡ false) → count_by p xs ≡ 0
count_zero p [] d none = refl
count_zero p (x ∷ xs) d none =
    let first : p x ≡ false = none 0 in
    let later = count_zero p xs d (λ i. none (suc i)) in
    count_miss p x xs first ∙ later

-- the elements that pass either of two tests, which exclude each other
pub count_apart : {X : Type 0} (p q r : X → Bool) (xs : List X)
    → ((x : X) → p x ≡ true → (r x ≡ true) × (q x ≡ false))
    → ((x : X) → q x ≡ true → r x ≡ true) → count_by p xs + count_by q xs ≤ count_by r xs
count_apart p q r [] one other = omega arith
count_apart p q r (x ∷ xs) one other =
    let later = count_apart p q r xs one other in
    elim (cases_Bool (p x)) [
      | inl hit ↦
          (let both = one x hit in
          omega (arith, count_hit p x xs hit, count_hit r x xs both.0, count_miss q x xs both.1))
      | inr miss ↦ elim (cases_Bool (q x)) [
        | inl also ↦
            omega (arith, count_miss p x xs miss, count_hit q x xs also, count_hit r x xs (other x also))
        | inr neither ↦
            (let more : count_by r xs ≤ count_by r (x ∷ xs) = count_more r x xs in
            omega (arith, count_miss p x xs miss, count_miss q x xs neither))
      ]
    ]

-- the number is one of these
pub record IsListed (i : ℕ) (numbers : List ℕ) : Type 0 where
  pub index : ℕ
  pub within : index < length numbers
  pub is : (d : ℕ) → get_or numbers index d ≡ i

listed_later : (i n : ℕ) (rest : List ℕ) → IsListed i (n ∷ rest) → i ≢ n → IsListed i rest
listed_later i n rest listed other = go listed.index listed.within listed.is where
  go : (k : ℕ) → k < length (n ∷ rest) → ((d : ℕ) → get_or (n ∷ rest) k d ≡ i) → IsListed i rest
  go zero within is = absurd (other (sym (is 0)))
  go (suc k) within is = record { index = k; within = omega arith; is = is }

-- no more elements pass a test than there are numbers, where the index of each that passes is one of the numbers
pub count_listed : {X : Type 0} (p : X → Bool) (d : X) (numbers : List ℕ) (xs : List X)
    → p d ≡ false → ((i : ℕ) → p (get_or xs i d) ≡ true → IsListed i numbers)
    → count_by p xs ≤ length numbers
count_listed p d [] xs past listed =
    let none = count_zero p xs d (λ i. elim (cases_Bool (p (get_or xs i d))) [
      | inl passes ↦ (let found = listed i passes in absurd (omega (arith, found.within)))
      | inr fails ↦ fails
    ]) in
    omega arith
count_listed p d (n ∷ rest) xs past listed = elim (cases_lt n (length xs)) [
  | inl within ↦
      let fewer = count_listed p d rest (set xs n d) past (λ i passes. elim (cases_eq i n) [
        | inl same ↦
            let is : get_or (set xs n d) i d ≡ d =
            ap (λ k. get_or (set xs n d) k d) same ∙ get_or-set_same xs n d d within in
            let passes_d : p d ≡ true = sym (ap p is) ∙ passes in
            absurd (both_ways (p d) past passes_d)
        | inr other ↦
            let is : get_or (set xs n d) i d ≡ get_or xs i d = get_or-set_other xs n i d d other in
            listed_later i n rest (listed i (sym (ap p is) ∙ passes)) other
      ]) in
      let change = count_set p xs n d d within in
      let small : cond (p (get_or xs n d)) 1 0 ≤ 1 = elim (cases_Bool (p (get_or xs n d))) [
        | inl hit ↦ rw hit (omega arith)
        | inr miss ↦ rw miss (omega arith)
      ] in
      let none : ◌≡◌ {A = ℕ} (cond (p d) 1 0) 0 = rw past refl in
      omega arith
  | inr beyond ↦
      let fewer = count_listed p d rest xs past (λ i passes. elim (cases_eq i n) [
        | inl same ↦
            let is : get_or xs i d ≡ d = ap (λ k. get_or xs k d) same ∙ get_or_past xs n d beyond in
            absurd (both_ways (p d) past (sym (ap p is) ∙ passes))
        | inr other ↦ listed_later i n rest (listed i passes) other
      ]) in
      omega arith
]

-- where an element passes, so does the other list's at its place: no more pass
pub count_fewer : {X Y : Type 0} (p : X → Bool) (q : Y → Bool) (xs : List X) (ys : List Y) (d : X) (e : Y)
    → length xs ≡ length ys
    → ((i : ℕ) → i < length xs → p (get_or xs i d) ≡ true → q (get_or ys i e) ≡ true)
    → count_by p xs ≤ count_by q ys
count_fewer p q [] ys d e same also = omega arith
count_fewer p q (x ∷ xs) [] d e same also = absurd (omega arith)
count_fewer p q (x ∷ xs) (y ∷ ys) d e same also =
    let later = count_fewer p q xs ys d e (omega arith) (λ i below. also (suc i) (omega arith)) in
    elim (cases_Bool (p x)) [
      | inl hit ↦
          (let one = count_hit p x xs hit in
          let other = count_hit q y ys (also 0 (omega arith) hit) in
          omega arith)
      | inr miss ↦
          (let one = count_miss p x xs miss in
          let other = count_more q y ys in
          omega arith)
    ]
