-- Numbers from one on, and how many of them pass a test.
use Rattle.std.proofs.Common.{◌≡◌, ◌≤◌, ◌<◌, inl, inr, ℕ, zero, suc, ◌+◌, Bool, false, cond, List, [], ◌∷◌, ◌++◌, map, refl, sym, ap, ◌∙◌, zero-add, arith}
use Rattle.std.specs.Prelude.{count_by}
use Rattle.std.specs.List.{range_with_len}
use Rattle.std.proofs.lemmas.Bool.{cases_lt, cases_Bool}
use Rattle.std.proofs.lemmas.List.FromFn.{length-range_with_len, map-range_with_len_more}
use Rattle.std.proofs.lemmas.List.Sums.{count_by-le-length, sum_by-cons, sum_by-append}

map_same : (a n : ℕ) → map (λ (k : ℕ). k) (range_with_len a n) ≡ range_with_len a n
map_same a zero = refl
map_same a (suc n) = ap (λ (l : List ℕ). a ∷ l) (map_same (a + 1) n)

-- one more number behind the others
pub range_with_len-more : (a n next : ℕ) → a + n ≡ next
    → range_with_len a (n + 1) ≡ range_with_len a n ++ next ∷ []
range_with_len-more a n next is =
    sym (map_same a (n + 1)) ∙ map-range_with_len_more (λ (k : ℕ). k) a n next is
    ∙ ap (λ (l : List ℕ). l ++ next ∷ []) (map_same a n)

-- one more number counts where it passes
pub count_by-range_more : (f : ℕ → Bool) (a n next : ℕ) → a + n ≡ next
    → count_by f (range_with_len a (n + 1)) ≡ count_by f (range_with_len a n) + cond {A = ℕ} (f next) 1 0
count_by-range_more f a n next is =
    ap (λ (l : List ℕ). count_by f l) (range_with_len-more a n next is)
    ∙ sum_by-append (λ x. cond {A = ℕ} (f x) 1 0) (range_with_len a n) (next ∷ [])
    ∙ ap (λ (k : ℕ). count_by f (range_with_len a n) + k) (zero-add (cond {A = ℕ} (f next) 1 0))

-- at most as many pass as there are
pub count_by-range_le : (f : ℕ → Bool) (a n : ℕ) → count_by f (range_with_len a n) ≤ n
count_by-range_le f a n =
    let most = count_by-le-length f (range_with_len a n) in
    let size = length-range_with_len a n in
    omega arith

-- where one number of a range fails a test, fewer pass than there are
pub count_by-less : (f : ℕ → Bool) (a n p : ℕ) → a ≤ p → p < a + n → f p ≡ false
    → count_by f (range_with_len a n) < n
count_by-less f a zero p low high fails = absurd (omega arith)
count_by-less f a (suc n) p low high fails = elim (cases_lt a p) [
  | inl later ↦
      let rest = count_by-less f (a + 1) n p (omega arith) (omega arith) fails in
      let split : count_by f (range_with_len a (suc n)) ≡ cond {A = ℕ} (f a) 1 0 + count_by f (range_with_len (a + 1) n) = sum_by-cons (λ x. cond (f x) 1 0) a (range_with_len (a + 1) n) in
      elim (cases_Bool (f a)) [
        | inl passes ↦ let here : cond {A = ℕ} (f a) 1 0 ≡ 1 = rw passes refl in omega arith
        | inr not_so ↦ let here : cond {A = ℕ} (f a) 1 0 ≡ 0 = rw not_so refl in omega arith
      ]
  | inr now ↦
      let same : a ≡ p = omega arith in
      let no : f a ≡ false = ap f same ∙ fails in
      let here : cond {A = ℕ} (f a) 1 0 ≡ 0 = rw no refl in
      let split : count_by f (range_with_len a (suc n)) ≡ cond {A = ℕ} (f a) 1 0 + count_by f (range_with_len (a + 1) n) = sum_by-cons (λ x. cond (f x) 1 0) a (range_with_len (a + 1) n) in
      let most = count_by-le-length f (range_with_len (a + 1) n) in
      let size = length-range_with_len (a + 1) n in
      omega arith
]
