-- How many pages two sets have.
use Rattle.std.proofs.Common.{◌≡◌, ◌≤◌, ℕ, zero, suc, Bool, true, false, refl, arith}
use Rattle.std.specs.Prelude.{if◌then◌else◌}
use Rattle.ff_lines.specs.PageSets.{count_below, SameSet}

-- two sets with the same pages have as many
pub count_below-same : (old new : ℕ → Bool) (n : ℕ) → SameSet old new → count_below new n ≡ count_below old n
count_below-same old new zero same = refl
count_below-same old new (suc n) same =
    let e = count_below-same old new n same in
    let here : new n ≡ old n = same n in
    rw (e, here) refl

one_at_most : (f g : Bool) → (f ≡ true → g ≡ true) → (if f then 1 else 0) ≤ (if g then 1 else 0)
one_at_most false g part = omega arith
one_at_most true false part = let h = part refl in cc
one_at_most true true part = omega arith

-- a part of a set has at most as many
pub count_below-part : (part whole : ℕ → Bool) (n : ℕ) → ((page : ℕ) → part page ≡ true → whole page ≡ true)
    → count_below part n ≤ count_below whole n
count_below-part part whole zero inside = omega arith
count_below-part part whole (suc n) inside =
    let before = count_below-part part whole n inside in
    let here = one_at_most (part n) (whole n) (inside n) in
    omega arith

one_most : (b : Bool) → (if b then 1 else 0) ≤ 1
one_most false = omega arith
one_most true = omega arith

-- a set has at most all pages
pub count_below-most : (set : ℕ → Bool) (n : ℕ) → count_below set n ≤ n
count_below-most set zero = omega arith
count_below-most set (suc n) =
    let before = count_below-most set n in
    let here = one_most (set n) in
    omega arith
