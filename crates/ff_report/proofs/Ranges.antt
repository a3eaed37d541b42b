-- Writes in a loop that counts from 0: the text of each number, one after the other.
use Rattle.std.proofs.Common.{◌≡◌, ℕ, ◌+◌, ◌<◌, ◌≤◌, Option, List, Ok, Err, length, take, get_or, refl, sym, subst, arith}
use Rattle.std.specs.Prelude.{flat_map}
use Rattle.std.specs.List.{range_with_len}
use Rattle.std.proofs.lemmas.List.FromFn.{get_or-range_with_len, length-range_with_len}
use Rattle.ff_io.specs.declared.traits.Failed.{Failed}
use Rattle.ff_report.specs.Wrote.{Wrote}
use Rattle.ff_report.proofs.InOrder.{Wrote-all, Wrote-more, Wrote-stopped}

within : (n x : ℕ) → x < n → x < length (range_with_len 0 n)
within n x below = subst (λ m. x < m) (sym (length-range_with_len 0 n)) below

at : (n x : ℕ) → x < n → x ≡ get_or (range_with_len 0 n) x x
at n x below = let read : get_or (range_with_len 0 n) x x ≡ 0 + x = get_or-range_with_len 0 n x x below in omega arith

-- one number more
pub range-more : (f : ℕ → List ℕ) (n x : ℕ) (a b c : Option (List ℕ)) (i j k : ℕ)
    → Wrote (Ok tt) a b i j (flat_map f (take x (range_with_len 0 n))) → Wrote (Ok tt) b c j k (f x) → x < n
    → Wrote (Ok tt) a c i k (flat_map f (take (x + 1) (range_with_len 0 n)))
range-more f n x a b c i j k before now below =
    Wrote-more f (range_with_len 0 n) x x a b c i j k (f x) before now refl (within n x below) (at n x below)

-- a number whose text wasn't written whole
pub range-stopped : (e : Failed) (f : ℕ → List ℕ) (n x : ℕ) (a b c : Option (List ℕ)) (i j k : ℕ)
    → Wrote (Ok tt) a b i j (flat_map f (take x (range_with_len 0 n))) → Wrote (Err e) b c j k (f x) → x < n
    → Wrote (Err e) a c i k (flat_map f (range_with_len 0 n))
range-stopped e f n x a b c i j k before now below =
    Wrote-stopped e f (range_with_len 0 n) x x a b c i j k (f x) before now refl (within n x below) (at n x below)

-- all numbers
pub range-all : (f : ℕ → List ℕ) (n x : ℕ) (a b : Option (List ℕ)) (i j : ℕ)
    → Wrote (Ok tt) a b i j (flat_map f (take x (range_with_len 0 n))) → n ≤ x → Wrote (Ok tt) a b i j (flat_map f (range_with_len 0 n))
range-all f n x a b i j all past =
    Wrote-all f (range_with_len 0 n) x a b i j all (subst (λ m. m ≤ x) (sym (length-range_with_len 0 n)) past)
