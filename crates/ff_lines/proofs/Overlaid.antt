-- The bytes of a line of which some are replaced.
use Rattle.std.proofs.Common.{◌≡◌, ◌≤◌, ◌<◌, inl, inr, ℕ, ◌+◌, ◌-◌, true, false, cond, List, ◌++◌, length, get_or, take, drop, Some, None, ap, ◌∙◌, arith}
use Rattle.std.specs.Prelude.{unwrap_or, slice_get, nat_le}
use Rattle.std.proofs.lemmas.Bool.{cases_lt, le-leb}
use Rattle.std.proofs.lemmas.Bool.Decides.{nat_tests}
use Rattle.std.proofs.lemmas.List.{length-append, length-take, length-drop, get_or-take, get_or-drop, get_or_append_left, get_or-append_right}
use Rattle.std.proofs.lemmas.Option.{slice_get-get_or, slice_get_past}
use Rattle.ff_lines.specs.Overlay.{overlaid}

-- a byte of a list in which some bytes are replaced from an offset on
pub byte-overlaid : (xs : List ℕ) (from : ℕ) (ys : List ℕ) (i : ℕ) → from + length ys ≤ length xs
    → get_or (overlaid xs from ys) i 0 ≡ unwrap_or (cond (nat_le from i) (slice_get ys (i - from)) None) (get_or xs i 0)
byte-overlaid xs from ys i fits = elim (cases_lt i from) [
  | inl before ↦
      let test : nat_le from i ≡ false = grind (arith, nat_tests) in
      let len : length (take from xs) ≡ from = omega (arith, length-take from xs) in
      let inner : i < length (take from xs ++ ys) = omega (arith, length-append (take from xs) ys) in
      let outer : i < length (take from xs) = omega arith in
      rw test (get_or_append_left (take from xs ++ ys) (drop (from + length ys) xs) 0 i inner ∙ get_or_append_left (take from xs) ys 0 i outer ∙ get_or-take from xs i 0 before)
  | inr from_on ↦ elim (cases_lt (i - from) (length ys)) [
    | inl inside ↦
        let test : nat_le from i ≡ true = le-leb from i from_on in
        let len : length (take from xs) ≡ from = omega (arith, length-take from xs) in
        let inner : i < length (take from xs ++ ys) = omega (arith, length-append (take from xs) ys) in
        let found : slice_get ys (i - from) ≡ Some (get_or ys (i - from) 0) = slice_get-get_or ys (i - from) 0 inside in
        rw (test, found) (get_or_append_left (take from xs ++ ys) (drop (from + length ys) xs) 0 i inner ∙ get_or-append_right (take from xs) ys from i 0 len from_on)
    | inr after ↦
        let test : nat_le from i ≡ true = le-leb from i from_on in
        let len : length (take from xs ++ ys) ≡ from + length ys = omega (arith, length-append (take from xs) ys, length-take from xs) in
        let past : slice_get ys (i - from) ≡ None = slice_get_past ys (i - from) after in
        let same : from + length ys + (i - (from + length ys)) ≡ i = omega arith in
        rw (test, past) (
        get_or-append_right (take from xs ++ ys) (drop (from + length ys) xs) (from + length ys) i 0 len (omega arith)
        ∙ get_or-drop (from + length ys) xs (i - (from + length ys)) 0
        ∙ ap (λ (k : ℕ). get_or xs k 0) same)
  ]
]

-- a line keeps its length
pub length-overlaid : (xs : List ℕ) (from : ℕ) (ys : List ℕ) → from + length ys ≤ length xs → length (overlaid xs from ys) ≡ length xs
length-overlaid xs from ys fits =
    omega (arith, length-append (take from xs ++ ys) (drop (from + length ys) xs), length-append (take from xs) ys, length-take from xs, length-drop (from + length ys) xs)
