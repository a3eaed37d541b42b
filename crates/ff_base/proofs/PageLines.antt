-- The lines of a page after one of them was written.
use Rattle.std.specs.Prelude.{slice_range}
use Rattle.std.proofs.Common.{◌≡◌, ◌≢◌, ℕ, ◌+◌, ◌-◌, ◌*◌, ◌<◌, ◌≤◌, List, ◌++◌, length, take, drop, inl, inr, sym, ap, ◌∙◌, append_assoc, length-append, length-drop, arith}
use Rattle.std.proofs.Math.Seq.{drop-append-add}
use Rattle.std.proofs.lemmas.Bool.{cases_lt}
use Rattle.std.proofs.lemmas.List.{length-take, drop-append-le, take-append-le, take-append-drop}
use Rattle.std.proofs.lemmas.Grind.{common_steps}
use Rattle.ff_base.specs.Page.{line_of, with_line}

-- a line of a page has 64 bytes
pub length-line_of : (page : List ℕ) (line : ℕ) → length page ≡ 4096 → line < 64
    → length (line_of page line) ≡ 64
length-line_of page line size within = grind (arith, common_steps)

-- a page keeps its size
pub length-with_line : (page : List ℕ) (line : ℕ) (bytes : List ℕ)
    → length page ≡ 4096 → line < 64 → length bytes ≡ 64 → length (with_line page line bytes) ≡ 4096
length-with_line page line bytes size within count = grind (arith, common_steps)

-- the line that was written has the bytes
pub line_of-with_line_same : (page : List ℕ) (line : ℕ) (bytes : List ℕ)
    → length page ≡ 4096 → line < 64 → length bytes ≡ 64 → line_of (with_line page line bytes) line ≡ bytes
line_of-with_line_same page line bytes size within count = grind (arith, common_steps)

-- a part that ends within the first of two lists
range_in_front : (xs ys : List ℕ) (from to : ℕ) → from ≤ to → to ≤ length xs
    → slice_range (xs ++ ys) from to ≡ slice_range xs from to
range_in_front xs ys from to order within =
    ap (λ (l : List ℕ). take (to - from) l) (drop-append-le from xs ys (omega arith))
    ∙ take-append-le (to - from) (drop from xs) ys (omega (arith, length-drop from xs))

-- a part that begins behind the first of two lists
drop_behind : (xs ys : List ℕ) (from : ℕ) → length xs ≤ from → drop from (xs ++ ys) ≡ drop (from - length xs) ys
drop_behind xs ys from behind =
    let offset : from ≡ length xs + (from - length xs) = omega arith in
    ap (λ (n : ℕ). drop n (xs ++ ys)) offset ∙ drop-append-add xs ys (from - length xs)

-- a part before where a list was written
range_before : (page bytes rest : List ℕ) (at from to : ℕ) → from ≤ to → to ≤ at → at ≤ length page
    → slice_range (take at page ++ bytes ++ rest) from to ≡ slice_range page from to
range_before page bytes rest at from to order before within =
    let size : length (take at page) ≡ at = omega (arith, length-take at page) in
    let front : to ≤ length (take at page) = omega arith in
    ap (λ (l : List ℕ). slice_range l from to) (append_assoc (take at page) bytes rest)
    ∙ range_in_front (take at page) (bytes ++ rest) from to order front
    ∙ sym (range_in_front (take at page) (drop at page) from to order front)
    ∙ ap (λ (l : List ℕ). slice_range l from to) (take-append-drop at page)

-- what lies behind where a list was written
drop_after : (page bytes : List ℕ) (at end from : ℕ) → at ≤ length page → end ≤ length page
    → at + length bytes ≡ end → end ≤ from
    → drop from (take at page ++ bytes ++ drop end page) ≡ drop from page
drop_after page bytes at end from within ends size behind =
    let front : length (take at page ++ bytes) ≡ end =
    omega (arith, length-append (take at page) bytes, length-take at page) in
    let count : length (take end page) ≡ end = omega (arith, length-take end page) in
    drop_behind (take at page ++ bytes) (drop end page) from (omega arith)
    ∙ ap (λ (n : ℕ). drop (from - n) (drop end page)) (front ∙ sym count)
    ∙ sym (drop_behind (take end page) (drop end page) from (omega arith))
    ∙ ap (λ (l : List ℕ). drop from l) (take-append-drop end page)

-- every other line stays
pub line_of-with_line_other : (page : List ℕ) (line other : ℕ) (bytes : List ℕ)
    → length page ≡ 4096 → line < 64 → length bytes ≡ 64 → line ≢ other
    → line_of (with_line page line bytes) other ≡ line_of page other
line_of-with_line_other page line other bytes size within count apart = elim (cases_lt other line) [
  | inl before ↦
      range_before page bytes (drop (64 * line + 64) page) (64 * line) (64 * other) (64 * other + 64)
      (omega arith) (omega arith) (omega arith)
  | inr from_on ↦
      ap (λ (l : List ℕ). take (64 * other + 64 - 64 * other) l)
      (drop_after page bytes (64 * line) (64 * line + 64) (64 * other)
      (omega arith) (omega arith) (omega arith) (omega arith))
]
