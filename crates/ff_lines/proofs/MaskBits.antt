-- One line of a mask, after each operation on the mask's bits.
use Rattle.std.proofs.Common.{◌≡◌, ◌<◌, inl, inr, ℕ, ◌+◌, ◌-◌, ◌*◌, ◌%◌, ◌^◌, ◌==◌, ◌||◌, ◌&&◌, not, true, false, bit_and, bit_or, w64, refl, ap, arith}
use Rattle.std.specs.Int.{bit_at, trailing_ones}
use Rattle.std.proofs.lemmas.Bool.{cases_eq, cases_lt, eq-eqb, ne_eqb}
use Rattle.std.proofs.lemmas.Nat.Bits.{bit_at-lt, bit_at_set_same, bit_at_set_other, bit_at_clear_same, bit_at_clear_other, bit_at_not, bit_at-trailing_ones, bit_at_ones, bit_at-zero}
use Rattle.ff_lines.specs.LineMask.{has_line, HasEveryLine, IsLeastClear}
use Rattle.ff_lines.specs.declared.line_mask.LineMask.{LineMask}

-- a mask of this number
abbrev mask_of : ℕ → LineMask
mask_of n = record { 0 = n }

-- a line of a mask into which a line was put
pub has_line-set : (n line q : ℕ) → line < 64
    → has_line (mask_of (bit_or n (1 * 2 ^ line % 2 ^ 64))) q ≡ ((q == line) || has_line (mask_of n) q)
has_line-set n line q within = elim (cases_eq q line) [
  | inl same ↦
      let test : (q == line) ≡ true = eq-eqb q line same in
      let bit : bit_at (bit_or n (1 * 2 ^ line % 2 ^ 64)) line ≡ 1 = bit_at_set_same w64 n line within in
      rw (test, same, bit) refl
  | inr other ↦
      let test : (q == line) ≡ false = ne_eqb q line other in
      let bit : bit_at (bit_or n (1 * 2 ^ line % 2 ^ 64)) q ≡ bit_at n q = bit_at_set_other w64 n line within q other in
      rw (test, bit) refl
]

-- a line of a mask from which a line was taken
pub has_line-clear : (n line q : ℕ) → line < 64 → q < 64
    → has_line (mask_of (bit_and n (2 ^ 64 - 1 - 1 * 2 ^ line % 2 ^ 64))) q ≡ (not (q == line) && has_line (mask_of n) q)
has_line-clear n line q within in_page = elim (cases_eq q line) [
  | inl same ↦
      let test : (q == line) ≡ true = eq-eqb q line same in
      let bit : bit_at (bit_and n (2 ^ 64 - 1 - 1 * 2 ^ line % 2 ^ 64)) line ≡ 0 = bit_at_clear_same w64 n line within in
      rw (test, same, bit) refl
  | inr other ↦
      let test : (q == line) ≡ false = ne_eqb q line other in
      let bit : bit_at (bit_and n (2 ^ 64 - 1 - 1 * 2 ^ line % 2 ^ 64)) q ≡ bit_at n q = bit_at_clear_other w64 n line within q in_page other in
      rw (test, bit) refl
]

-- the two values of a bit
flipped : (b : ℕ) → b < 2 → ((1 - b) == 1) ≡ not (b == 1)
flipped b small = elim (cases_lt b 1) [
  | inl low ↦ let zero_is : b ≡ 0 = omega arith in rw zero_is refl
  | inr high ↦ let one_is : b ≡ 1 = omega arith in rw one_is refl
]

-- a line of the other lines' mask
pub has_line-complement : (n q : ℕ) → n < 2 ^ 64 → q < 64 → has_line (mask_of (2 ^ 64 - 1 - n)) q ≡ not (has_line (mask_of n) q)
has_line-complement n q small in_page =
    let bit : bit_at (2 ^ 64 - 1 - n) q ≡ 1 - bit_at n q = bit_at_not w64 n q small in_page in
    rw bit (flipped (bit_at n q) (bit_at-lt n q))

-- the lowest clear bit of a mask that isn't full is its least clear line
pub least_clear : (n : ℕ) → n + 1 < 2 ^ 64 → IsLeastClear (mask_of n) (trailing_ones w64 n)
least_clear n room =
    let found = bit_at-trailing_ones w64 n room in
    record {
      in_page = found.0;
      clear = ap (λ (b : ℕ). b == 1) found.1;
      least = λ q below. ap (λ (b : ℕ). b == 1) (found.2 q below);
    }

-- a mask of ones only is full
pub full : (n : ℕ) → n ≡ 2 ^ 64 - 1 → HasEveryLine (mask_of n)
full n all q in_page = rw all (ap (λ (b : ℕ). b == 1) (bit_at_ones 64 q in_page))

-- a mask with a clear line isn't full
pub not_full : (n line : ℕ) → IsLeastClear (mask_of n) line → HasEveryLine (mask_of n) → ⊥
not_full n line found all = let a = all line found.in_page in let b = found.clear in cc

-- a mask of no ones has no line
pub has_line-none : (q : ℕ) → has_line (mask_of 0) q ≡ false
has_line-none q = rw (bit_at-zero q) refl
