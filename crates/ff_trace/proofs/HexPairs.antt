-- Pairs of hexadecimal digits, read by the values of the digits.
use Rattle.std.proofs.Common.{◌≡◌, ℕ, ◌+◌, ◌*◌, ◌%◌, ◌<◌, ◌≤◌, max, List, Option, Some, None, unwrap_or, Ok, Err, length, take, drop, slice_index, slice_set, refl, ap, sym, inl, inr, arith}
use Rattle.std.specs.Bool.{MatchBool}
use Rattle.std.specs.Prelude.{IsErr, nat_lt, true, false}
use Rattle.std.proofs.lemmas.Bool.{cases_lt}
use Rattle.std.proofs.lemmas.Bool.Decides.{nat_tests}
use Rattle.hex.specs.Hex.{decode_pairs, hex_digit_value, pair_value}
use Rattle.hex.specs.declared.error.FromHexError.{FromHexError}
use Rattle.hex.specs.declared.error.FromHexError.TheVariants.{InvalidHexCharacter}
use Rattle.hex.proofs.Pairs.{decode_done, decode_err, decode_start, decode_step, prepend}
use Rattle.ff_trace.specs.Fields.{digit_or_sixteen}

-- so many pairs were read: their bytes stand before those of the rest, or one of them is bad
pub record HasDecoded (digits bytes : List ℕ) (count greatest : ℕ) : Type 0 where
  pub read : greatest < 16
      → decode_pairs 0 digits ≡ prepend (take count bytes) (decode_pairs (2 * count) (drop (2 * count) digits))
  pub bad : 16 ≤ greatest → IsErr (decode_pairs 0 digits)

-- a digit's value is below 16
digit-small : (c v : ℕ) → hex_digit_value c ≡ Some v → v < 16
digit-small c v is = grind arith

-- a digit by its value
some-digit : (found : Option ℕ) → unwrap_or found 16 < 16 → found ≡ Some (unwrap_or found 16)
some-digit (Some v) low = refl
some-digit None low = absurd (omega arith)

-- two digits
pair-read : (a b i v w : ℕ) → hex_digit_value a ≡ Some v → hex_digit_value b ≡ Some w → v < 16 → w < 16
    → pair_value a b i ≡ Ok (16 * (v % 16) + w % 16)
pair-read a b i v w first second high low =
    let byte : v * 16 + w ≡ 16 * (v % 16) + w % 16 = omega arith in
    rw (first, second) (ap Ok byte)

-- two bytes, one of which is no digit
pair-bad : (a b i : ℕ) (high low : Option ℕ) → hex_digit_value a ≡ high → hex_digit_value b ≡ low
    → 16 ≤ max (unwrap_or high 16) (unwrap_or low 16) → (e : FromHexError) × (pair_value a b i ≡ Err e)
pair-bad a b i None low first second bad = (InvalidHexCharacter a i, rw first refl)
pair-bad a b i (Some v) None first second bad = (InvalidHexCharacter b (i + 1), rw (first, second) refl)
pair-bad a b i (Some v) (Some w) first second bad =
    let high = digit-small a v first in
    let low = digit-small b w second in
    absurd (omega arith)

-- no pair was read
pub decoded-none : (digits bytes : List ℕ) → HasDecoded digits bytes 0 0
decoded-none digits bytes = record { read = λ small. decode_start digits bytes; bad = λ large. absurd (omega arith) }

-- one pair more
pub decoded-more : (digits bytes : List ℕ) (i greatest high low : ℕ) → length digits ≡ 2 * length bytes → i < length bytes
    → high ≡ digit_or_sixteen (slice_index digits (2 * i)) → low ≡ digit_or_sixteen (slice_index digits (2 * i + 1))
    → HasDecoded digits bytes i greatest
    → HasDecoded digits (slice_set bytes i (16 * (high % 16) + low % 16)) (i + 1) (max (max greatest high) low)
decoded-more digits bytes i greatest high low size within first second had =
    let a = slice_index digits (2 * i) in
    let b = slice_index digits (2 * i + 1) in
    record {
      read = λ small.
          let is_high = rw (sym first) at (some-digit (hex_digit_value a) (omega arith)) in
          let is_low = rw (sym second) at (some-digit (hex_digit_value b) (omega arith)) in
          decode_step digits bytes i _ (omega arith) within
          (pair-read a b (2 * i) high low is_high is_low (omega arith) (omega arith)) (had.read (omega arith));
      bad = λ large.
          elim (cases_lt greatest 16) [
            | inl small ↦
                let bad = pair-bad a b (2 * i) (hex_digit_value a) (hex_digit_value b) refl refl (omega arith) in
                let err = decode_err digits bytes i bad.0 (omega arith) bad.1 (had.read small) in
                rw err refl
            | inr worse ↦ had.bad (omega arith)
          ];
    }

-- every pair was read
pub decoded-all : (digits bytes : List ℕ) (i greatest : ℕ) → length digits ≡ 2 * length bytes → length bytes ≤ i
    → HasDecoded digits bytes i greatest
    → MatchBool (nat_lt greatest 16) (decode_pairs 0 digits ≡ Ok bytes) (IsErr (decode_pairs 0 digits))
decoded-all digits bytes i greatest size whole had =
    elim (cases_lt greatest 16) [
      | inl small ↦
          let test : nat_lt greatest 16 ≡ true = grind (arith, nat_tests) in
          rw test (decode_done digits bytes i whole (omega arith) (had.read small))
      | inr large ↦
          let test : nat_lt greatest 16 ≡ false = grind (arith, nat_tests) in
          rw test (had.bad large)
    ]
