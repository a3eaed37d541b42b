-- The marked lines of a table after lines of a page were marked, and after their marks were cleared.
use Rattle.std.proofs.Common.{◌≡◌, ◌<◌, inl, inr, ℕ, ◌-◌, ◌^◌, ◌==◌, true, false, not, length, refl, sym, ap, ◌∙◌, w64, arith}
use Rattle.std.specs.Prelude.{◌||◌, ◌&&◌, min, max}
use Rattle.std.specs.Int.{bit_at}
use Rattle.std.proofs.lemmas.Bool.{cases_eq, cases_lt, eq-eqb, ne_eqb}
use Rattle.std.proofs.lemmas.List.{get_or-set_same, get_or-set_other}
use Rattle.std.proofs.lemmas.Nat.Bits.{bit_at-lt, bit_at_and, bit_at_not, bit_at_or}
use Rattle.ff_table.specs.Table.{TableView, marked_to, marks_of, with_marks}

max-bits : (a b : ℕ) → a < 2 → b < 2 → (max a b == 1) ≡ ((b == 1) || (a == 1))
max-bits a b low few = elim (cases_lt a 1) [
  | inl none ↦ let a_is : a ≡ 0 = omega arith in elim (cases_lt b 1) [
    | inl nothing ↦ let b_is : b ≡ 0 = omega arith in rw (a_is, b_is) refl
    | inr one ↦ let b_is : b ≡ 1 = omega arith in rw (a_is, b_is) refl
  ]
  | inr some ↦ let a_is : a ≡ 1 = omega arith in elim (cases_lt b 1) [
    | inl nothing ↦ let b_is : b ≡ 0 = omega arith in rw (a_is, b_is) refl
    | inr one ↦ let b_is : b ≡ 1 = omega arith in rw (a_is, b_is) refl
  ]
]

min-bits : (a b : ℕ) → a < 2 → b < 2 → (min a (1 - b) == 1) ≡ (not (b == 1) && (a == 1))
min-bits a b low few = elim (cases_lt a 1) [
  | inl none ↦ let a_is : a ≡ 0 = omega arith in elim (cases_lt b 1) [
    | inl nothing ↦ let b_is : b ≡ 0 = omega arith in rw (a_is, b_is) refl
    | inr one ↦ let b_is : b ≡ 1 = omega arith in rw (a_is, b_is) refl
  ]
  | inr some ↦ let a_is : a ≡ 1 = omega arith in elim (cases_lt b 1) [
    | inl nothing ↦ let b_is : b ≡ 0 = omega arith in rw (a_is, b_is) refl
    | inr one ↦ let b_is : b ≡ 1 = omega arith in rw (a_is, b_is) refl
  ]
]

line-marked : (mask lines line : ℕ) → (bit_at (marked_to mask lines true) line == 1) ≡ ((bit_at lines line == 1) || (bit_at mask line == 1))
line-marked mask lines line =
    ap (λ (n : ℕ). n == 1) (bit_at_or mask lines line)
    ∙ max-bits (bit_at mask line) (bit_at lines line) (bit_at-lt mask line) (bit_at-lt lines line)

line-cleared : (mask lines line : ℕ) → lines < 2 ^ 64 → line < 64
    → (bit_at (marked_to mask lines false) line == 1) ≡ (not (bit_at lines line == 1) && (bit_at mask line == 1))
line-cleared mask lines line fits low =
    ap (λ (n : ℕ). n == 1) (bit_at_and mask (2 ^ 64 - 1 - lines) line)
    ∙ ap (λ (n : ℕ). min (bit_at mask line) n == 1) (bit_at_not w64 lines line fits low)
    ∙ min-bits (bit_at mask line) (bit_at lines line) (bit_at-lt mask line) (bit_at-lt lines line)

-- lines of a page were marked
pub marks-more : (table : TableView) (page lines q line : ℕ) → page < length table.marks
    → (bit_at (marks_of (with_marks page lines true table) q) line == 1)
    ≡ (((page == q) && (bit_at lines line == 1)) || (bit_at (marks_of table q) line == 1))
marks-more table page lines q line within = elim (cases_eq q page) [
  | inl same ↦
      let here : (page == q) ≡ true = eq-eqb page q (sym same) in
      rw here (
      ap (λ (n : ℕ). bit_at n line == 1)
      (ap (λ (k : ℕ). marks_of (with_marks page lines true table) k) same
      ∙ get_or-set_same table.marks page (marked_to (marks_of table page) lines true) 0 within)
      ∙ line-marked (marks_of table page) lines line
      ∙ ap (λ (k : ℕ). (bit_at lines line == 1) || (bit_at (marks_of table k) line == 1)) (sym same))
  | inr other ↦
      let elsewhere : (page == q) ≡ false = ne_eqb page q (λ e. other (sym e)) in
      rw elsewhere
      (ap (λ (n : ℕ). bit_at n line == 1) (get_or-set_other table.marks page q (marked_to (marks_of table page) lines true) 0 other))
]

-- marks of a page's lines were cleared
pub marks-fewer : (table : TableView) (page lines q line : ℕ) → page < length table.marks → lines < 2 ^ 64 → line < 64
    → (bit_at (marks_of (with_marks page lines false table) q) line == 1)
    ≡ (not ((page == q) && (bit_at lines line == 1)) && (bit_at (marks_of table q) line == 1))
marks-fewer table page lines q line within fits low = elim (cases_eq q page) [
  | inl same ↦
      let here : (page == q) ≡ true = eq-eqb page q (sym same) in
      rw here (
      ap (λ (n : ℕ). bit_at n line == 1)
      (ap (λ (k : ℕ). marks_of (with_marks page lines false table) k) same
      ∙ get_or-set_same table.marks page (marked_to (marks_of table page) lines false) 0 within)
      ∙ line-cleared (marks_of table page) lines line fits low
      ∙ ap (λ (k : ℕ). not (bit_at lines line == 1) && (bit_at (marks_of table k) line == 1)) (sym same))
  | inr other ↦
      let elsewhere : (page == q) ≡ false = ne_eqb page q (λ e. other (sym e)) in
      rw elsewhere
      (ap (λ (n : ℕ). bit_at n line == 1) (get_or-set_other table.marks page q (marked_to (marks_of table page) lines false) 0 other))
]
