-- A mask with one more bit.
use Rattle.std.proofs.Common.{◌≡◌, ◌<◌, inl, inr, ℕ, ◌*◌, ◌%◌, ◌^◌, ◌+◌, ◌≤◌, ◌≢◌, ◌==◌, Bool, true, false, bit_or, w32, refl, sym, ap, ◌∙◌, arith}
use Rattle.std.specs.Int.{bit_at}
use Rattle.std.specs.Prelude.{if◌then◌else◌}
use Rattle.std.proofs.lemmas.Bool.{cases_eq, eq-eqb, ne_eqb}
use Rattle.std.proofs.lemmas.Nat.Bits.{bit_at_set_same, bit_at_set_other}
use Rattle.ff_rrip.specs.Ways.{is_allowed}

-- a bit was set
pub allowed_with : (mask way other : ℕ) → way < 32
    → is_allowed (bit_or mask (1 * 2 ^ way % 2 ^ 32)) other ≡ (if other == way then true else is_allowed mask other)
allowed_with mask way other within = elim (cases_eq other way) [
  | inl same ↦
      let bit : bit_at (bit_or mask (1 * 2 ^ way % 2 ^ 32)) way ≡ 1 = bit_at_set_same w32 mask way within in
      rw (eq-eqb other way same, same, bit) refl
  | inr apart ↦
      let bit : bit_at (bit_or mask (1 * 2 ^ way % 2 ^ 32)) other ≡ bit_at mask other = bit_at_set_other w32 mask way within other apart in
      rw (ne_eqb other way apart, bit) refl
]

-- the mask tells of one way more
pub allowed_more : (mask new way : ℕ) (may : Bool) (goes : ℕ → Bool) → may ≡ goes way
    → ((k : ℕ) → is_allowed new k ≡ (if k == way then may else is_allowed mask k))
    → ((k : ℕ) → k < way → is_allowed mask k ≡ goes k) → (k : ℕ) → k < way + 1 → is_allowed new k ≡ goes k
allowed_more mask new way may goes is one told k below = elim (cases_eq k way) [
  | inl same ↦
      let here : is_allowed new k ≡ may = one k ∙ rw (eq-eqb k way same) refl in
      here ∙ is ∙ ap goes (sym same)
  | inr apart ↦
      let there : is_allowed new k ≡ is_allowed mask k = one k ∙ rw (ne_eqb k way apart) refl in
      there ∙ told k (omega arith)
]

pub clear_more : (mask new way : ℕ) (may : Bool)
    → ((k : ℕ) → is_allowed new k ≡ (if k == way then may else is_allowed mask k))
    → ((k : ℕ) → way ≤ k → is_allowed mask k ≡ false) → (k : ℕ) → way + 1 ≤ k → is_allowed new k ≡ false
clear_more mask new way may one clear k above =
    let apart : k ≢ way = omega arith in
    let there : is_allowed new k ≡ is_allowed mask k = one k ∙ rw (ne_eqb k way apart) refl in
    there ∙ clear k (omega arith)
