-- The value of digits, one digit after the other.
use Rattle.std.proofs.Common.{ℕ, ◌+◌, ◌-◌, ◌*◌, ◌^◌, ◌<◌, ◌≤◌, arith, lit<}
use Rattle.std.proofs.Math.Nat.{pow-le-pow_right}
use Rattle.std.proofs.lemmas.Grind.{pow_more}
use Rattle.std.proofs.lemmas.List.Sums.{fold_more}

-- any ten bytes have a value that fits
pub value-fits : (value index : ℕ) → value + 23 ≤ 23 * 10 ^ index → index < 10 → value < 2 ^ 40
value-fits value index bound low =
    let power : 10 ^ index ≤ 10 ^ 9 = pow-le-pow_right (lit< tt) {j = 9} (omega arith) in
    omega arith

-- the bound on a value, one digit on
pub value-step : (value digit index : ℕ) → value + 23 ≤ 23 * 10 ^ index → digit < 256
    → 10 * value + (digit - 48) + 23 ≤ 23 * 10 ^ (index + 1)
value-step value digit index bound byte =
    let power = pow_more 10 index in
    omega arith

pub ruleset digit_values = (value-fits, value-step, fold_more)
