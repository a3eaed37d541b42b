-- What a contract sees of a tuner, and what a tuner keeps.
use Rattle.std.specs.Prelude.{ℕ, ◌≤◌, ◌^◌}

-- the least threshold, the one to begin with, and the rule
pub record TunerView (T : Type 0) : Type 0 where
  pub floor : ℕ
  pub start : ℕ
  pub tune : T

-- the rule is asked with numbers in its range: counts of at most 2 ^ 63, and a threshold from its floor to 255
pub record IsAsked (least hits accesses threshold : ℕ) : Type 0 where
  pub few_hits : hits ≤ 2 ^ 63
  pub few_accesses : accesses ≤ 2 ^ 63
  pub above_floor : least ≤ threshold
  pub fits : threshold ≤ 255

-- the rule may be asked with all numbers in its range, and answers none below its floor
pub record KeepsFloor (least start : ℕ) (accepts : ℕ → ℕ → ℕ → Type 0)
    (answers : ℕ → ℕ → ℕ → ℕ → Type 0) : Type 0 where
  pub positive : 1 ≤ least
  pub begins : least ≤ start
  pub accepted : (hits accesses threshold : ℕ) → IsAsked least hits accesses threshold
      → accepts hits accesses threshold
  pub above_floor : (hits accesses threshold answer : ℕ) → IsAsked least hits accesses threshold
      → answers hits accesses threshold answer → least ≤ answer
