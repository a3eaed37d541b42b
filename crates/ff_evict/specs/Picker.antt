-- What a contract sees of a picker, and what a picker keeps.
use Rattle.std.specs.Prelude.{ℕ, Bool, ◌≤◌}
use Rattle.ff_base.specs.declared.numbers.TheConstants.{PAGE_LINES}

-- the rule
pub record PickerView (E : Type 0) : Type 0 where
  pub pick : E

-- the rule may be asked with every number of dirty lines that a page can have, and gives scores of at most 255
pub record KeepsScores (accepts : Bool → ℕ → Type 0) (score : Bool → ℕ → ℕ) : Type 0 where
  pub accepted : (referred : Bool) (dirty : ℕ) → dirty ≤ PAGE_LINES → accepts referred dirty
  pub small : (referred : Bool) (dirty : ℕ) → dirty ≤ PAGE_LINES → score referred dirty ≤ 255
