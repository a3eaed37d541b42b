-- What a pass over the ways has found so far: the oldest way that is allowed.
use Rattle.std.specs.Prelude.{
  ℕ,
  ◌<◌,
  ◌≤◌,
  ◌≡◌,
  true,
  List,
  slice_index,
  Option,
  None,
  Some,
}
use Rattle.ff_rrip.specs.Ways.{is_allowed}

-- of the ways below a number, the way is the least of those that have the greatest value of the allowed ones
pub record IsOldest (values : List ℕ) (allowed bound way : ℕ) : Type 0 where
  pub in_range : way < bound
  pub bit : is_allowed allowed way ≡ true
  pub greatest : (other : ℕ) → other < bound → is_allowed allowed other ≡ true
      → slice_index values other ≤ slice_index values way
  pub least : (other : ℕ) → other < way → is_allowed allowed other ≡ true
      → slice_index values other < slice_index values way

-- what is known of the ways below a number: none is allowed, or this one is the oldest
abbrev pub IsOldestBelow : List ℕ → ℕ → ℕ → Option ℕ → Type 0
IsOldestBelow values allowed bound None =
    (way : ℕ) → way < bound → is_allowed allowed way ≡ true → ⊥
IsOldestBelow values allowed bound (Some way) = IsOldest values allowed bound way
