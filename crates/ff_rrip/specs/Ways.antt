-- The re-reference values of the ways of a set, what they keep, and which way gives way.
use Rattle.std.specs.Prelude.{
  ℕ,
  ◌+◌,
  ◌<◌,
  ◌≤◌,
  ◌≡◌,
  ◌≢◌,
  ◌==◌,
  Bool,
  true,
  if◌then◌else◌,
  List,
  [],
  ◌∷◌,
  length,
  slice_index,
}
use Rattle.std.specs.Int.{bit_at}

-- the value of a way that is expected next
abbrev pub near_value : ℕ
near_value = 0

-- the value of a way that was filled
abbrev pub long_value : ℕ
long_value = 2

-- the value of a way that is expected last, the greatest of two bits
abbrev pub distant_value : ℕ
distant_value = 3

-- the way's bit is 1
abbrev pub is_allowed : ℕ → ℕ → Bool
is_allowed allowed way = bit_at allowed way == 1

-- the way is one of so many, and its bit is 1
pub record IsAllowedWay (ways allowed way : ℕ) : Type 0 where
  pub in_range : way < ways
  pub bit : is_allowed allowed way ≡ true

-- a way's value, raised by a number if the way's bit is 1
abbrev pub raised_value : ℕ → ℕ → ℕ → ℕ → ℕ
raised_value allowed by way value = if is_allowed allowed way then value + by else value

-- the values of the ways from one on, those of the allowed ways raised by a number
abbrev pub raised_from : ℕ → ℕ → ℕ → List ℕ → List ℕ
raised_from way allowed by [] = []
raised_from way allowed by (value ∷ later) =
    raised_value allowed by way value ∷ raised_from (way + 1) allowed by later

-- the values with those of the allowed ways raised by a number
abbrev pub raised : ℕ → ℕ → List ℕ → List ℕ
raised allowed by values = raised_from 0 allowed by values

-- what the ways of a set keep: there are no more than a mask has bits, and each has a value of two bits
pub record IsWaysSound (values : List ℕ) : Type 0 where
  pub few : length values ≤ 32
  pub small : (way : ℕ) → way < length values → slice_index values way ≤ distant_value

-- no way is allowed
abbrev pub NoneAllowed : List ℕ → ℕ → Type 0
NoneAllowed values allowed = (way : ℕ) → IsAllowedWay (length values) allowed way → ⊥

-- the way gives way: the allowed ways were raised until one had the greatest value, and it is the least of those that
-- have it
pub record IsVictimWay (allowed : ℕ) (old new : List ℕ) (way : ℕ) : Type 0 where
  pub raises : (by : ℕ) × (new ≡ raised allowed by old)
  pub among : IsAllowedWay (length old) allowed way
  pub distant : slice_index new way ≡ distant_value
  pub bounded : (other : ℕ) → IsAllowedWay (length old) allowed other
      → slice_index new other ≤ distant_value
  pub least : (other : ℕ) → other < way → IsAllowedWay (length old) allowed other
      → slice_index new other ≢ distant_value
