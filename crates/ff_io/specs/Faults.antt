-- How a source and a sink count their failures.
use Rattle.std.specs.Prelude.{ℕ, ◌≡◌, ◌≤◌, Result, MatchResult}
use Rattle.ff_base.specs.Count.{Rose}

-- a failure was counted: the count rose, or stands at its last value
abbrev pub IsFaultCounted : ℕ → ℕ → Type 0
IsFaultCounted before now = Rose before now × (before ≤ now)

-- a failure only where it was counted, and an `Ok` leaves the count
abbrev pub CountsFault : {T E : Type 0} → Result T E → ℕ → ℕ → Type 0
CountsFault result before now =
    MatchResult result (λ _. now ≡ before) (λ _. IsFaultCounted before now)
