-- Numbers drawn one after the other.
use Rattle.std.specs.Prelude.{ℕ, ◌+◌, ◌*◌, ◌/◌, ◌%◌, ◌^◌}

-- the state behind a state
abbrev pub next_state : ℕ → ℕ
next_state state = (6364136223846793005 * state + 1442695040888963407) % 2 ^ 64

-- the number that a new state gives
abbrev pub drawn_number : ℕ → ℕ
drawn_number state = state / 2 ^ 33
