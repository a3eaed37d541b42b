-- Numbers that count what happens.
use Rattle.std.specs.Prelude.{ℕ, ◌+◌, ◌-◌, ◌^◌, ◌<◌, ◌≤◌, min}

-- the event number at which a session is spent
abbrev pub last_event : ℕ
last_event = 2 ^ 62

-- a count of 64 bits rose, or stands at its last value
abbrev pub Rose : ℕ → ℕ → Type 0
Rose before now = min (before + 1) (2 ^ 64 - 1) ≤ now

-- a count that is far from the last value of 64 bits
abbrev pub HasCountLeft : ℕ → Type 0
HasCountLeft count = count < 2 ^ 63
