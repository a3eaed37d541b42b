-- The program's rules of the threshold and of the frames' scores.
use Rattle.std.specs.Prelude.{ℕ, ◌+◌, ◌-◌, ◌*◌, ◌&&◌, Bool, if◌then◌else◌, max, nat_le, nat_lt}

-- the threshold falls by 1, not below 1, where a quarter or more of the accesses were host hits; it rises by 1, not
-- above 7, where a sixteenth or fewer were
abbrev pub tuned : ℕ → ℕ → ℕ → ℕ
tuned hits accesses threshold =
    if nat_le accesses (hits * 4) then max (threshold - 1) 1
    else if nat_le (hits * 16) accesses && nat_lt threshold 7 then threshold + 1
    else threshold

-- a frame with fewer dirty lines goes first, and those that were referred to behind the others
abbrev pub dirty_score : Bool → ℕ → ℕ
dirty_score referred dirty = if referred then 128 + dirty else dirty
