use Rattle.std.proofs.Common.{◌≡◌, ◌*◌, ◌<◌, ℕ, true}
use Rattle.ff_frames.specs.UsedFrames.{is_used}
use Rattle.ff_frames.proofs.used.UsedFrames.least_unused.Given as goal

abbrev pub invariant-loop-at : goal.invariant-loop-at
invariant-loop-at l = (q : ℕ) → q < 64 * l.at → is_used l.self-inside.masks.items q ≡ true
