use Rattle.std.proofs.Common.{◌≢◌, ◌<◌, ℕ, get_or, None}
use Rattle.ff_plb.proofs.plb.first_empty.Given as goal

abbrev pub invariant-loop-at : goal.invariant-loop-at
invariant-loop-at l = (k : ℕ) → k < l.at → get_or l.slots k None ≢ None
