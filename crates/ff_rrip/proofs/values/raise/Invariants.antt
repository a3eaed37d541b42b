use Rattle.std.proofs.Common.{◌≡◌, ◌<◌, ◌≤◌, ℕ, get_or}
use Rattle.ff_rrip.specs.Ways.{raised_value}
use Rattle.ff_rrip.proofs.values.raise.Given as goal

abbrev pub invariant-loop-way : goal.invariant-loop-way
invariant-loop-way l = record {
  raised : (k : ℕ) → k < l.way → get_or l.values k 0 ≡ raised_value l.allowed l.by k (get_or l.initial.values k 0);
  kept : (k : ℕ) → l.way ≤ k → get_or l.values k 0 ≡ get_or l.initial.values k 0;
}
