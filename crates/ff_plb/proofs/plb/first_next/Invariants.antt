use Rattle.std.proofs.Common.{◌<◌, ℕ, get_or, None}
use Rattle.ff_plb.specs.NextStep.{IsNextIn}
use Rattle.ff_plb.proofs.plb.first_next.Given as goal

abbrev pub invariant-loop-at : goal.invariant-loop-at
invariant-loop-at l = (k : ℕ) → k < l.at → IsNextIn (get_or l.slots k None) l.way l.step → ⊥
