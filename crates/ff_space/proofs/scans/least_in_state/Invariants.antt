use Rattle.ff_space.specs.Scanned.{IsNoneBelow}
use Rattle.ff_space.proofs.scans.least_in_state.Given as goal

abbrev pub invariant-loop-at : goal.invariant-loop-at
invariant-loop-at l = IsNoneBelow l.blocks l.wanted l.at
