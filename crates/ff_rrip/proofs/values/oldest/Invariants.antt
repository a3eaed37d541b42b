use Rattle.ff_rrip.specs.Oldest.{IsOldestBelow}
use Rattle.ff_rrip.proofs.values.oldest.Given as goal

abbrev pub invariant-loop-way : goal.invariant-loop-way
invariant-loop-way l = IsOldestBelow l.values l.allowed l.way l.found
