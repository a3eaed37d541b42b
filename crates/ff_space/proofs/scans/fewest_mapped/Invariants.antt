use Rattle.ff_space.proofs.Fewest.{FewestFound, IsFewest}
use Rattle.ff_space.proofs.scans.fewest_mapped.Given as goal

abbrev pub invariant-loop-at : goal.invariant-loop-at
invariant-loop-at l = record { found : FewestFound l.per_block l.blocks l.at l.found l.fewest; least : IsFewest l.blocks l.at l.fewest }
