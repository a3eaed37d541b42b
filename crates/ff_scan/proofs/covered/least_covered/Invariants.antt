use Rattle.std.proofs.Common.{◌<◌, ℕ}
use Rattle.ff_scan.specs.Covered.{IsCoveredBlock}
use Rattle.ff_scan.proofs.covered.least_covered.Given as goal

abbrev pub invariant-loop-block : goal.invariant-loop-block
invariant-loop-block l = (b : ℕ) → b < l.block → IsCoveredBlock l.geometry l.probes b → ⊥
