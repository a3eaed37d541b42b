use Rattle.ff_scan.specs.Tops.{AreTops}
use Rattle.ff_scan.proofs.tops.find_tops.Given as goal

abbrev pub invariant-loop-place : goal.invariant-loop-place
invariant-loop-place l = AreTops l.geometry.per_block l.probes l.place l.tops
