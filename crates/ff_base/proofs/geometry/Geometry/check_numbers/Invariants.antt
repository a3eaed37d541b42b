use Rattle.ff_base.specs.Geometry.{AreAllowedBelow}
use Rattle.ff_base.proofs.geometry.Geometry.check_numbers.Given as goal

abbrev pub invariant-loop-i : goal.invariant-loop-i
invariant-loop-i l = AreAllowedBelow l.self l.i
