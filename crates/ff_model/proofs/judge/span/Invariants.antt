use Rattle.std.proofs.Common.{◌≡◌}
use Rattle.ff_model.specs.Flat.{flat_byte_of}
use Rattle.ff_model.specs.Legal.{span_bytes}
use Rattle.ff_model.proofs.judge.span.Given as goal

abbrev pub invariant-loop-i : goal.invariant-loop-i
invariant-loop-i l = l.bytes ≡ span_bytes (flat_byte_of l.opening.base.now l.before) l.at l.i
