use Rattle.std.proofs.Common.{arith}
use Rattle.ff_rrip.proofs.Raised.{raised_is}
use Rattle.ff_rrip.proofs.values.raise.Goals as goal

pub returns : goal.returns
returns c = raised_is c.args.allowed c.args.by c.args.values.now c.loop-way.values (omega arith) (λ k within. c.loop-way.invariant.raised k (omega arith))
