use Rattle.std.proofs.Common.{refl, arith}
use Rattle.ff_plb.proofs.Nexts.{least-next, none-next}
use Rattle.ff_plb.proofs.plb.first_next.Goals as goal

pub returns-then-has_next : goal.returns-then-has_next
returns-then-has_next c =
    least-next c.args.slots.now c.args.way c.args.step c.loop-at.at c.loop-at-test.true c.loop-at.invariant
    (c.if-has_next.ensures.0 refl)

pub returns : goal.returns
returns c = none-next c.args.slots.now c.args.way c.args.step (λ k within. c.loop-at.invariant k (omega arith))
