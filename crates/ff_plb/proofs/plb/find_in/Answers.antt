use Rattle.std.proofs.Common.{refl, arith}
use Rattle.ff_plb.proofs.Finding.{found-here, none-found}
use Rattle.ff_plb.proofs.plb.find_in.Goals as goal

pub returns-then-is_of : goal.returns-then-is_of
returns-then-is_of c =
    found-here c.args.slots.now c.loop-at.at c.args.page.0 c.loop-at-test.true c.loop-at.invariant (c.if-is_of.ensures.0 refl)

pub returns : goal.returns
returns c = none-found c.args.slots.now c.args.page.0 (λ k within. c.loop-at.invariant k (omega arith))
