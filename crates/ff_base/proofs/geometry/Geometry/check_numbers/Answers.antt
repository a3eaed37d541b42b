use Rattle.std.proofs.Common.{rules}
use Rattle.ff_base.proofs.Bounds.{one_broken, one_more}
use Rattle.ff_base.proofs.geometry.Geometry.check_numbers.Goals as goal

pub loop-i-preserved : goal.loop-i-preserved
loop-i-preserved c =
    one_more c.args.self.now c.loop-i.i c.loop-i-test.true c.loop-i.invariant c.in_ok-within.ensures.ok

pub returns-in_err-within-clause-err : goal.returns-in_err-within-clause-err
returns-in_err-within-clause-err c =
    let e = c.in_err-within.ensures in
    let broken = one_broken c.args.self.now c.loop-i.i c.in_err-within.field-0.0 c.loop-i-test.true c.loop-i.invariant
    e.name e.value e.least e.greatest e.broken in
    search rules
