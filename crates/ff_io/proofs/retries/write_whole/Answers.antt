use Rattle.std.proofs.Common.{arith}
use Rattle.ff_io.proofs.Written.{Appends-more, AppendsPrefix-kept}
use Rattle.ff_io.proofs.retries.write_whole.Goals as goal

pub returns-in_err-written-clause-err : goal.returns-in_err-written-clause-err
returns-in_err-written-clause-err g c =
    AppendsPrefix-kept c.from_residual.result _ _ _ c.args.piece.now c.loop-written.written c.loop-written.invariant.1 c.in_err-written.ensures.kept

pub loop-written-preserved : goal.loop-written-preserved
loop-written-preserved g c =
    let n = c.loop-written.written in
    let m = c.in_ok-written.field-0 in
    (omega (arith, c.in_ok-written.ensures.bound), Appends-more _ _ _ c.args.piece.now n m c.loop-written.invariant.1 c.in_ok-written.ensures.written)
