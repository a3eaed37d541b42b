-- No block before this one is covered.
use Rattle.std.proofs.Common.{arith}
use Rattle.ff_scan.proofs.Covering.{least_here, none_more}
use Rattle.ff_scan.proofs.covered.least_covered.Goals as goal

pub returns-then-is_covered : goal.returns-then-is_covered
returns-then-is_covered c =
    least_here c.args.geometry.now c.args.probes.now c.loop-block.block (omega arith) c.loop-block.invariant
    (c.is_covered.ensures.0 c.if-is_covered.true)

pub loop-block-preserved : goal.loop-block-preserved
loop-block-preserved c =
    none_more c.args.geometry.now c.args.probes.now c.loop-block.block c.loop-block.invariant
    (λ covered. (let e = c.is_covered.ensures.1 covered in cc))

pub returns : goal.returns
returns c = λ block is. c.loop-block.invariant block (let below = is.in_range in omega arith) is
