use Rattle.std.proofs.Common.{arith}
use Rattle.ff_trace.proofs.HexPairs.{decoded-all, decoded-more}
use Rattle.ff_trace.proofs.hex_pairs.decode.Goals as goal

pub loop-i-preserved : goal.loop-i-preserved
loop-i-preserved c =
    rw (c.max-greatest.ensures, c.max.ensures) (decoded-more _ _ c.loop-i.i _ _ _ (omega arith) (omega arith)
    c.value_of-high.ensures c.value_of-low.ensures c.loop-i.invariant)

pub returns : goal.returns
returns c = decoded-all _ _ c.loop-i.i _ (omega arith) (omega arith) c.loop-i.invariant
