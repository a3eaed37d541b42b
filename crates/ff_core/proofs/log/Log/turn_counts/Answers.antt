use Rattle.std.proofs.Common.{◌+◌, ◌<◌, ◌^◌, length, ap, arith}
use Rattle.ff_core.specs.declared.log.Turned.{Turned}
use Rattle.ff_core.proofs.LogCounts.{counts_left, counts_next, counts_none, few_turned}
use Rattle.ff_core.proofs.log.Log.turn_counts.Goals as goal

pub loop-turn-init : goal.loop-turn-init
loop-turn-init c = record { counts = c.no_turns-counts.ensures; few = rw c.no_turns-counts.ensures counts_none }

pub add-requires : goal.add-requires
add-requires c =
    let same = ap (length {A = Turned}) c.as_slice-turn-items.ensures in
    let low : c.loop-turn.turn-index + 1 < 2 ^ 32 = omega (arith, same) in
    counts_left _ c.loop-turn.counts c.loop-turn.turn-index low c.loop-turn.invariant.few

pub loop-turn-preserved : goal.loop-turn-preserved
loop-turn-preserved c = record {
  counts = counts_next _ _ _ _ _ _ _ c.as_slice-turn-items.ensures c.loop-turn-test.true c.loop-turn.invariant.counts
      c.is_did.ensures c.add.ensures;
  few = rw c.add.ensures (few_turned _ _ c.loop-turn.counts c.loop-turn.turn-index c.loop-turn.invariant.few);
}
