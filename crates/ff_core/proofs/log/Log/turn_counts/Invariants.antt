use Rattle.std.proofs.Common.{◌≡◌, take}
use Rattle.ff_core.specs.Log.{turn_counts}
use Rattle.ff_core.proofs.LogCounts.{AreFew}
use Rattle.ff_core.proofs.log.Log.turn_counts.Given as goal

abbrev pub invariant-loop-turn : goal.invariant-loop-turn
invariant-loop-turn l = record {
  counts : l.counts ≡ turn_counts (take l.turn-index l.self.turns);
  few : AreFew l.counts l.turn-index;
}
