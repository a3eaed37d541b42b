use Rattle.std.proofs.Common.{◌≡◌}
use Rattle.std.proofs.Math.ListN.{replicate}
use Rattle.ff_rrip.specs.Ways.{distant_value}
use Rattle.ff_cache.proofs.cache.fresh.distant_values.Given as goal

abbrev pub invariant-loop : goal.invariant-loop
invariant-loop l = l.values.items ≡ replicate l.counter (replicate l.ways distant_value)
