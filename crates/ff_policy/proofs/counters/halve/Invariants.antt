use Rattle.std.proofs.Common.{◌≡◌, ◌++◌, take, drop}
use Rattle.ff_policy.specs.Counters.{halved}
use Rattle.ff_policy.proofs.counters.halve.Given as goal

abbrev pub invariant-loop-count : goal.invariant-loop-count
invariant-loop-count l = l.counts ≡ halved (take l.count-index l.initial.counts) ++ drop l.count-index l.initial.counts
