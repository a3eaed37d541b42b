use Rattle.ff_cache.specs.Nv.{AreMounted}
use Rattle.ff_cache.proofs.cache.nv.mounting.mounted_values.Given as goal

abbrev pub invariant-loop-set : goal.invariant-loop-set
invariant-loop-set l = AreMounted l.set l.ways l.slots l.values.items
