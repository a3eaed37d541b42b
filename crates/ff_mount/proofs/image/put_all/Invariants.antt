use Rattle.ff_cache.specs.Nv.{ways_of}
use Rattle.ff_mount.proofs.Filling.{IsUnderWay}
use Rattle.ff_mount.proofs.image.put_all.Given as goal

abbrev pub invariant-loop-page : goal.invariant-loop-page
invariant-loop-page g l =
    IsUnderWay (ways_of l.cache.slots) l.pages l.initial.image.marks l.initial.store l.page l.image l.store
