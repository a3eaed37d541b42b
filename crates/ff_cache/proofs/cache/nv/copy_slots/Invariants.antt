use Rattle.std.proofs.Common.{◌≡◌, take}
use Rattle.ff_cache.specs.Nv.{ways_of}
use Rattle.ff_cache.proofs.cache.nv.copy_slots.Given as goal

abbrev pub invariant-loop-slot : goal.invariant-loop-slot
invariant-loop-slot l = ways_of l.copies.items ≡ ways_of (take l.slot-index l.slots)
