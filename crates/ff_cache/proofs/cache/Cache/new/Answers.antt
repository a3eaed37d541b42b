use Rattle.std.proofs.Common.{arith, refl}
use Rattle.ff_cache.proofs.Fresh.{fresh_sound, sizes_of}
use Rattle.ff_cache.proofs.cache.Cache.new.Goals as goal

pub overflow_mul-sets : goal.overflow_mul-sets
overflow_mul-sets c = let few = (sizes_of c.args.geometry.now c.requires).few in omega (arith, few)

pub distant_values-requires : goal.distant_values-requires
distant_values-requires c = let few = (sizes_of c.args.geometry.now c.requires).few_ways in omega (arith, few)

pub invariant_of-result : goal.invariant_of-result
invariant_of-result c =
    rw (c.in_ok-slots.ensures, c.in_ok-values.ensures)
    (fresh_sound c.args.geometry.now.sets c.args.geometry.now.ways (sizes_of c.args.geometry.now c.requires))

pub returns : goal.returns
returns c = rw (c.in_ok-slots.ensures, c.in_ok-values.ensures) refl
