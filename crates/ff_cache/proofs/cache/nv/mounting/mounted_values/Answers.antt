use Rattle.std.proofs.Common.{arith, refl}
use Rattle.ff_cache.proofs.Mounted.{mounted_more}
use Rattle.ff_cache.proofs.Sets.{set_fits}
use Rattle.ff_cache.proofs.cache.nv.mounting.mounted_values.Goals as goal

pub loop-set-init : goal.loop-set-init
loop-set-init c = rw c.new-values.ensures.items record {
  sizes = record { count = refl; each = λ set below. absurd (omega arith) };
  each = λ set way below within. absurd (omega arith);
}

pub mounted_ways-requires-clause-within : goal.mounted_ways-requires-clause-within
mounted_ways-requires-clause-within c =
    rw c.requires.size (set_fits c.loop-set.set c.args.sets c.args.ways c.loop-set-test.true)

pub mounted_ways-requires-clause-fits : goal.mounted_ways-requires-clause-fits
mounted_ways-requires-clause-fits c = rw c.requires.size c.requires.few

pub loop-set-preserved : goal.loop-set-preserved
loop-set-preserved c =
    rw c.in_ok-push.ensures.items (
    mounted_more c.loop-set.set c.args.ways c.args.slots.now c.loop-set.values.items c.in_ok-mounted_ways.field-0 c.loop-set.invariant
    c.in_ok-mounted_ways.ensures.size c.in_ok-mounted_ways.ensures.each)
