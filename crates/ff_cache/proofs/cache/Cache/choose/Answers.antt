use Rattle.std.proofs.Common.{refl}
use Rattle.ff_cache.proofs.Choosing.{first_fits, slot_fits, values_changed}
use Rattle.ff_cache.proofs.cache.Cache.choose.Goals as goal

pub invariant_of-self : goal.invariant_of-self
invariant_of-self c = record {
  sizes = c.self.invariant.sizes;
  slots = c.self.invariant.slots;
  values = values_changed _ _ _ _ _ c.self.invariant.values c.victim_at.ensures.others c.victim_at.ensures.ways;
}

pub returns-in_err-way-clause-same : goal.returns-in_err-way-clause-same
returns-in_err-way-clause-same c = rw (← c.self.view_is) (record { slots = refl; sets = refl; ways = refl })

pub returns-in_err-way-clause-found : goal.returns-in_err-way-clause-found
returns-in_err-way-clause-found c = rw c.from_residual.ensures tt

pub returns-in_err-way-clause-none : goal.returns-in_err-way-clause-none
returns-in_err-way-clause-none c = rw (c.from_residual.ensures, ← c.self.view_is) c.in_err-way.ensures.none

pub returns-in_err-way-clause-kept : goal.returns-in_err-way-clause-kept
returns-in_err-way-clause-kept c = rw (c.from_residual.ensures, ← c.self.view_is) c.in_err-way.ensures.kept

pub invariant_of-self-2 : goal.invariant_of-self-2
invariant_of-self-2 c = record {
  sizes = c.self.invariant.sizes;
  slots = c.self.invariant.slots;
  values = values_changed _ _ _ _ _ c.self.invariant.values c.victim_at.ensures.others c.victim_at.ensures.ways;
}

pub returns-clause-same : goal.returns-clause-same
returns-clause-same c = rw (← c.self.view_is) (record { slots = refl; sets = refl; ways = refl })

pub returns-clause-found : goal.returns-clause-found
returns-clause-found c = rw (← c.self.view_is) (record {
  way = c.in_ok-way.way;
  slot_is = refl;
  victim = c.in_ok-way.ensures.found;
  others = c.in_ok-way.ensures.others;
})

pub returns-clause-none : goal.returns-clause-none
returns-clause-none c = rw (← c.self.view_is) c.in_ok-way.ensures.none

pub overflow_mul-result : goal.overflow_mul-result
overflow_mul-result c = first_fits c.self.inside.sets c.self.inside.ways c.args.page.0 c.self.invariant.sizes

pub overflow_add-result : goal.overflow_add-result
overflow_add-result c =
    slot_fits c.self.inside.sets c.self.inside.ways c.args.page.0 c.in_ok-way.way c.self.inside.values.items
    c.self.invariant.sizes c.self.invariant.values c.in_ok-way.ensures.found.among.in_range
