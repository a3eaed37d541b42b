use Rattle.ff_base.proofs.Bounds.{all_checked, cache_ways_fit, checked, flash_pages_fit, with_flash_pages}
use Rattle.ff_base.specs.declared.limits.LimitName.TheVariants.{CacheWays}
use Rattle.ff_base.proofs.geometry.Geometry.check.Goals as goal

pub overflow_mul-self : goal.overflow_mul-self
overflow_mul-self c = flash_pages_fit c.args.self.now c.in_ok-check_numbers.ensures.ok

pub overflow_mul-self-2 : goal.overflow_mul-self-2
overflow_mul-self-2 c = cache_ways_fit c.args.self.now c.in_ok-check_numbers.ensures.ok

pub returns-clause-ok : goal.returns-clause-ok
returns-clause-ok c =
    all_checked c.args.self.now c.within-2.result c.in_ok-check_numbers.ensures.ok c.in_ok-within.ensures.ok
    c.within-2.ensures.ok

pub returns-clause-err : goal.returns-clause-err
returns-clause-err c =
    let e = c.within-2.ensures in
    checked c.args.self.now CacheWays c.within-2.result
    (with_flash_pages c.args.self.now c.in_ok-check_numbers.ensures.ok c.in_ok-within.ensures.ok)
    e.name e.value e.least e.greatest e.broken
