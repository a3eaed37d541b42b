use Rattle.std.proofs.Common.{arith}
use Rattle.ff_policy.proofs.CountedPages.{counted-cleared}
use Rattle.ff_policy.proofs.counters.Counters.clear.Goals as goal

pub invariant_of-self : goal.invariant_of-self
invariant_of-self c =
    let within = rw (← c.self.view_is) at c.requires in
    record {
      pages = rw (c.keep_counted.ensures.pages, c.deref.ensures.value)
          (counted-cleared c.self.inside.counts.items c.self.inside.counted.items c.args.page.0 c.self.invariant.pages within);
      room = omega (arith, c.keep_counted.ensures.capacity, c.self.invariant.room);
    }
