use Rattle.std.proofs.Common.{arith}
use Rattle.std.proofs.lemmas.List.{get_or_read}
use Rattle.ff_policy.proofs.CountedPages.{counted-raised, few_counted}
use Rattle.ff_policy.proofs.counters.Counters.raise.Goals as goal

pub add_counted-requires : goal.add_counted-requires
add_counted-requires c =
    let room = rw (← c.self.view_is) at c.requires.room in
    omega (
      arith,
      few_counted c.self.inside.counts.items c.self.inside.counted.items c.self.invariant.pages,
      c.self.inside.counted.ok.0,
      c.self.invariant.room,
      room,
    )

pub invariant_of-self : goal.invariant_of-self
invariant_of-self c =
    let items = c.self.inside.counts.items in
    let within = rw (← c.self.view_is) at c.requires.page in
    let read = get_or_read items c.args.page.0 c.index-count.result.now within c.index-count.ensures 0 in
    record {
      pages = rw (c.raised.ensures, read)
          (counted-raised items c.self.inside.counted.items c.add_counted.new.pages.items c.args.page c.self.invariant.pages within
          (rw read at c.add_counted.ensures.pages));
      room = omega (arith, c.add_counted.ensures.capacity, c.self.invariant.room);
    }
