use Rattle.std.proofs.Common.{◌≡◌, length, ap, ◌∙◌, sym, arith}
use Rattle.std.proofs.lemmas.List.{length-map, take_at}
use Rattle.ff_policy.specs.Counters.{halved}
use Rattle.ff_policy.proofs.CountedPages.{counted-halved}
use Rattle.ff_policy.proofs.counters.Counters.halve.Goals as goal

pub invariant_of-self : goal.invariant_of-self
invariant_of-self c =
    let items = c.self.inside.counts.items in
    let new : c.halve.new.counts ≡ halved items = rw c.deref_mut.ensures.value at c.halve.ensures in
    let len : length c.halve.new.counts ≡ c.self.inside.counts.len =
    ap length new ∙ length-map items _ ∙ sym c.self.inside.counts.ok.0 in
    record {
      pages = rw (c.keep_counted.ensures.pages, c.deref.ensures.value, take_at _ _ _ len, new)
          (counted-halved items c.self.inside.counted.items c.self.invariant.pages);
      room = omega (arith, c.keep_counted.ensures.capacity, c.self.invariant.room);
    }
