use Rattle.std.proofs.Common.{◌≡◌, get_or, set, arith}
use Rattle.ff_policy.proofs.Ledger.{sum-counted, sum-halved}
use Rattle.ff_policy.specs.Counters.{halved, raised_count}
use Rattle.ff_policy.proofs.policy.Policy.device_access.Goals as goal

pub invariant_of-self : goal.invariant_of-self
invariant_of-self g c =
    let counters = c.self.inside.counters in
    let page = c.args.page.0 in
    let within = rw (← c.self.view_is) at c.requires.page in
    let few = rw (← c.self.view_is) at c.requires.few in
    let counted = set counters page (raised_count (get_or counters page 0)) in
    let new : c.halve.new.self ≡ halved counted = rw c.raise.ensures at c.halve.ensures in
    let sums = sum-halved counted in
    let one = sum-counted counters page within in
    let step = c.if-self-eq-STEP_ACCESSES.true in
    record {
      paid = rw new (omega (arith, sums, one, c.self.invariant.paid));
      positive = c.self.invariant.positive;
      least = c.next-self-inside.ensures.floor;
      stepped = omega arith;
      few_counted = rw new (omega (arith, sums, one, step, c.self.invariant.few_counted));
      few_hits = omega arith;
      few_accesses = omega arith;
    }
