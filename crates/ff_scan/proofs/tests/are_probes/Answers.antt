-- Each probe was looked at.
use Rattle.std.proofs.Common.{below_more, rules, arith}
use Rattle.ff_scan.proofs.Newest.{sealed_within}
use Rattle.ff_scan.proofs.tests.are_probes.Goals as goal

pub loop-place-preserved : goal.loop-place-preserved
loop-place-preserved c = below_more _ _ c.loop-place.invariant (c.is_fit.ensures (search rules))

pub returns : goal.returns
returns c = λ holds. record {
  size = omega arith;
  page = λ a spare is. (c.loop-place.invariant a (let in_range = sealed_within _ a spare is in omega arith) spare is).0;
  least = λ a spare is. (c.loop-place.invariant a (let in_range = sealed_within _ a spare is in omega arith) spare is).1;
  most = λ a spare is. (c.loop-place.invariant a (let in_range = sealed_within _ a spare is in omega arith) spare is).2;
}
