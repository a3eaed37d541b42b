use Rattle.std.proofs.Common.{sym, arith}
use Rattle.ff_flash.proofs.Rising.{none_passed}
use Rattle.ff_flash.proofs.injector.Injector.new.Goals as goal

pub invariant_of-result : goal.invariant_of-result
invariant_of-result c = record {
  sound = record { plan = c.requires; cut = tt };
  fails = sym (none_passed 0 1 _ c.requires.fail (omega arith));
  cuts = sym (none_passed 0 1 _ c.requires.cuts (omega arith));
}
