use Rattle.std.proofs.Common.{◌≡◌}
use Rattle.ff_flash_tests.proofs.tests.flash.flash_in.Given as goal

abbrev pub invariant-loop : goal.invariant-loop
invariant-loop l = l.flash.blocks ≡ 8
