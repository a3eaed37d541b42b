use Rattle.std.proofs.Common.{◌≡◌, length}
use Rattle.ff_memory_tests.proofs.tests.plb.an_entry_by_its_steps.Given as goal

abbrev pub invariant-loop-at : goal.invariant-loop-at
invariant-loop-at g l = length l.plb ≡ 2
