use Rattle.std.proofs.Common.{◌≡◌, length}
use Rattle.ff_memory_tests.proofs.tests.evict.store.Given as goal

abbrev pub invariant-loop-line : goal.invariant-loop-line
invariant-loop-line l = length l.frames ≡ length l.initial.frames
