use Rattle.std.proofs.Common.{◌≡◌, ◌*◌}
use Rattle.ff_gc.specs.Originals.{IsPassed}
use Rattle.ff_gc.proofs.originals.next_original.Given as goal

abbrev pub invariant-loop-place : goal.invariant-loop-place
invariant-loop-place l = record {
  first : l.first ≡ l.fn.job.victim.0 * l.per_block;
  passed : IsPassed l.per_block l.map l.fn.job l.place;
}
