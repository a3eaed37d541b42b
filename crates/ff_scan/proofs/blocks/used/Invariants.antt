use Rattle.ff_scan.specs.Found.{IsUsed}
use Rattle.ff_scan.proofs.blocks.used.Given as goal

abbrev pub invariant-loop-page : goal.invariant-loop-page
invariant-loop-page l = IsUsed l.geometry.per_block l.probes l.block.0 l.page l.next
