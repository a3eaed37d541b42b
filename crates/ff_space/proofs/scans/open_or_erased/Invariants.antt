use Rattle.ff_space.specs.Scanned.{FirstFound, IsNoneBelow}
use Rattle.ff_space.specs.declared.block.BlockState.TheVariants.{Erased, Open}
use Rattle.ff_space.proofs.scans.open_or_erased.Given as goal

abbrev pub invariant-loop-at : goal.invariant-loop-at
invariant-loop-at l = record { none_open : IsNoneBelow l.blocks Open l.at; first : FirstFound l.blocks Erased l.at l.erased }
