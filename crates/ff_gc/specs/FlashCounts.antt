-- How many operations of each kind were begun.
use Rattle.std.specs.Prelude.{ℕ, ◌+◌}
use Rattle.ff_gc.specs.declared.counts.FlashCounts.{FlashCounts}
use Rattle.ff_gc.specs.declared.counts.OperationKind.{OperationKind}
use Rattle.ff_gc.specs.declared.counts.OperationKind.TheVariants.{Read, Program, Seal, Erase}

-- none was begun
abbrev pub no_counts : FlashCounts
no_counts = record { reads = 0; programs = 0; seals = 0; erases = 0 }

-- the counts after one more was begun
abbrev pub begun : OperationKind → FlashCounts → FlashCounts
begun Read counts = record counts { reads = counts.reads + 1 }
begun Program counts = record counts { programs = counts.programs + 1 }
begun Seal counts = record counts { seals = counts.seals + 1 }
begun Erase counts = record counts { erases = counts.erases + 1 }

-- how many were begun of all kinds
abbrev pub total_of : FlashCounts → ℕ
total_of counts = counts.reads + counts.programs + counts.seals + counts.erases
