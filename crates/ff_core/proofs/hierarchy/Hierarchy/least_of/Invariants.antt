use Rattle.std.proofs.Common.{take}
use Rattle.ff_core.specs.Choices.{IsLeastAmong}
use Rattle.ff_core.proofs.hierarchy.Hierarchy.least_of.Given as goal

-- the least of the pages so far
abbrev pub invariant-loop-page : goal.invariant-loop-page
invariant-loop-page g l = IsLeastAmong l.self (take l.page-index l.pages) l.least
