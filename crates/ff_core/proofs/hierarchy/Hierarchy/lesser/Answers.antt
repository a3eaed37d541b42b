use Rattle.std.proofs.Common.{sym, arith}
use Rattle.ff_core.specs.Choices.{keeps}
use Rattle.ff_core.proofs.hierarchy.Hierarchy.lesser.Goals as goal

pub returns-then-other-page : goal.returns-then-other-page
returns-then-other-page g c = keeps c.in-Some.other c.in-Some.is (omega (arith, c.if-other-page.true)) (sym c.in-Some.is)
