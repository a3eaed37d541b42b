-- The block that was found is covered.
use Rattle.ff_scan.proofs.tests.has_covered.Goals as goal

pub returns-in-Some : goal.returns-in-Some
returns-in-Some c = λ holds none. none _ c.in-Some.ensures.has
