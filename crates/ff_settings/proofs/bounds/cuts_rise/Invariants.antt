use Rattle.std.proofs.Common.{drop}
use Rattle.ff_flash.specs.Plans.{cut_numbers}
use Rattle.ff_settings.specs.Given.{as_cuts}
use Rattle.ff_settings.proofs.Rising.{Rise}
use Rattle.ff_settings.proofs.bounds.cuts_rise.Given as goal

abbrev pub invariant-loop-cut : goal.invariant-loop-cut
invariant-loop-cut l = Rise l.least (cut_numbers (as_cuts (drop l.cut-index l.cuts))) (cut_numbers (as_cuts l.cuts))
