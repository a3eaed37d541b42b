use Rattle.std.proofs.Common.{drop}
use Rattle.ff_settings.proofs.Rising.{Rise}
use Rattle.ff_settings.proofs.bounds.fails_rise.Given as goal

abbrev pub invariant-loop-number : goal.invariant-loop-number
invariant-loop-number l = Rise l.least (drop l.number-index l.fail) l.fail
