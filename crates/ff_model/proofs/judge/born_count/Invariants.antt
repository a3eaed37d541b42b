use Rattle.std.proofs.Common.{◌≡◌}
use Rattle.ff_model.specs.Flat.{born_count}
use Rattle.ff_model.proofs.judge.born_count.Given as goal

-- the born ones of the pages so far
abbrev pub invariant-loop-page : goal.invariant-loop-page
invariant-loop-page l = l.count ≡ born_count l.opening.base.now l.before l.page
