use Rattle.std.proofs.Common.{take}
use Rattle.ff_model.specs.Judge.{opening_in}
use Rattle.ff_model.specs.Legal.{IsLegal}
use Rattle.ff_model.proofs.judge.first_illegal.Given as goal

-- the entries so far are legal
abbrev pub invariant-loop-at : goal.invariant-loop-at
invariant-loop-at l = IsLegal (opening_in l.opening) (take l.at l.entries)
