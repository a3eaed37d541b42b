use Rattle.std.proofs.Common.{◌≡◌, take}
use Rattle.ff_model.specs.Judge.{opening_in}
use Rattle.ff_model.specs.Legal.{faults_after}
use Rattle.ff_model.proofs.judge.faults_after.Given as goal

abbrev pub invariant-loop-entry : goal.invariant-loop-entry
invariant-loop-entry l = l.faults ≡ faults_after (opening_in l.opening) (take l.entry-index l.before)
