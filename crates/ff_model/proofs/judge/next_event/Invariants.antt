use Rattle.std.proofs.Common.{◌≡◌, take}
use Rattle.ff_model.specs.Judge.{opening_in}
use Rattle.ff_model.specs.Legal.{next_event}
use Rattle.ff_model.proofs.judge.next_event.Given as goal

abbrev pub invariant-loop-entry : goal.invariant-loop-entry
invariant-loop-entry l = l.event ≡ next_event (opening_in l.opening) (take l.entry-index l.before)
