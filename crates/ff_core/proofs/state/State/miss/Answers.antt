-- What is done for a call that missed may be performed.
use Rattle.ff_core.proofs.MissedCalls.{missed-may}
use Rattle.ff_core.proofs.state.State.miss.Goals as goal

pub perform-requires-clause-may : goal.perform-requires-clause-may
perform-requires-clause-may g c =
    missed-may _ c.args.op.now c.args.page c.miss_action-action.result (rw (← c.self.view_is) at c.requires.sound)
    (rw (← c.self.view_is) at c.requires.missed) c.miss_action-action.ensures
