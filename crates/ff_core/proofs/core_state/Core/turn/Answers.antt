use Rattle.ff_core.proofs.TurnSound.{turn-sound}
use Rattle.ff_core.proofs.core_state.Core.turn.Goals as goal

pub invariant_of-self : goal.invariant_of-self
invariant_of-self g c =
    turn-sound g.T.Tune.answers c.self.inside.state c.args.caller c.args.number c.args.op.now c.turn.result c.turn.new.self
    c.self.invariant (rw (← c.self.view_is) at c.parts_known.ensures.memory)
    (rw (← c.self.view_is) at c.parts_known.ensures.device) c.turn.ensures
