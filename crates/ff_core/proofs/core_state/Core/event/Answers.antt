use Rattle.ff_core.proofs.DriveEvents.{turn_event}
use Rattle.ff_core.proofs.Powered.{turn_cut}
use Rattle.ff_core.proofs.core_state.Core.event.Goals as goal

pub returns-clause-event : goal.returns-clause-event
returns-clause-event g c =
    turn_event g.T.Tune.answers c.args.self.now c.args.caller c.args.number c.args.op.now c.turn-turn.result c.turn-turn.new.self
    c.parts_known.ensures.sound c.parts_known.ensures.memory c.parts_known.ensures.device c.parts_known-2.ensures.device
    c.turn-turn.ensures

pub returns-clause-power : goal.returns-clause-power
returns-clause-power g c =
    turn_cut g.T.Tune.answers c.args.self.now c.args.caller c.args.number c.args.op.now c.turn-turn.result c.turn-turn.new.self
    c.turn-turn.ensures
