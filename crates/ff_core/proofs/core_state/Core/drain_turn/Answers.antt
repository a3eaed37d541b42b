use Rattle.ff_model.specs.declared.counts.Kind.TheVariants.{Drain}
use Rattle.ff_core.proofs.BackSound.{back-sound}
use Rattle.ff_core.proofs.Powered.{back_cut, back_event}
use Rattle.ff_core.proofs.core_state.Core.drain_turn.Goals as goal

pub invariant_of-self : goal.invariant_of-self
invariant_of-self g c =
    back-sound g.E.Pick.score Drain c.self.inside.state c.back.result c.back.new.self c.self.invariant
    (rw (← c.self.view_is) at c.parts_known.ensures.memory) (rw (← c.self.view_is) at c.parts_known.ensures.device) c.back.ensures

pub returns-clause-event : goal.returns-clause-event
returns-clause-event g c =
    rw (← c.self.view_is) (back_event g.E.Pick.score Drain c.self.inside.state c.back.result c.back.new.self c.back.ensures)

pub returns-clause-power : goal.returns-clause-power
returns-clause-power g c =
    rw (← c.self.view_is) (back_cut g.E.Pick.score Drain c.self.inside.state c.back.result c.back.new.self c.back.ensures)
