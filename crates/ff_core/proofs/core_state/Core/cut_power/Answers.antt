use Rattle.std.proofs.Common.{sym, subst}
use Rattle.ff_core.specs.Core.{CoreView}
use Rattle.ff_core.specs.CoreSound.{IsCoreSound}
use Rattle.ff_core.proofs.CutPower.{core_off_sound}
use Rattle.ff_core.proofs.core_state.Core.cut_power.Goals as goal

pub invariant_of-self : goal.invariant_of-self
invariant_of-self g c =
    subst (λ (core : CoreView g.row.T.Denot g.row.E.Denot). IsCoreSound core) (sym c.power_off.ensures)
    (core_off_sound c.self.inside.state c.self.invariant (rw (← c.self.view_is) at c.parts_known.ensures.device))
