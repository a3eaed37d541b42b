use Rattle.ff_core.proofs.FreshSound.{fresh-kept}
use Rattle.ff_core.proofs.core_state.Core.fresh.Goals as goal

pub invariant_of-result : goal.invariant_of-result
invariant_of-result g c =
    fresh-kept c.in-Ok.state (g.F.Flash.state c.args.flash) c.args.geometry c.args.tuner c.args.picker c.args.room c.in-Ok.ensures
    c.requires.limits c.requires.flash c.known.ensures.calls c.known.ensures.turns
