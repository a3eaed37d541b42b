use Rattle.ff_core.specs.Performs.{steps}
use Rattle.ff_core.proofs.Yielding.{yielded}
use Rattle.ff_core.proofs.hierarchy.Hierarchy.work_for.Goals as goal

pub returns-in-Pinned : goal.returns-in-Pinned
returns-in-Pinned g c =
    yielded c.args.page.0 c.in-Pinned.other _ _ _ _ c.in-Pinned.ensures.step (c.in-Pinned.ensures.idle tt) c.yield_to.ensures

pub returns-in_default : goal.returns-in_default
returns-in_default g c = steps c.device_step.result c.progress_of.ensures c.device_step.ensures.step c.in_default.not-Pinned
