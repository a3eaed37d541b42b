use Rattle.ff_gc.proofs.Stepping.{steps_kept}
use Rattle.ff_gc.proofs.collector.Collector.step.Goals as goal

pub returns-clause-kept : goal.returns-clause-kept
returns-clause-kept g c on = steps_kept _ _ _ c.known.ensures (c.requires.ready on) c.powered_step.ensures
