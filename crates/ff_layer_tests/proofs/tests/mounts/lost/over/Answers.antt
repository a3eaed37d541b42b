use Rattle.ff_flash.specs.Plans.{planned_of}
use Rattle.ff_mount.proofs.Empty.{empty_lost}
use Rattle.ff_layer_tests.proofs.tests.mounts.lost.over.Goals as goal

pub invariant_of-result : goal.invariant_of-result
invariant_of-result c = (
  c.requires.limits,
  empty_lost c.args.geometry.now (planned_of c.args.plan) c.args.marks c.in-Ok-new.cache c.in-Ok.flash c.into_nv.result
      c.requires.limits c.requires.marks c.in-Ok-new.ensures c.known.ensures c.in-Ok.ensures c.into_nv.ensures,
)
