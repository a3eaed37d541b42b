use Rattle.std.proofs.Common.{◌∙◌}
use Rattle.ff_memory.proofs.Shapes.{shape-stored}
use Rattle.ff_memory_tests.proofs.tests.memory.rig.Rig.store.Goals as goal

pub invariant_of-self : goal.invariant_of-self
invariant_of-self c =
    let shape = shape-stored _ _ _ _ _ _ _ _ c.self.inside.memory _ c.store.result c.store.new.self _ c.store.ensures.store in
    (c.store.ensures.located, shape.homes ∙ c.self.invariant.1)
