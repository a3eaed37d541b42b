use Rattle.ff_core.proofs.hierarchy.Hierarchy.miss_action.Goals as goal

pub returns-in-Mark : goal.returns-in-Mark
returns-in-Mark g c = rw c.in-Mark.is c.mark_action.ensures
