use Rattle.std.proofs.Common.{sym, subst}
use Rattle.ff_memory.specs.Located.{IsLocated}
use Rattle.ff_core.specs.Hierarchy.{HierarchyView, lines_under}
use Rattle.ff_core.proofs.hierarchy.Hierarchy.pass_to.Goals as goal

pub returns-clause-located : goal.returns-clause-located
returns-clause-located g c =
    c.clear_referred.ensures.located _
    (subst (λ (h : HierarchyView g.row.T.Denot g.row.E.Denot). IsLocated h.memory (lines_under h)) (sym c.self.view_is) c.requires.located)
