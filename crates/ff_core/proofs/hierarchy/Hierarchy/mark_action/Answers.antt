use Rattle.std.proofs.Common.{List, Option, ap, subst, ◌∙◌}
use Rattle.ff_plb.specs.Plb.{IsFound}
use Rattle.ff_plb.specs.declared.slot.Slot.{Slot}
use Rattle.ff_core.specs.Hierarchy.{HierarchyView}
use Rattle.ff_core.proofs.Marked.{marked_in_flight}
use Rattle.ff_core.proofs.hierarchy.Hierarchy.mark_action.Goals as goal

pub returns-in-Some : goal.returns-in-Some
returns-in-Some g c =
    let slots = c.plb.ensures ∙ ap (λ (h : HierarchyView g.row.T.Denot g.row.E.Denot). h.memory.slots) c.self.view_is in
    let found = subst (λ (slots : List (Option Slot)). IsFound slots c.args.page.0 c.in-Some.slot) slots c.in-Some.ensures in
    marked_in_flight _ _ _ _ found c.action_in_flight.ensures
