use Rattle.std.proofs.Common.{refl, sym, ap, ◌∙◌}
use Rattle.ff_core.specs.Hierarchy.{HierarchyView, lines_under}
use Rattle.ff_core.specs.Misses.{retreats, waits_for_slot, works}
use Rattle.ff_core.proofs.Choosing.{none_free, some_free}
use Rattle.ff_core.proofs.hierarchy.Hierarchy.action_at_rest.Goals as goal

pub returns-then-is_none : goal.returns-then-is_none
returns-then-is_none g c =
    let slots = c.plb.ensures ∙ ap (λ (h : HierarchyView g.row.T.Denot g.row.E.Denot). h.memory.slots) c.self.view_is in
    waits_for_slot (none_free _ _ c.free_slot.result slots c.free_slot.ensures c.if-is_none.ensures) refl

pub returns-then-resident : goal.returns-then-resident
returns-then-resident g c =
    let slots = c.plb.ensures ∙ ap (λ (h : HierarchyView g.row.T.Denot g.row.E.Denot). h.memory.slots) c.self.view_is in
    let resident =
    c.if-resident.ensures.value
    ∙ ap (λ (h : HierarchyView g.row.T.Denot g.row.E.Denot). (lines_under h).resident c.args.page.0) c.self.view_is in
    retreats (some_free _ _ c.free_slot.result slots c.free_slot.ensures c.if-is_none.ensures) (sym resident) refl

pub returns-else-resident : goal.returns-else-resident
returns-else-resident g c =
    let slots = c.plb.ensures ∙ ap (λ (h : HierarchyView g.row.T.Denot g.row.E.Denot). h.memory.slots) c.self.view_is in
    let resident =
    c.if-resident.ensures.value
    ∙ ap (λ (h : HierarchyView g.row.T.Denot g.row.E.Denot). (lines_under h).resident c.args.page.0) c.self.view_is in
    works (some_free _ _ c.free_slot.result slots c.free_slot.ensures c.if-is_none.ensures) (sym resident) refl
