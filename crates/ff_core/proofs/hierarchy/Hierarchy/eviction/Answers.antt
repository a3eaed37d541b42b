use Rattle.std.proofs.Common.{ap, sym, subst, List, ◌∙◌}
use Rattle.ff_evict.specs.Choice.{IsChosenFrame}
use Rattle.ff_frames.specs.Frames.{IsNoneFree}
use Rattle.ff_frames.specs.declared.frame.Frame.{Frame}
use Rattle.ff_core.specs.Choices.{IsEvicted}
use Rattle.ff_core.specs.Hierarchy.{HierarchyView, lines_under}
use Rattle.ff_core.proofs.Choosing.{some_free}
use Rattle.ff_core.proofs.Evicting.{holds_page}
use Rattle.ff_core.proofs.hierarchy.Hierarchy.eviction.Goals as goal

pub returns-then-resident : goal.returns-then-resident
returns-then-resident g c =
    let frames = ap (λ (h : HierarchyView g.row.T.Denot g.row.E.Denot). h.memory.frames) c.self.view_is in
    let slots = ap (λ (h : HierarchyView g.row.T.Denot g.row.E.Denot). h.memory.slots) c.self.view_is in
    let chosen = subst (λ (h : HierarchyView g.row.T.Denot g.row.E.Denot).
    IsChosenFrame (g.E.Pick.score h.evictor.picker.pick) h.memory.frames h.memory.slots h.evictor.hand c.in_ok-frame.frame) c.self.view_is
    (rw (c.frames-2.ensures, c.plb-2.ensures) at c.in_ok-frame.ensures) in
    let evicted : IsEvicted g.E.Pick.score c.args.self.now c.in_ok-frame.frame c.in_ok-page.page = record {
      wants = record {
        none_free = subst (λ (f : List Frame). IsNoneFree f) (c.frames.ensures ∙ frames) (c.is_full.ensures.0 c.if-not-is_full.false);
        some_slot = some_free _ _ c.free_slot.result (c.plb.ensures ∙ slots) c.free_slot.ensures c.if-is_none.ensures;
      };
      chosen = chosen;
      holds = holds_page _ _ c.in_ok-frame.frame c.page.result c.in_ok-page.page (c.frames-3.ensures ∙ frames) c.page.ensures c.in_ok-page.was;
    } in
    let resident = ap (λ (h : HierarchyView g.row.T.Denot g.row.E.Denot). (lines_under h).resident c.in_ok-page.page.0) c.self.view_is in
    (c.requires.none, (c.in_ok-page.page, evicted, sym (c.if-resident.ensures.value ∙ resident)))

pub returns-else-resident : goal.returns-else-resident
returns-else-resident g c =
    let frames = ap (λ (h : HierarchyView g.row.T.Denot g.row.E.Denot). h.memory.frames) c.self.view_is in
    let slots = ap (λ (h : HierarchyView g.row.T.Denot g.row.E.Denot). h.memory.slots) c.self.view_is in
    let chosen = subst (λ (h : HierarchyView g.row.T.Denot g.row.E.Denot).
    IsChosenFrame (g.E.Pick.score h.evictor.picker.pick) h.memory.frames h.memory.slots h.evictor.hand c.in_ok-frame.frame) c.self.view_is
    (rw (c.frames-2.ensures, c.plb-2.ensures) at c.in_ok-frame.ensures) in
    let evicted : IsEvicted g.E.Pick.score c.args.self.now c.in_ok-frame.frame c.in_ok-page.page = record {
      wants = record {
        none_free = subst (λ (f : List Frame). IsNoneFree f) (c.frames.ensures ∙ frames) (c.is_full.ensures.0 c.if-not-is_full.false);
        some_slot = some_free _ _ c.free_slot.result (c.plb.ensures ∙ slots) c.free_slot.ensures c.if-is_none.ensures;
      };
      chosen = chosen;
      holds = holds_page _ _ c.in_ok-frame.frame c.page.result c.in_ok-page.page (c.frames-3.ensures ∙ frames) c.page.ensures c.in_ok-page.was;
    } in
    let resident = ap (λ (h : HierarchyView g.row.T.Denot g.row.E.Denot). (lines_under h).resident c.in_ok-page.page.0) c.self.view_is in
    (c.requires.none, (c.in_ok-frame.frame, evicted, sym (c.if-resident.ensures.value ∙ resident)))
