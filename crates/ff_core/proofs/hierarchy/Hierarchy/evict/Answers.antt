use Rattle.std.proofs.Common.{ap, ◌∙◌, arith}
use Rattle.ff_core.specs.Hierarchy.{HierarchyView}
use Rattle.ff_core.proofs.Evicting.{evicted, holds_page, same_count, same_hand}
use Rattle.ff_core.proofs.hierarchy.Hierarchy.evict.Goals as goal

pub page-requires : goal.page-requires
page-requires g c =
    rw (c.frames.ensures ∙ ap (λ (h : HierarchyView g.row.T.Denot g.row.E.Denot). h.memory.frames) c.self.view_is) c.requires.may.in_range

pub pass_to-requires-clause-located : goal.pass_to-requires-clause-located
pass_to-requires-clause-located g c = c.retreat-began.ensures.moved.located

pub pass_to-requires-clause-hand : goal.pass_to-requires-clause-hand
pass_to-requires-clause-hand g c =
    let count = same_count c.in-Some.page.0 c.args.self.now c.retreat-began.new.self c.retreat-began.result c.retreat-began.ensures in
    let hand = same_hand c.in-Some.page.0 c.args.self.now c.retreat-began.new.self c.retreat-began.result c.retreat-began.ensures in
    let in_range = c.requires.may.in_range in
    rw (hand, count) (c.requires.given.hand (omega (arith, in_range)))

pub pass_to-requires-clause-frame : goal.pass_to-requires-clause-frame
pass_to-requires-clause-frame g c =
    rw (same_count c.in-Some.page.0 c.args.self.now c.retreat-began.new.self c.retreat-began.result c.retreat-began.ensures)
    c.requires.may.in_range

pub returns : goal.returns
returns g c =
    let frames = c.frames.ensures ∙ ap (λ (h : HierarchyView g.row.T.Denot g.row.E.Denot). h.memory.frames) c.self.view_is in
    let holds = holds_page _ _ c.args.frame c.page.result c.in-Some.page frames c.page.ensures c.in-Some.is in
    evicted c.in-Some.page c.args.frame c.args.self.now c.retreat-began.new.self c.pass_to.new.self c.retreat-began.result
    holds c.retreat-began.ensures c.pass_to.ensures.passed c.pass_to.ensures.located c.pass_to.ensures.lines c.pass_to.ensures.rest
