use Rattle.std.proofs.Common.{refl, sym, ap, subst}
use Rattle.ff_memory.specs.Located.{IsLocated}
use Rattle.ff_policy.specs.Policy.{PolicyView}
use Rattle.ff_core.specs.Choices.{IsPromotable}
use Rattle.ff_core.specs.Hierarchy.{HierarchyView, lines_under}
use Rattle.ff_core.specs.Performs.{HasPromoted}
use Rattle.ff_core.proofs.hierarchy.Hierarchy.promote.Goals as goal

pub begin_promote-requires-clause-can : goal.begin_promote-requires-clause-can
begin_promote-requires-clause-can g c =
    (subst (λ (h : HierarchyView g.row.T.Denot g.row.E.Denot). IsPromotable h c.args.page.0) (sym c.self.view_is) c.requires.may).may

pub begin_promote-requires-clause-located : goal.begin_promote-requires-clause-located
begin_promote-requires-clause-located g c =
    subst (λ (h : HierarchyView g.row.T.Denot g.row.E.Denot). IsLocated h.memory (lines_under h)) (sym c.self.view_is) c.requires.given.located

pub promote-requires : goal.promote-requires
promote-requires g c =
    (subst (λ (h : HierarchyView g.row.T.Denot g.row.E.Denot). IsPromotable h c.args.page.0) (sym c.self.view_is) c.requires.may).hot

pub returns : goal.returns
returns g c =
    let inside : HierarchyView g.row.T.Denot g.row.E.Denot = record {
      memory = c.self.inside.memory;
      device = c.self.inside.device;
      policy = c.self.inside.policy;
      evictor = c.self.inside.evictor;
    } in
    let moved : HierarchyView g.row.T.Denot g.row.E.Denot = record inside {
      memory = c.begin_promote.new.self;
      device = c.begin_promote.new.d;
    } in
    let after : HierarchyView g.row.T.Denot g.row.E.Denot = record moved { policy = c.promote.new.self } in
    let promoted : HasPromoted c.args.page.0 inside _ after = record {
      did = refl;
      step = c.begin_promote.ensures.step;
      moved = record {
        located = c.begin_promote.ensures.located;
        lines = c.begin_promote.ensures.lines;
        own = c.begin_promote.ensures.own;
      };
      rest = ap (λ (p : PolicyView g.row.T.Denot). record moved { policy = p }) c.promote.ensures;
    } in
    subst (λ (h : HierarchyView g.row.T.Denot g.row.E.Denot). HasPromoted c.args.page.0 h _ after) c.self.view_is promoted
