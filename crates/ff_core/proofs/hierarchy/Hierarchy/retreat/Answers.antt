use Rattle.std.proofs.Common.{refl, sym, subst}
use Rattle.ff_memory.specs.Begins.{CanRetreat}
use Rattle.ff_memory.specs.Located.{IsLocated}
use Rattle.ff_core.specs.Hierarchy.{HierarchyView, lines_under}
use Rattle.ff_core.specs.Performs.{HasRetreated}
use Rattle.ff_core.proofs.hierarchy.Hierarchy.retreat.Goals as goal

pub begin_retreat-requires-clause-can : goal.begin_retreat-requires-clause-can
begin_retreat-requires-clause-can g c =
    subst (λ (h : HierarchyView g.row.T.Denot g.row.E.Denot). CanRetreat h.memory (lines_under h) c.args.page.0) (sym c.self.view_is) c.requires.may

pub begin_retreat-requires-clause-located : goal.begin_retreat-requires-clause-located
begin_retreat-requires-clause-located g c =
    subst (λ (h : HierarchyView g.row.T.Denot g.row.E.Denot). IsLocated h.memory (lines_under h)) (sym c.self.view_is) c.requires.given.located

pub returns : goal.returns
returns g c =
    let inside : HierarchyView g.row.T.Denot g.row.E.Denot = record {
      memory = c.self.inside.memory;
      device = c.self.inside.device;
      policy = c.self.inside.policy;
      evictor = c.self.inside.evictor;
    } in
    let after : HierarchyView g.row.T.Denot g.row.E.Denot = record inside {
      memory = c.begin_retreat.new.self;
      device = c.begin_retreat.new.d;
    } in
    let retreated : HasRetreated c.args.page.0 inside _ after = record {
      did = refl;
      step = c.begin_retreat.ensures.step;
      moved = record {
        located = c.begin_retreat.ensures.located;
        lines = c.begin_retreat.ensures.lines;
        own = c.begin_retreat.ensures.own;
      };
      rest = refl;
    } in
    subst (λ (h : HierarchyView g.row.T.Denot g.row.E.Denot). HasRetreated c.args.page.0 h _ after) c.self.view_is retreated
