use Rattle.std.proofs.Common.{refl, sym, subst}
use Rattle.ff_core.specs.CanPerform.{IsGiven}
use Rattle.ff_core.specs.Hierarchy.{HierarchyView}
use Rattle.ff_core.specs.Misses.{IsAbsent}
use Rattle.ff_core.specs.Performs.{IsDeviceStep}
use Rattle.ff_core.proofs.hierarchy.Hierarchy.device_step.Goals as goal

pub returns-clause-step : goal.returns-clause-step
returns-clause-step g c =
    let inside : HierarchyView g.row.T.Denot g.row.E.Denot = record {
      memory = c.self.inside.memory;
      device = c.self.inside.device;
      policy = c.self.inside.policy;
      evictor = c.self.inside.evictor;
    } in
    let given = subst (λ (h : HierarchyView g.row.T.Denot g.row.E.Denot). IsGiven h) (sym c.self.view_is) c.requires.given in
    let absent = subst (λ (h : HierarchyView g.row.T.Denot g.row.E.Denot). IsAbsent h c.args.page.0) (sym c.self.view_is) c.requires.absent in
    let step : IsDeviceStep c.args.page.0 c.work.result inside (record inside { device = c.work.new.self }) = record {
      works = c.work.ensures.answer;
      kept = c.work.ensures.kept;
      row = c.work.ensures.row given.on absent.absent;
      calls = c.work.ensures.calls;
      shape = c.work.ensures.shape;
      rest = refl;
    } in
    subst
    (λ (h : HierarchyView g.row.T.Denot g.row.E.Denot). IsDeviceStep c.args.page.0 c.work.result h (record inside { device = c.work.new.self }))
    c.self.view_is step
