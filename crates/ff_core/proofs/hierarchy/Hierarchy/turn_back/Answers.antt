use Rattle.std.proofs.Common.{sym, subst}
use Rattle.ff_lines.specs.DeviceState.{IsDevice}
use Rattle.ff_core.specs.CanPerform.{IsGiven}
use Rattle.ff_core.specs.Hierarchy.{HierarchyView, lines_under}
use Rattle.ff_core.specs.Performs.{IsTurnedBack}
use Rattle.ff_core.proofs.Turning.{turned_back}
use Rattle.ff_core.proofs.hierarchy.Hierarchy.turn_back.Goals as goal

pub returns : goal.returns
returns g c =
    let inside : HierarchyView g.row.T.Denot g.row.E.Denot = record {
      memory = c.self.inside.memory;
      device = c.self.inside.device;
      policy = c.self.inside.policy;
      evictor = c.self.inside.evictor;
    } in
    let given = subst (λ (h : HierarchyView g.row.T.Denot g.row.E.Denot). IsGiven h) (sym c.self.view_is) c.requires.given in
    let device = subst (λ (h : HierarchyView g.row.T.Denot g.row.E.Denot). IsDevice (lines_under h)) (sym c.self.view_is) c.lines_known.ensures in
    subst
    (λ (h : HierarchyView g.row.T.Denot g.row.E.Denot). IsTurnedBack c.args.slot h _ (record inside { memory = c.turn_back.new.self })) c.self.view_is
    (turned_back c.args.slot inside c.turn_back.new.self device given.located c.turn_back.ensures.step c.turn_back.ensures.located
    c.turn_back.ensures.lines)
