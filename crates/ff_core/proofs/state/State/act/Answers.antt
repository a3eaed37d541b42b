-- What a turn chose may be performed.
use Rattle.std.proofs.Common.{refl, ap}
use Rattle.ff_core.specs.Core.{CoreView}
use Rattle.ff_core.specs.declared.action.Progress.TheVariants.{Failed, Off}
use Rattle.ff_core.proofs.BackEnds.{given_before, performed_by, performed_did}
use Rattle.ff_core.proofs.Mays.{choice-may}
use Rattle.ff_core.proofs.state.State.act.Goals as goal

pub perform-requires-clause-may : goal.perform-requires-clause-may
perform-requires-clause-may g c =
    choice-may _ c.args.kind c.self.inside.hierarchy c.args.action (rw (← c.self.view_is) at c.requires.sound.told.located)
    (rw (← c.self.view_is) at c.requires.choice)

pub perform-requires-clause-given : goal.perform-requires-clause-given
perform-requires-clause-given g c =
    given_before _ (rw (← c.self.view_is) at c.requires.sound) (rw (← c.self.view_is) at c.requires.on)
    (rw (← c.self.view_is) at c.requires.time)

pub returns-in-Did : goal.returns-in-Did
returns-in-Did g c =
    rw (← c.self.view_is) (performed_did c.in-Did.what c.args.action c.args.kind _ c.did.result c.end.result c.end.new.self
    c.perform.new.self c.count.new.self c.in-Did.ensures c.count.ensures c.did.ensures c.end.ensures.back c.end.ensures.core)

pub returns-in-Failed : goal.returns-in-Failed
returns-in-Failed g c =
    rw (← c.self.view_is) (performed_by Failed c.args.action c.args.kind _ c.end-in-Failed.result c.end-in-Failed.new.self
    c.perform.new.self c.in-Failed.ensures c.end-in-Failed.ensures.back
    (ap (λ (core : CoreView g.row.T.Denot g.row.E.Denot). core.hierarchy) c.end-in-Failed.ensures.core) c.end-in-Failed.ensures.core)

pub returns-in-Off : goal.returns-in-Off
returns-in-Off g c =
    rw (← c.self.view_is) (performed_by Off c.args.action c.args.kind _ _ _ c.perform.new.self c.in-Off.ensures refl refl refl)
