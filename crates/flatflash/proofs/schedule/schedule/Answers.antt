use Rattle.flatflash.proofs.Ended.{ended_loaded, ended_refused}
use Rattle.flatflash.proofs.schedule.schedule.Goals as goal

pub returns-in-Ok-Load : goal.returns-in-Ok-Load
returns-in-Ok-Load g c =
    ended_loaded g.S.Source.left g.S.Source.faults c.args.source.now c.args.tuner.floor _ c.in-Ok-Load.number _ _ _
    (rw c.in-Ok-Load.field-0-is at c.in-Ok-Load.ensures.ok) c.load.ensures

pub returns-in-Err : goal.returns-in-Err
returns-in-Err g c =
    ended_refused g.S.Source.left g.S.Source.faults c.args.source.now c.args.tuner.floor _ c.in-Err.refusal _ _ _
    c.in-Err.ensures.err c.tell_refusal.ensures
