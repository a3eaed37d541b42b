use Rattle.std.proofs.Common.{refl}
use Rattle.ff_report.proofs.InOrder.{Wrote-failed, Wrote-then}
use Rattle.flatflash.proofs.Told.{sessions_text-at, sessions_text-more}
use Rattle.flatflash.proofs.tell.write_sessions.Goals as goal

pub loop-at-preserved : goal.loop-at-preserved
loop-at-preserved g c =
    Wrote-then _ _ _ _ _ _ _ _ _ _ c.loop-at.invariant c.in-Ok.ensures
    (sessions_text-more _ _ _ c.loop-at-test.true c.index-sessions-at.is)

pub returns-in-Err : goal.returns-in-Err
returns-in-Err g c =
    Wrote-failed _ _ _ _ _ _ _ _ (Wrote-then _ _ _ _ _ _ _ _ _ _ c.loop-at.invariant c.in-Err.ensures refl)
    (sessions_text-at _ _ _ c.loop-at-test.true c.index-sessions-at.is)
