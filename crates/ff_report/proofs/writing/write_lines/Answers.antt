use Rattle.std.proofs.Common.{refl}
use Rattle.ff_report.proofs.InOrder.{Wrote-stopped}
use Rattle.ff_report.proofs.writing.write_lines.Goals as goal

pub returns-in-Err : goal.returns-in-Err
returns-in-Err g c =
    Wrote-stopped _ (λ line. line) _ _ _ _ _ _ _ _ _ _ c.loop-line.invariant c.in-Err.ensures refl c.loop-line-test.true c.line-item.is
