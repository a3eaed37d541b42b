use Rattle.std.proofs.Common.{refl}
use Rattle.flatflash.specs.Ending.{told_parts}
use Rattle.ff_report.specs.Text.{summary_text}
use Rattle.ff_sessions.specs.declared.session.Session.{Session}
use Rattle.ff_report.proofs.InOrder.{Wrote-stopped}
use Rattle.flatflash.proofs.tell.write_summaries.Goals as goal

pub returns-in-Err : goal.returns-in-Err
returns-in-Err g c =
    Wrote-stopped _ (λ (session : Session). summary_text c.args.number (told_parts session)) _ _ _ _ _ _ _ _ _ _ c.loop-session.invariant c.in-Err.ensures refl
    c.loop-session-test.true c.session-item.is
