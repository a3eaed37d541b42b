use Rattle.ff_report.specs.EntryText.{entry_line}
use Rattle.ff_report.proofs.InOrder.{Wrote-stopped}
use Rattle.ff_report.proofs.calls.write_entries.Goals as goal

pub returns-in-Err : goal.returns-in-Err
returns-in-Err g c =
    Wrote-stopped _ entry_line _ _ _ _ _ _ _ _ _ _ c.loop-entry.invariant c.in-Err.ensures c.entry_line_of.ensures
    c.loop-entry-test.true c.entry-item.is
