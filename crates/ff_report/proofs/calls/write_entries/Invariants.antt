use Rattle.std.proofs.Common.{take, Ok}
use Rattle.ff_report.specs.EntryText.{entries_text}
use Rattle.ff_report.specs.Wrote.{Wrote}
use Rattle.ff_report.proofs.calls.write_entries.Given as goal

abbrev pub invariant-loop-entry : goal.invariant-loop-entry
invariant-loop-entry g l =
    Wrote (Ok tt) (g.K.Sink.written l.initial.sink) (g.K.Sink.written l.sink)
    (g.K.Sink.faults l.initial.sink) (g.K.Sink.faults l.sink) (entries_text (take l.entry-index l.entries))
