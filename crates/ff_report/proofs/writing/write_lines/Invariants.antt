use Rattle.std.proofs.Common.{take, Ok}
use Rattle.ff_report.specs.Text.{lines_text}
use Rattle.ff_report.specs.Wrote.{Wrote}
use Rattle.ff_report.proofs.writing.write_lines.Given as goal

abbrev pub invariant-loop-line : goal.invariant-loop-line
invariant-loop-line g l =
    Wrote (Ok tt) (g.K.Sink.written l.initial.sink) (g.K.Sink.written l.sink)
    (g.K.Sink.faults l.initial.sink) (g.K.Sink.faults l.sink) (lines_text (take l.line-index l.lines))
