use Rattle.std.proofs.Common.{take, Ok}
use Rattle.std.specs.Prelude.{flat_map}
use Rattle.ff_report.specs.ImageText.{line_numbers, line_text}
use Rattle.ff_report.specs.Wrote.{Wrote}
use Rattle.ff_report.proofs.image.write_held.Given as goal

abbrev pub invariant-loop-line : goal.invariant-loop-line
invariant-loop-line g l =
    Wrote (Ok tt) (g.K.Sink.written l.initial.sink) (g.K.Sink.written l.sink)
    (g.K.Sink.faults l.initial.sink) (g.K.Sink.faults l.sink) (flat_map (line_text l.fn.page l.bytes) (take l.line line_numbers))
