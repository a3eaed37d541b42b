use Rattle.std.proofs.Common.{take, Ok}
use Rattle.ff_report.specs.Wrote.{Wrote}
use Rattle.flatflash.specs.Ending.{summaries_text}
use Rattle.flatflash.proofs.tell.write_summaries.Given as goal

-- the summaries of the sessions so far are written
abbrev pub invariant-loop-session : goal.invariant-loop-session
invariant-loop-session g l =
    Wrote (Ok tt) (g.K.Sink.written l.fn.sink) (g.K.Sink.written l.sink)
    (g.K.Sink.faults l.fn.sink) (g.K.Sink.faults l.sink)
    (summaries_text l.number (take l.session-index l.sessions))
