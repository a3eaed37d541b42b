use Rattle.std.proofs.Common.{Ok, take}
use Rattle.ff_report.specs.Wrote.{Wrote}
use Rattle.flatflash.specs.Ending.{sessions_text}
use Rattle.flatflash.proofs.tell.write_sessions.Given as goal

-- the texts of the sessions so far are written
abbrev pub invariant-loop-at : goal.invariant-loop-at
invariant-loop-at g l =
    Wrote (Ok tt) (g.K.Sink.written l.fn.sink) (g.K.Sink.written l.sink)
    (g.K.Sink.faults l.fn.sink) (g.K.Sink.faults l.sink) (sessions_text 0 (take l.at l.sessions))
