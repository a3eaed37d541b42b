use Rattle.std.proofs.Common.{◌≡◌, take}
use Rattle.ff_trace.specs.Within.{turns_asked}
use Rattle.ff_sessions.proofs.opening.turns_asked.Given as goal

-- the turns of the rows so far are counted
abbrev pub invariant-loop-row : goal.invariant-loop-row
invariant-loop-row l = l.turns ≡ turns_asked (take l.row-index l.rows)
