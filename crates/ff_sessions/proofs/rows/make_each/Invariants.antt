use Rattle.ff_sessions.proofs.StoppedRows.{HasCome}
use Rattle.ff_sessions.proofs.rows.make_each.Given as goal

-- the rows up to this one were made
abbrev pub invariant-loop-row : goal.invariant-loop-row
invariant-loop-row g l = HasCome l.fn.core l.rows l.fn.at l.core l.numbers l.row l.made
