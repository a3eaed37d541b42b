use Rattle.std.proofs.Common.{◌≤◌, ◌-◌}
use Rattle.std.specs.Prelude.{replicate}
use Rattle.ff_sessions.specs.Items.{turn}
use Rattle.ff_sessions.specs.Making.{HasDone}
use Rattle.ff_sessions.proofs.rows.make_turns.Given as goal

-- the turns of the row up to this one were made
abbrev pub invariant-loop-turn : goal.invariant-loop-turn
invariant-loop-turn g l = record {
  done : HasDone l.fn.core l.core l.numbers (replicate (l.turn - l.made) (turn l.kind));
  within : l.turn - l.made ≤ l.count - l.made;
}
