use Rattle.std.proofs.Common.{◌≡◌, length}
use Rattle.ff_sessions.specs.Begun.{setup_in}
use Rattle.ff_sessions.specs.Following.{IsUnderWay}
use Rattle.ff_sessions.proofs.chain.run_all.Given as goal

-- so many sessions are over, and the next one is open
abbrev pub invariant-loop : goal.invariant-loop
invariant-loop g l = record {
  running : IsUnderWay (setup_in l.fn.first.core) l.rows l.sessions.items l.running;
  count : length l.sessions.items ≡ l.counter;
}
