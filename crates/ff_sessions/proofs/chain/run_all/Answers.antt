use Rattle.std.proofs.Common.{length, ap}
use Rattle.ff_sessions.specs.Begun.{setup_in}
use Rattle.ff_sessions.proofs.Runs.{count_more, may_step, runs_on, runs_out}
use Rattle.ff_sessions.proofs.chain.run_all.Goals as goal

pub loop-init : goal.loop-init
loop-init g c =
    let none = c.requires.none in
    record {
      running = rw none c.requires.under_way;
      count = ap length none;
    }

pub next_session-requires-clause-may_run : goal.next_session-requires-clause-may_run
next_session-requires-clause-may_run g c =
    may_step (setup_in c.args.first.core) c.args.rows.now c.loop.sessions.items c.loop.running c.loop.invariant.running

pub returns-in_default-clause-sessions : goal.returns-in_default-clause-sessions
returns-in_default-clause-sessions g c =
    rw c.in-Ok-push.ensures.items (runs_out (setup_in c.args.first.core) c.args.rows.now
    c.loop.sessions.items c.loop.running c.in-Ok.step c.loop.invariant.running c.in-Ok.ensures c.in_default.is)

pub loop-preserved : goal.loop-preserved
loop-preserved g c =
    let pushed = c.in-Ok-push.ensures.items in
    record {
      running = rw pushed (runs_on (setup_in c.args.first.core) c.args.rows.now
          c.loop.sessions.items c.loop.running c.in-Ok.step c.in-Some.later c.loop.invariant.running c.in-Ok.ensures
          c.in-Some.is);
      count = count_more c.loop.sessions.items c.push.new.self.items c.in-Ok.step.session c.loop.counter pushed
          c.loop.invariant.count;
    }
