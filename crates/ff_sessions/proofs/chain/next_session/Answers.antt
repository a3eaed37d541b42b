use Rattle.ff_core.specs.Account.{start_of}
use Rattle.ff_sessions.specs.Begun.{setup_in}
use Rattle.ff_sessions.proofs.Runs.{ok_step}
use Rattle.ff_sessions.proofs.Steps.{parts_of}
use Rattle.ff_sessions.proofs.chain.next_session.Goals as goal

pub run_session-lost-requires-clause-callers : goal.run_session-lost-requires-clause-callers
run_session-lost-requires-clause-callers g c = c.requires.callers

pub run_session-lost-requires-clause-cursor : goal.run_session-lost-requires-clause-cursor
run_session-lost-requires-clause-cursor g c = c.requires.may_run.cursor

pub run_session-lost-requires-clause-begun : goal.run_session-lost-requires-clause-begun
run_session-lost-requires-clause-begun g c = c.requires.may_run.begun

pub run_session-lost-requires-clause-room : goal.run_session-lost-requires-clause-room
run_session-lost-requires-clause-room g c = c.requires.may_run.room

pub close-requires-clause-geometry : goal.close-requires-clause-geometry
close-requires-clause-geometry g c = rw c.requires.geometry c.requires.may_run.begun.limits

pub go_on-requires-clause-geometry : goal.go_on-requires-clause-geometry
go_on-requires-clause-geometry g c = rw c.requires.geometry c.requires.may_run.begun.limits

pub go_on-requires-clause-within : goal.go_on-requires-clause-within
go_on-requires-clause-within g c = c.run_session-lost.ensures.within

pub go_on-requires-clause-few : goal.go_on-requires-clause-few
go_on-requires-clause-few g c = c.requires.few

pub go_on-requires-clause-turns : goal.go_on-requires-clause-turns
go_on-requires-clause-turns g c = c.requires.turns

pub go_on-requires-clause-parts : goal.go_on-requires-clause-parts
go_on-requires-clause-parts g c =
    let core = c.args.running.core in
    parts_of (setup_in core) (start_of core) c.args.rows.now c.args.running.at c.run_session-lost.result.stop
    c.run_session-lost.result.lost c.args.geometry.now c.in-Ok.closed c.run_session-lost.ensures c.in-Ok.ensures

pub returns-in-Ok : goal.returns-in-Ok
returns-in-Ok g c =
    ok_step c.args.rows.now c.args.running c.args.geometry.now c.run_session-lost.result.stop c.run_session-lost.result.lost
    c.in-Ok.closed c.go_on.result c.requires.geometry c.requires.may_run c.run_session-lost.ensures c.in-Ok.ensures
    c.go_on.ensures
