use Rattle.ff_flash.specs.Plans.{planned_of}
use Rattle.ff_sessions.specs.Sessions.{setup_with}
use Rattle.ff_sessions.proofs.Runs.{own_first}
use Rattle.ff_sessions.proofs.chain.run.Goals as goal

pub run_all-requires-clause-under_way : goal.run_all-requires-clause-under_way
run_all-requires-clause-under_way g c =
    own_first (setup_with c.args.geometry (planned_of c.args.plan) c.args.tuner.floor) c.args.rows.now c.in_ok-core.core
    c.in_ok-core.ensures.begun c.in_ok-core.ensures.room c.requires.rows
