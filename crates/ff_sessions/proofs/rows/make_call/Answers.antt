use Rattle.std.proofs.Common.{refl}
use Rattle.ff_sessions.proofs.Called.{cut_call, went_call}
use Rattle.ff_sessions.proofs.rows.make_call.Goals as goal

pub returns-in-Served : goal.returns-in-Served
returns-in-Served g c =
    went_call c.args.core.now c.args.numbers.now c.args.caller _ c.args.op.now c.in-Served.field-0 c.drive.new.self c.known.ensures
    c.requires.opened c.requires.caller refl c.requires.room c.in-Served.ensures.driven

pub returns-in-Off : goal.returns-in-Off
returns-in-Off g c =
    cut_call c.args.core.now c.args.numbers.now c.args.caller _ c.args.op.now c.drive.new.self c.known.ensures c.requires.opened
    c.in-Off.ensures.driven c.in-Off.ensures.power
