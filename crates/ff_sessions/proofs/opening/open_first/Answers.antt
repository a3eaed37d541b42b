use Rattle.ff_sessions.proofs.Opened.{first_room}
use Rattle.ff_sessions.proofs.opening.open_first.Goals as goal

pub returns-in-Ok-clause-room : goal.returns-in-Ok-clause-room
returns-in-Ok-clause-room g c =
    first_room c.args.geometry c.in_ok-flash.flash c.args.tuner c.args.picker c.room_for-room.result c.in-Ok.core
    c.args.rows.now c.room_for-room.ensures.calls c.room_for-room.ensures.turns c.in-Ok.ensures
