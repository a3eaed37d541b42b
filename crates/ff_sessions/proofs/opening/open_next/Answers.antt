use Rattle.ff_sessions.proofs.Opened.{next_begun, next_room}
use Rattle.ff_sessions.proofs.opening.open_next.Goals as goal

pub returns-in-Ok-clause-room : goal.returns-in-Ok-clause-room
returns-in-Ok-clause-room g c =
    next_room c.args.geometry.now c.args.mounted.store c.args.mounted.cache c.args.mounted.marks c.args.base.now c.args.tuner
    c.args.picker c.room_for-room.result c.args.event c.in-Ok.core c.args.rows.now c.room_for-room.ensures.calls
    c.room_for-room.ensures.turns c.in-Ok.ensures

pub returns-in-Ok-clause-begun : goal.returns-in-Ok-clause-begun
returns-in-Ok-clause-begun g c =
    next_begun c.args.geometry.now c.args.mounted.store c.args.mounted.cache c.args.mounted.marks c.args.base.now c.args.tuner
    c.args.picker c.room_for-room.result c.args.event c.in-Ok.core c.requires.geometry c.requires.parts
    c.parts_known.ensures.store c.parts_known.ensures.flash c.in-Ok.ensures
