use Rattle.std.proofs.Common.{ap, length}
use Rattle.std.specs.Prelude.{◌==◌}
use Rattle.ff_device.specs.Device.{lines_of, parts_of}
use Rattle.ff_device.proofs.Posting.{put_posted}
use Rattle.ff_device.proofs.device.Device.put.Goals as goal

pub returns-clause-posted : goal.returns-clause-posted
returns-clause-posted g c =
    put_posted (length c.args.self.now.window.posts == c.args.self.now.window.room) c.args.post (lines_of (parts_of c.args.self.now))
    (parts_of c.make_room.new.self) (parts_of c.touch.new.self) (parts_of c.put_last.new.self)
    c.touch.new.self.cache.values c.make_room.ensures.drained
    (ap (λ d. parts_of d) c.touch.ensures.same) (ap (λ d. parts_of d) c.put_last.ensures)
