use Rattle.std.proofs.Common.{refl, ◌∙◌, true}
use Rattle.ff_frames.specs.Frame.{referred_frame}
use Rattle.ff_memory.proofs.FrameTwice.{frame-twice}
use Rattle.ff_memory.proofs.memory.Memory.write_frame.Goals as goal

pub returns-clause-memory : goal.returns-clause-memory
returns-clause-memory c =
    let within = rw (← c.self.view_is) at c.requires.frame in
    let frames = rw c.write.ensures at c.refer.ensures in
    let once = frames ∙ frame-twice c.self.inside.frames c.args.frame _ (referred_frame true) within in
    rw (← c.self.view_is, once, c.bear.ensures) refl
