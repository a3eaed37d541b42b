use Rattle.ff_core.proofs.ResumeDevice.{resumed_begins}
use Rattle.ff_core.proofs.resume.made.make_device.Goals as goal

pub over-requires : goal.over-requires
over-requires g c =
    resumed_begins c.args.geometry.now _ _ _ c.requires.limits c.known.ensures.store c.known.ensures.map c.requires.over
    c.requires.none c.requires.window
