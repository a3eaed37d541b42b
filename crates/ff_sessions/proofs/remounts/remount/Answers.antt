use Rattle.ff_sessions.proofs.Remounting.{image_stopped, imaged, mount_stopped}
use Rattle.ff_sessions.proofs.remounts.remount.Goals as goal

pub returns-in-Ok-image_of-clause-ok : goal.returns-in-Ok-image_of-clause-ok
returns-in-Ok-image_of-clause-ok g c =
    imaged c.args.geometry.now c.args.nv (g.F.Flash.state c.args.flash) c.in-Ok.mounted c.image_of.new.mounted
    c.in-Ok-image_of.image c.requires.geometry c.requires.life c.requires.sound c.in-Ok.ensures.mounted c.in-Ok.ensures.planned
    c.in-Ok-image_of.ensures.image c.in-Ok-image_of.ensures.reads c.in-Ok-image_of.ensures.planned
    c.in-Ok-image_of.ensures.kept

pub returns-in-Err-image_of-clause-err : goal.returns-in-Err-image_of-clause-err
returns-in-Err-image_of-clause-err g c =
    image_stopped c.args.geometry.now c.args.nv (g.F.Flash.state c.args.flash) c.in-Ok.mounted.store c.in-Ok.mounted.cache
    c.in-Ok.mounted.marks c.in-Err-image_of.stop c.in-Ok.ensures.mounted c.in-Ok.ensures.planned
    c.in-Err-image_of.ensures.planned

pub returns-in-Err-clause-err : goal.returns-in-Err-clause-err
returns-in-Err-clause-err g c =
    mount_stopped c.args.geometry.now c.args.nv (g.F.Flash.state c.args.flash) c.in-Err.back.stop c.stop_of.result
    c.in-Err.ensures.planned c.stop_of.ensures
