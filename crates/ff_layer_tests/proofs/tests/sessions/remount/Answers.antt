-- The image of mounted parts is what the battery and the flash held.
use Rattle.ff_sessions.proofs.Remounting.{imaged}
use Rattle.ff_layer_tests.proofs.tests.sessions.remount.Goals as goal

pub returns-in-Ok-image_of : goal.returns-in-Ok-image_of
returns-in-Ok-image_of c =
    imaged c.args.geometry.now c.args.nv c.args.flash c.in-Ok.mounted c.image_of.new.mounted
    c.in-Ok-image_of.image c.requires.geometry c.requires.life c.requires.sound c.in-Ok.ensures.mounted c.in-Ok.ensures.planned
    c.in-Ok-image_of.ensures.image c.in-Ok-image_of.ensures.reads c.in-Ok-image_of.ensures.planned
    c.in-Ok-image_of.ensures.kept
