use Rattle.ff_flash.specs.Plans.{planned_of}
use Rattle.ff_flash.specs.SimFlash.{fresh_flash}
use Rattle.ff_device.proofs.Rooms.{fresh_begins}
use Rattle.ff_layer_tests.proofs.tests.devices.rig.fresh_device.Goals as goal

pub new-requires : goal.new-requires
new-requires c =
    let g = c.args.geometry.now in
    rw (c.in_ok-store.ensures, c.in-Ok.ensures.cache, c.in-Ok.ensures.window)
    (fresh_begins (fresh_flash g (planned_of c.args.plan)) g c.requires.limits)
