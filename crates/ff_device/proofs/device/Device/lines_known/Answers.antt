use Rattle.ff_device.specs.Parts.{Parts}
use Rattle.ff_device.specs.StoreState.{seen_of}
use Rattle.ff_device.proofs.Lines.{lines_device}
use Rattle.ff_device.proofs.device.Device.lines_known.Goals as goal

pub returns : goal.returns
returns g c =
    let old : Parts = record { store = seen_of c.self.inside.store; cache = c.self.inside.cache; window = c.self.inside.window } in
    rw (← c.self.view_is) (lines_device old c.self.invariant c.store_known.ensures.seen c.len.ensures.sound.few)
