use Rattle.ff_device.specs.Parts.{Parts}
use Rattle.ff_device.specs.StoreState.{seen_of}
use Rattle.ff_device.proofs.Arriving.{emptied_sound}
use Rattle.ff_device.proofs.device.Device.lose_window.Goals as goal

pub invariant_of-self : goal.invariant_of-self
invariant_of-self g c =
    let old : Parts = record { store = seen_of c.self.inside.store; cache = c.self.inside.cache; window = c.self.inside.window } in
    emptied_sound old c.lose.new.window c.self.invariant c.lose.ensures.posts c.lose.ensures.room
