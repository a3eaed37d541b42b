use Rattle.ff_device.specs.Parts.{Parts}
use Rattle.ff_device.specs.StoreState.{seen_of}
use Rattle.ff_device.proofs.Touching.{sound_values}
use Rattle.ff_device.proofs.device.Device.read_cached.Goals as goal

pub invariant_of-self : goal.invariant_of-self
invariant_of-self g c =
    let old : Parts = record { store = seen_of c.self.inside.store; cache = c.self.inside.cache; window = c.self.inside.window } in
    rw c.use_again.ensures (sound_values old _ c.self.invariant)
