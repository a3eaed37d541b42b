use Rattle.ff_device.specs.Device.{DeviceView}
use Rattle.ff_device.proofs.Stopping.{powered_off_sound}
use Rattle.ff_device.proofs.device.Device.power_off.Goals as goal

pub invariant_of-self : goal.invariant_of-self
invariant_of-self g c =
    let old : DeviceView = record { store = c.self.inside.store; cache = c.self.inside.cache; window = c.self.inside.window } in
    rw c.power_off.ensures (powered_off_sound old c.self.invariant)
