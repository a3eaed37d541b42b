use Rattle.ff_device.specs.Parts.{Parts}
use Rattle.ff_device.specs.StoreState.{seen_of}
use Rattle.ff_device.proofs.Lines.{posted_sound}
use Rattle.ff_device.proofs.device.Device.put_last.Goals as goal

pub invariant_of-self : goal.invariant_of-self
invariant_of-self g c =
    let old : Parts = record { store = seen_of c.self.inside.store; cache = c.self.inside.cache; window = c.self.inside.window } in
    let resident = rw (← c.self.view_is) at c.requires.resident in
    let room = rw (← c.self.view_is) at c.requires.room in
    rw c.post.ensures (posted_sound c.args.post old c.self.invariant c.requires.post resident room)
