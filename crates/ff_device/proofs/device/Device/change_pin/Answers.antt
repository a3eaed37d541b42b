use Rattle.std.proofs.Common.{refl}
use Rattle.ff_device.specs.Parts.{Parts}
use Rattle.ff_device.specs.StoreState.{seen_of}
use Rattle.ff_cache.specs.Slots.{slot_pinned}
use Rattle.ff_device.specs.Device.{DeviceView}
use Rattle.ff_device.proofs.Frames.{own_kept}
use Rattle.ff_device.proofs.Pinning.{pinning_lines, pinning_sound, Pinning}
use Rattle.ff_device.proofs.device.Device.change_pin.Goals as goal

pub invariant_of-self : goal.invariant_of-self
invariant_of-self g c =
    let old : Parts = record { store = seen_of c.self.inside.store; cache = c.self.inside.cache; window = c.self.inside.window } in
    let new : Parts = record { store = seen_of c.self.inside.store; cache = c.set_pin.new.cache; window = c.self.inside.window } in
    let pinning : Pinning c.args.page.0 c.args.on old new =
    record { sound = c.self.invariant; cache = c.known.ensures; pins = c.set_pin.ensures; store = refl; window = refl } in
    pinning_sound c.args.page.0 c.args.on old new pinning

pub returns-clause-pinned : goal.returns-clause-pinned
returns-clause-pinned g c =
    let old : Parts = record { store = seen_of c.self.inside.store; cache = c.self.inside.cache; window = c.self.inside.window } in
    let new : Parts = record { store = seen_of c.self.inside.store; cache = c.set_pin.new.cache; window = c.self.inside.window } in
    let pinning : Pinning c.args.page.0 c.args.on old new =
    record { sound = c.self.invariant; cache = c.known.ensures; pins = c.set_pin.ensures; store = refl; window = refl } in
    rw (← c.self.view_is) (pinning_lines c.args.page.0 c.args.on old new pinning)

pub returns-clause-own : goal.returns-clause-own
returns-clause-own g c =
    let old : DeviceView = record { store = c.self.inside.store; cache = c.self.inside.cache; window = c.self.inside.window } in
    let new : DeviceView = record { store = c.self.inside.store; cache = c.set_pin.new.cache; window = c.self.inside.window } in
    rw (← c.self.view_is) (own_kept c.args.page.0 (slot_pinned c.args.on) old new c.set_pin.ensures (λ slot. refl) refl refl)
