use Rattle.std.proofs.Common.{◌≡◌, ◌<◌, ℕ, subst, sym}
use Rattle.ff_device.specs.Device.{parts_of, DeviceView}
use Rattle.ff_device.specs.Steps.{may_go_at}
use Rattle.ff_rrip.specs.Ways.{is_allowed}
use Rattle.ff_device.specs.Parts.{Parts}
use Rattle.ff_device.specs.StoreState.{seen_of}
use Rattle.ff_device.proofs.Choices.{choose_told}
use Rattle.ff_device.proofs.Touching.{sound_values}
use Rattle.ff_device.proofs.device.Device.choose.Goals as goal

pub invariant_of-self : goal.invariant_of-self
invariant_of-self g c =
    let old : Parts = record { store = seen_of c.self.inside.store; cache = c.self.inside.cache; window = c.self.inside.window } in
    rw c.choose_way.ensures.same (sound_values old _ c.self.invariant)

pub returns-clause-told : goal.returns-clause-told
returns-clause-told g c =
    let old : Parts = record { store = seen_of c.self.inside.store; cache = c.self.inside.cache; window = c.self.inside.window } in
    let ways = subst (λ (d : DeviceView). (way : ℕ) → way < d.cache.ways
    → is_allowed c.allowed-allowed.result way ≡ may_go_at (parts_of d) c.args.page.0 way) (sym c.self.view_is) c.allowed-allowed.ensures in
    rw (← c.self.view_is)
    (choose_told old c.args.page.0 c.allowed-allowed.result c.choose_way.new.cache c.choose_way.result c.known.ensures
    ways c.choose_way.ensures.same c.choose_way.ensures.told)
