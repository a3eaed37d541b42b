use Rattle.std.proofs.Common.{ap, ◌∙◌}
use Rattle.ff_flash.specs.Injected.{stop_of}
use Rattle.ff_device.specs.Device.{DeviceView}
use Rattle.ff_device.specs.WorkRows.{stop_of_work}
use Rattle.ff_device.proofs.Collecting.{collecting_sound, stop_same}
use Rattle.ff_device.proofs.device.Device.collect.Goals as goal

pub invariant_of-self : goal.invariant_of-self
invariant_of-self g c =
    let old : DeviceView = record { store = c.self.inside.store; cache = c.self.inside.cache; window = c.self.inside.window } in
    let on = ap (λ (d : DeviceView). d.store.world.flash.on) c.self.view_is ∙ c.requires.on in
    let idle = ap (λ (d : DeviceView). d.store.waits) c.self.view_is ∙ c.requires.idle in
    collecting_sound old c.collect_step.new.self (stop_of c.collect_step.result) c.collect_step.result c.self.invariant idle
    (c.collect_step.ensures.step on)
    (record { with_power = c.collect_step.ensures.call; without_power = λ down. (c.collect_step.ensures.off down).1 })
    c.collect_step.ensures.same

pub returns-clause-calls : goal.returns-clause-calls
returns-clause-calls g c =
    rw (← c.self.view_is, ap stop_of_work c.answer.ensures ∙ stop_same c.collect_step.result)
    (record { with_power = c.collect_step.ensures.call; without_power = λ down. (c.collect_step.ensures.off down).1 })
