use Rattle.std.proofs.Common.{ap, subst, ◌∙◌}
use Rattle.ff_cache.specs.Cache.{IsCacheSound}
use Rattle.ff_store.specs.PageStore.{PageStoreView}
use Rattle.ff_device.specs.Device.{parts_of, DeviceView}
use Rattle.ff_device.specs.Parts.{IsDeviceSound}
use Rattle.ff_device.specs.StoreSteps.{CallsOnce}
use Rattle.ff_device.specs.WorkRows.{no_way, NoWayRow, stop_of_work}
use Rattle.ff_device.proofs.Working.{chosen_goes, chosen_place, raised_step, unraised}
use Rattle.ff_device.proofs.device.Device.replace.Goals as goal

pub returns-in-Some-clause-row : goal.returns-in-Some-clause-row
returns-in-Some-clause-row g c =
    raised_step c.args.page.0 c.in-Some.slot c.clear.result (parts_of c.args.self.now) (parts_of c.choose.new.self)
    (parts_of c.clear.new.self) c.requires.idle c.requires.full c.in-Some.ensures.told c.clear.ensures.flushes c.clear.ensures.fetches

pub clear-requires-clause-page : goal.clear-requires-clause-page
clear-requires-clause-page g c = rw c.in-Some.ensures.same c.requires.page

pub clear-requires-clause-used : goal.clear-requires-clause-used
clear-requires-clause-used g c = rw c.in-Some.ensures.same c.requires.used

pub clear-requires-clause-idle : goal.clear-requires-clause-idle
clear-requires-clause-idle g c = rw c.in-Some.ensures.same c.requires.idle

pub clear-requires-clause-absent : goal.clear-requires-clause-absent
clear-requires-clause-absent g c = rw c.in-Some.ensures.same c.requires.absent

pub clear-requires-clause-in_set : goal.clear-requires-clause-in_set
clear-requires-clause-in_set g c =
    chosen_place c.args.page.0 c.in-Some.slot (parts_of c.args.self.now) (parts_of c.choose.new.self)
    (subst (λ (d : DeviceView). IsDeviceSound (parts_of d)) c.self.view_is c.self.invariant)
    (subst (λ (d : DeviceView). IsCacheSound d.cache) c.self.view_is c.known.ensures) c.in-Some.ensures.told

pub clear-requires-clause-goes : goal.clear-requires-clause-goes
clear-requires-clause-goes g c =
    chosen_goes c.args.page.0 c.in-Some.slot (parts_of c.args.self.now) (parts_of c.choose.new.self)
    (subst (λ (d : DeviceView). IsDeviceSound (parts_of d)) c.self.view_is c.self.invariant)
    (subst (λ (d : DeviceView). IsCacheSound d.cache) c.self.view_is c.known.ensures) c.in-Some.ensures.told

pub make_way-requires : goal.make_way-requires
make_way-requires g c = record { full = rw c.in-None.ensures.kept c.requires.full }

pub returns-in-Some-clause-calls : goal.returns-in-Some-clause-calls
returns-in-Some-clause-calls g c =
    subst (λ (s : PageStoreView). CallsOnce s (stop_of_work c.clear.result) c.clear.new.self.store)
    (ap (λ (d : DeviceView). d.store) c.in-Some.ensures.same) c.clear.ensures.calls

pub returns-in-Some-clause-idle : goal.returns-in-Some-clause-idle
returns-in-Some-clause-idle g c = λ idle. absurd (c.clear.ensures.busy idle)

pub returns-in-None-clause-row : goal.returns-in-None-clause-row
returns-in-None-clause-row g c =
    let mid = unraised c.args.self.now c.choose.new.self c.in-None.ensures.same c.in-None.ensures.kept in
    no_way c.requires.idle c.requires.full c.in-None.ensures.told
    (subst (λ (d : DeviceView). NoWayRow c.args.page.0 c.make_way.result (parts_of d) (parts_of c.make_way.new.self)) mid c.make_way.ensures.row)

pub returns-in-None-clause-calls : goal.returns-in-None-clause-calls
returns-in-None-clause-calls g c =
    subst (λ (s : PageStoreView). CallsOnce s (stop_of_work c.make_way.result) c.make_way.new.self.store)
    (ap (λ (d : DeviceView). d.store) c.in-None.ensures.same) c.make_way.ensures.calls

pub returns-in-None-clause-idle : goal.returns-in-None-clause-idle
returns-in-None-clause-idle g c = λ idle.
    c.make_way.ensures.idle idle ∙ unraised c.args.self.now c.choose.new.self c.in-None.ensures.same c.in-None.ensures.kept
