use Rattle.std.proofs.Common.{subst}
use Rattle.ff_cache.specs.Cache.{IsEmptyWay}
use Rattle.ff_device.specs.Device.{DeviceView}
use Rattle.ff_device.specs.WorkRows.{fills}
use Rattle.ff_device.proofs.device.Device.fill.Goals as goal

pub returns-in-Some-clause-row : goal.returns-in-Some-clause-row
returns-in-Some-clause-row g c =
    let least = subst (λ (d : DeviceView). IsEmptyWay d.cache c.args.page.0 c.in-Some.slot) c.self.view_is c.in-Some.ensures.least in
    fills c.requires.idle c.in-Some.slot least c.fetch_into.ensures.row
