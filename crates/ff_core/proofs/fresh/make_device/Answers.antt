use Rattle.ff_core.proofs.Beginning.{fresh_begins}
use Rattle.ff_core.proofs.fresh.make_device.Goals as goal

pub over-requires : goal.over-requires
over-requires g c =
    fresh_begins _ c.args.geometry.now _ _ _ c.requires.limits c.in_ok-store.ensures c.in-Ok.ensures.cache c.in-Ok.ensures.window
