use Rattle.std.proofs.Common.{subst}
use Rattle.ff_store.specs.PageStore.{PageStoreView}
use Rattle.ff_store.specs.Recoverable.{IsRecoverable}
use Rattle.ff_core.proofs.PoweredDown.{powered_down}
use Rattle.ff_core.proofs.hierarchy.losing.power_down.Goals as goal

pub returns-clause-down : goal.returns-clause-down
returns-clause-down g c =
    powered_down c.args.arrive c.args.device.now c.arrive-lost.new.self c.power_off.new.self c.arrive-lost.ensures.posts
    c.arrive-lost.ensures.below c.arrive-lost.ensures.own c.power_off.ensures c.known.ensures.device c.known.ensures.store
    (subst (λ (s : PageStoreView). IsRecoverable s) c.store.ensures c.known-2.ensures.recoverable) c.known.ensures.cache
