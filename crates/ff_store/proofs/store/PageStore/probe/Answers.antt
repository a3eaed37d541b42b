-- Probes leave the cells as they were.
use Rattle.std.proofs.Common.{sym, subst}
use Rattle.ff_flash.specs.FlashState.{FlashState}
use Rattle.ff_store.proofs.Remounting.{remountable_later}
use Rattle.ff_store.specs.Remounted.{IsRemountable}
use Rattle.ff_store.proofs.store.PageStore.probe.Goals as goal

pub settle-requires-clause-sound : goal.settle-requires-clause-sound
settle-requires-clause-sound g c =
    subst (λ (f : FlashState). IsRemountable c.args.geometry.now f) (sym c.in-Ok.ensures.flash)
    (remountable_later c.args.geometry.now (g.F.Flash.state c.args.flash) _ c.requires.sound)
