use Rattle.std.proofs.Common.{ap, sym, ◌∙◌}
use Rattle.ff_store.proofs.Basics.{collected_sound}
use Rattle.ff_store.specs.PageStore.{PageStoreView}
use Rattle.ff_store.proofs.store.PageStore.collect.Goals as goal

pub invariant_of-self : goal.invariant_of-self
invariant_of-self g c =
    let on = ap (λ (s : PageStoreView). s.world.flash.on) c.self.view_is ∙ c.requires.on in
    let none = ap (λ (s : PageStoreView). s.waits) c.self.view_is ∙ c.requires.none in
    let keeps = c.step-result.ensures.kept on in
    rw (c.both-self-inside.ensures, c.busy.ensures) record {
      sound = collected_sound _ _ _ _ c.self.invariant.sound on none keeps (c.step-result.ensures.step on);
      per_block_is = c.self.invariant.per_block_is ∙ sym keeps.same.per_block;
    }
