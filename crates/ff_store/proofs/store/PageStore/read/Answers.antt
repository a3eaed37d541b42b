use Rattle.std.proofs.Common.{ap, ◌∙◌, arith}
use Rattle.ff_store.proofs.Basics.{read_sound, reads_same}
use Rattle.ff_store.specs.PageStore.{PageStoreView}
use Rattle.ff_store.proofs.store.PageStore.read.Goals as goal

pub invariant_of-self : goal.invariant_of-self
invariant_of-self g c =
    let on = ap (λ (s : PageStoreView). s.world.flash.on) c.self.view_is ∙ c.requires.on in
    record {
      sound = read_sound _ (g.F.Flash.state c.read.new.self) c.begin.new.self _ c.self.invariant.sound on
          (reads_same _ _ _ _ _ _ c.read.ensures.cells)
          c.read.ensures.counts (rw c.begin.ensures (omega arith));
      per_block_is = c.self.invariant.per_block_is;
    }
