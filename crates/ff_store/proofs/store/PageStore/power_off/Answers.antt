use Rattle.ff_store.proofs.Basics.{off_sound}
use Rattle.ff_store.proofs.store.PageStore.power_off.Goals as goal

pub invariant_of-self : goal.invariant_of-self
invariant_of-self g c = rw c.power_off.ensures record {
  sound = off_sound _ c.self.invariant.sound;
  per_block_is = c.self.invariant.per_block_is;
}
