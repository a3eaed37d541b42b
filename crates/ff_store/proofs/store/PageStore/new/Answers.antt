use Rattle.std.proofs.Common.{refl}
use Rattle.ff_store.proofs.Fresh.{new_sound}
use Rattle.ff_store.proofs.store.PageStore.new.Goals as goal

pub invariant_of-result : goal.invariant_of-result
invariant_of-result g c =
    let parts = c.in-Ok.ensures in
    rw (parts.collector, parts.table, parts.places, c.new.ensures, c.operation_count-opened.ensures) record {
      sound = new_sound (g.F.Flash.state c.args.flash) c.args.geometry.now c.requires.geometry c.requires.blocks
          c.requires.per_block c.requires.cells;
      per_block_is = refl;
    }
