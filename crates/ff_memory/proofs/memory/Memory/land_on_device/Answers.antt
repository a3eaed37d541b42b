use Rattle.std.proofs.Common.{◌≡◌, Some, refl, subst, sym}
use Rattle.ff_memory.specs.Memory.{MemoryView}
use Rattle.ff_plb.specs.Plb.{slot_at}
use Rattle.ff_memory.proofs.memory.Memory.land_on_device.Goals as goal

pub returns-clause-step : goal.returns-clause-step
returns-clause-step g c =
    let there = subst (λ (m : MemoryView). slot_at m.slots c.args.slot ≡ Some c.args.entry.now) (sym c.self.view_is) c.requires.ready.has.there in
    record {
      memory = rw (← c.self.view_is, c.clean.ensures, c.land.ensures.slots, there) refl;
      device = rw c.from_slice-piece.ensures at c.post.ensures.posted;
    }
