use Rattle.std.proofs.Common.{subst}
use Rattle.ff_memory.specs.Memory.{MemoryView}
use Rattle.ff_plb.specs.Plb.{HasEntry}
use Rattle.ff_memory.proofs.memory.Memory.store_in_flight.Goals as goal

pub write_in_flight-requires-clause-ready : goal.write_in_flight-requires-clause-ready
write_in_flight-requires-clause-ready g c =
    c.requires.ready c.entry-entry.result
    (subst (λ (m : MemoryView). HasEntry m.slots c.args.slot c.entry-entry.result) c.self.view_is c.entry-entry.ensures)
