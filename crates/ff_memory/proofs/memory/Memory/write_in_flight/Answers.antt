use Rattle.std.proofs.Common.{◌∙◌}
use Rattle.ff_memory.proofs.FrameTwice.{stored-in_flight}
use Rattle.ff_memory.proofs.memory.Memory.write_in_flight.Goals as goal

pub returns-clause-store : goal.returns-clause-store
returns-clause-store g c =
    let carried = rw c.as_slice.ensures.bytes at c.carry.ensures.memory in
    let drained = rw c.as_slice.ensures.bytes at c.carry.ensures.device in
    stored-in_flight c.args.self.now _ c.write_frame.new.self _ _ c.store_hit.new.self c.args.slot c.args.entry.now c.args.at.page.0
    c.args.at.line c.args.at.from c.args.piece.now c.write_frame.result c.requires.ready c.requires.page c.requires.entry
    (c.self.view_is ∙ carried) c.store_hit.ensures c.write_frame.ensures.memory c.write_frame.ensures.access drained
