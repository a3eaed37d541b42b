use Rattle.std.proofs.Common.{take}
use Rattle.std.proofs.lemmas.List.{take_more}
use Rattle.ff_model.specs.Flat.{stored_byte}
use Rattle.ff_model.proofs.Appended.{latest-append}
use Rattle.ff_model.proofs.flat.latest_byte.Goals as goal

pub loop-entry-preserved : goal.loop-entry-preserved
loop-entry-preserved c =
    let more = take_more c.args.entries.now c.loop-entry.entry-index c.entry-item.result c.loop-entry-test.true in
    let step = latest-append (stored_byte c.args.address) (take c.loop-entry.entry-index c.args.entries.now) c.entry-item.result in
    rw (more, ← c.entry-item.is, step, ← c.stored.ensures, ← c.loop-entry.invariant) c.or-found.ensures
