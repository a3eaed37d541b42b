use Rattle.std.proofs.Common.{take, sym, ◌∙◌}
use Rattle.std.proofs.lemmas.List.{take_more}
use Rattle.ff_model.specs.Judge.{opening_in}
use Rattle.ff_model.proofs.Appended.{next_event-append}
use Rattle.ff_model.proofs.judge.next_event.Goals as goal

pub loop-entry-preserved : goal.loop-entry-preserved
loop-entry-preserved c =
    let more = take_more c.args.before.now c.loop-entry.entry-index c.entry-item.result c.loop-entry-test.true in
    rw (more, ← c.entry-item.is)
    (c.event_after-event.ensures ∙ sym (next_event-append (opening_in c.args.opening.now) (take c.loop-entry.entry-index c.args.before.now) c.entry-item.result))
