use Rattle.std.proofs.Common.{sym, ◌∙◌}
use Rattle.ff_device.proofs.Collecting.{turn_lines, turn_resident}
use Rattle.ff_device.proofs.device.Device.collect_work.Goals as goal

pub returns-then-is_on-clause-kept : goal.returns-then-is_on-clause-kept
returns-then-is_on-clause-kept g c =
    let known = c.parts_known.ensures in
    turn_lines c.collect_turn.result c.args.self.now c.collect_turn.new.self known.device known.cache known.seen known.store
    known.table c.collect_turn.ensures.calls c.collect_turn.ensures.turn (sym c.is_on.ensures ∙ c.if-is_on.true)

pub returns-then-is_on-clause-resident : goal.returns-then-is_on-clause-resident
returns-then-is_on-clause-resident g c =
    let known = c.parts_known.ensures in
    turn_resident c.collect_turn.result c.args.self.now c.collect_turn.new.self known.device known.cache known.seen known.store
    known.table c.collect_turn.ensures.calls c.collect_turn.ensures.turn
