use Rattle.ff_device.proofs.Promising.{keeps_promised, works_promised}
use Rattle.ff_device.proofs.device.Device.work_for.Goals as goal

pub returns-clause-answer : goal.returns-clause-answer
returns-clause-answer g c =
    let known = c.parts_known.ensures in
    works_promised c.args.page.0 c.step-answer.result c.args.self.now c.step-answer.new.self known.device known.cache
    known.seen c.parts_known-2.ensures.seen c.requires.page c.requires.absent c.requires.on c.step-answer.ensures.row
    c.step-answer.ensures.calls

pub returns-clause-kept : goal.returns-clause-kept
returns-clause-kept g c =
    let known = c.parts_known.ensures in
    keeps_promised c.args.page.0 c.step-answer.result c.args.self.now c.step-answer.new.self known.device known.cache
    known.seen c.parts_known-2.ensures.seen c.requires.page c.requires.absent c.requires.on c.step-answer.ensures.row
    c.step-answer.ensures.calls
