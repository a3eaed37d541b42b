use Rattle.std.proofs.Common.{arith, length}
use Rattle.ff_report.specs.ImageText.{mark_text}
use Rattle.ff_report.proofs.Ranges.{range-all, range-more, range-stopped}
use Rattle.ff_report.proofs.image.write_marks.Goals as goal

pub returns-in-Err : goal.returns-in-Err
returns-in-Err g c = range-stopped _ (mark_text c.args.image.now) (length c.args.image.now.pages) _ _ _ _ _ _ _ c.loop-page.invariant c.in-Err.ensures (omega arith)

pub loop-page-preserved : goal.loop-page-preserved
loop-page-preserved g c = range-more (mark_text c.args.image.now) (length c.args.image.now.pages) _ _ _ _ _ _ _ c.loop-page.invariant c.in-Ok.ensures (omega arith)

pub returns : goal.returns
returns g c = range-all (mark_text c.args.image.now) (length c.args.image.now.pages) _ _ _ _ _ c.loop-page.invariant (omega arith)
