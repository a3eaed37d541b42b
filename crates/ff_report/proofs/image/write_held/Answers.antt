use Rattle.std.proofs.Common.{arith}
use Rattle.ff_report.specs.ImageText.{line_numbers, line_text}
use Rattle.ff_report.proofs.Ranges.{range-all, range-more, range-stopped}
use Rattle.ff_report.proofs.image.write_held.Goals as goal

pub returns-in-Err : goal.returns-in-Err
unfolding line_numbers
returns-in-Err g c = range-stopped _ (line_text c.args.page c.args.bytes.now) 64 _ _ _ _ _ _ _ c.loop-line.invariant c.in-Err.ensures (omega arith)

pub loop-line-preserved : goal.loop-line-preserved
unfolding line_numbers
loop-line-preserved g c = range-more (line_text c.args.page c.args.bytes.now) 64 _ _ _ _ _ _ _ c.loop-line.invariant c.in-Ok.ensures (omega arith)

pub returns : goal.returns
unfolding line_numbers
returns g c = range-all (line_text c.args.page c.args.bytes.now) 64 _ _ _ _ _ c.loop-line.invariant (omega arith)
