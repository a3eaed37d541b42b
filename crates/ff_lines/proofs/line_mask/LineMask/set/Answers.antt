use Rattle.ff_lines.proofs.MaskBits.{has_line-set}
use Rattle.ff_lines.proofs.line_mask.LineMask.set.Goals as goal

pub returns-clause-lines : goal.returns-clause-lines
returns-clause-lines c q _ = has_line-set c.args.self.now.0 c.args.line q c.requires
