use Rattle.ff_lines.proofs.MaskBits.{has_line-clear}
use Rattle.ff_lines.proofs.line_mask.LineMask.clear.Goals as goal

pub returns-clause-lines : goal.returns-clause-lines
returns-clause-lines c q in_page = has_line-clear c.args.self.now.0 c.args.line q c.requires in_page
