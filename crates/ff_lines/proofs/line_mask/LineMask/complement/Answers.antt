use Rattle.std.proofs.Common.{arith}
use Rattle.ff_lines.proofs.MaskBits.{has_line-complement}
use Rattle.ff_lines.proofs.line_mask.LineMask.complement.Goals as goal

pub returns-clause-lines : goal.returns-clause-lines
returns-clause-lines c q in_page = has_line-complement c.args.self.now.0 q (omega arith) in_page
