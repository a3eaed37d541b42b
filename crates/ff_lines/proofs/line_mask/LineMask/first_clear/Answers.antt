use Rattle.std.proofs.Common.{arith, refl}
use Rattle.ff_lines.proofs.MaskBits.{least_clear, full, not_full}
use Rattle.ff_lines.proofs.line_mask.LineMask.first_clear.Goals as goal

pub returns-then-self-clause-full : goal.returns-then-self-clause-full
returns-then-self-clause-full c = (λ _. full c.args.self.now.0 c.if-self.true, λ _. refl)

pub returns-clause-least : goal.returns-clause-least
returns-clause-least c = rw c.trailing_ones.ensures (least_clear c.args.self.now.0 (omega arith))

pub returns-clause-full : goal.returns-clause-full
returns-clause-full c =
    (λ is_none. absurd (cc), λ all. absurd (not_full c.args.self.now.0 _ (least_clear c.args.self.now.0 (omega arith)) all))
