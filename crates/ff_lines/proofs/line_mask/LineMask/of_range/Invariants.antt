use Rattle.std.proofs.Common.{◌≡◌, ◌<◌, ◌-◌, ℕ}
use Rattle.ff_lines.specs.LineMask.{has_line}
use Rattle.ff_model.specs.Callers.{is_in_lines}
use Rattle.ff_lines.proofs.line_mask.LineMask.of_range.Given as goal

abbrev pub invariant-loop-line : goal.invariant-loop-line
invariant-loop-line l = (q : ℕ) → q < 64 → has_line l.mask q ≡ is_in_lines q l.fn.from (l.line - l.fn.from)
