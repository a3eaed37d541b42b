-- The lines of a mask that was changed.
use Rattle.std.proofs.Common.{◌≡◌, ◌<◌, ℕ, ◌^◌, ◌==◌, ◌||◌, ◌&&◌, not, false}
use Rattle.ff_lines.specs.LineMask.{has_line, mask_with, mask_without, mask_others, no_lines}
use Rattle.ff_lines.specs.declared.line_mask.LineMask.{LineMask}
use Rattle.ff_lines.proofs.MaskBits.{has_line-set, has_line-clear, has_line-complement, has_line-none}

-- a line of the set into which one was put
pub has_line-mask_with : (mask : LineMask) (line q : ℕ) → line < 64
    → has_line (mask_with mask line) q ≡ ((q == line) || has_line mask q)
unfolding mask_with
has_line-mask_with mask line q within = has_line-set mask.0 line q within

-- a line of the set from which one was taken
pub has_line-mask_without : (mask : LineMask) (line q : ℕ) → line < 64 → q < 64
    → has_line (mask_without mask line) q ≡ (not (q == line) && has_line mask q)
unfolding mask_without
has_line-mask_without mask line q within in_page = has_line-clear mask.0 line q within in_page

-- a line of the other lines
pub has_line-mask_others : (mask : LineMask) (q : ℕ) → mask.0 < 2 ^ 64 → q < 64
    → has_line (mask_others mask) q ≡ not (has_line mask q)
unfolding mask_others
has_line-mask_others mask q small in_page = has_line-complement mask.0 q small in_page

-- no line is in the empty set
pub has_line-no_lines : (q : ℕ) → has_line no_lines q ≡ false
has_line-no_lines q = has_line-none q
