-- Which frames are in use, as masks of 64 frames each.
use Rattle.std.specs.Prelude.{ℕ, ◌≡◌, ◌*◌, ◌/◌, ◌%◌, ◌<◌, Bool, true, false, List, length, slice_index_or}
use Rattle.ff_lines.specs.LineMask.{has_line, no_lines}
use Rattle.ff_lines.specs.declared.line_mask.LineMask.{LineMask}

-- the frame is in use
abbrev pub is_used : List LineMask → ℕ → Bool
is_used masks frame = has_line (slice_index_or masks (frame / 64) no_lines) (frame % 64)

-- every frame that the masks have is in use
abbrev pub AreAllUsed : List LineMask → Type 0
AreAllUsed masks = (frame : ℕ) → frame < 64 * length masks → is_used masks frame ≡ true

-- the frame isn't in use, and all before it are
pub record IsLeastUnused (masks : List LineMask) (frame : ℕ) : Type 0 where
  pub unused : is_used masks frame ≡ false
  pub least : (other : ℕ) → other < frame → is_used masks other ≡ true
