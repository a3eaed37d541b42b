-- One page frame, and what a call makes of it.
use Rattle.std.specs.Prelude.{ℕ, Bool, false, List, Some, None}
use Rattle.ff_base.specs.Page.{blank_page, with_line}
use Rattle.ff_base.specs.declared.numbers.PageNo.{PageNo}
use Rattle.ff_lines.specs.LineMask.{mask_with, mask_without, no_lines}
use Rattle.ff_lines.specs.Overlay.{page_overlaid}
use Rattle.ff_frames.specs.declared.frame.Frame.{Frame}

-- a free frame of zeros
abbrev pub free_frame : Frame
free_frame = record { page = None; bytes = blank_page; dirty = no_lines; referred = false }

-- the frame after it was given to a page
abbrev pub taken_frame : PageNo → Frame → Frame
taken_frame page frame = record frame { page = Some page; dirty = no_lines; referred = false }

-- the frame after it was given back
abbrev pub given_frame : Frame → Frame
given_frame frame = record frame { page = None }

-- the frame after a store to a line
abbrev pub written_frame : ℕ → ℕ → List ℕ → Frame → Frame
written_frame line from piece frame =
    record frame {
      bytes = page_overlaid frame.bytes line from piece;
      dirty = mask_with frame.dirty line;
    }

-- the frame after a line was copied into it
abbrev pub filled_frame : ℕ → List ℕ → Frame → Frame
filled_frame line bytes frame = record frame { bytes = with_line frame.bytes line bytes }

-- the frame after a line of it was copied to the device
abbrev pub cleaned_frame : ℕ → Frame → Frame
cleaned_frame line frame = record frame { dirty = mask_without frame.dirty line }

-- the frame with its referred flag set or cleared
abbrev pub referred_frame : Bool → Frame → Frame
referred_frame on frame = record frame { referred = on }
