-- How the fields show as frames, and what they keep.
use Rattle.std.specs.Prelude.{ℕ, ◌≡◌, ◌*◌, ◌<◌, ◌≤◌, List, length, is_some}
use Rattle.ff_frames.specs.Frames.{AreFramesSound, frame_at, free_count}
use Rattle.ff_frames.specs.UsedFrames.{is_used}
use Rattle.ff_frames.specs.declared.frame.Frame.{Frame}
use Rattle.ff_frames.specs.declared.frames.Frames.TheInside.{Inside}
use Rattle.ff_lines.specs.declared.line_mask.LineMask.{LineMask}

-- the frames that the fields show
abbrev pub view_of : Inside → List Frame
view_of f = f.frames.items

-- the frames are sound, the masks tell which of them hold a page, and the count is that of the others
pub record IsIndexed (frames : List Frame) (masks : List LineMask) (free : ℕ) : Type 0 where
  pub sound : AreFramesSound frames
  pub masked : length frames ≤ 64 * length masks
  pub used : (frame : ℕ) → frame < length frames
      → is_used masks frame ≡ is_some (frame_at frames frame).page
  pub counted : free ≡ free_count frames

-- what the fields keep
abbrev pub IsKept : Inside → Type 0
IsKept f = IsIndexed f.frames.items f.used f.free
