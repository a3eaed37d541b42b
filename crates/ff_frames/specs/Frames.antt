-- The list of the frames, what they keep, and which of them is taken next.
use Rattle.std.specs.Prelude.{ℕ, ◌≡◌, ◌≢◌, ◌<◌, ◌^◌, List, length, count_by, is_none, None, slice_index_or, slice_set}
use Rattle.ff_base.specs.declared.numbers.TheConstants.{PAGE_BYTES}
use Rattle.ff_frames.specs.Frame.{free_frame}
use Rattle.ff_frames.specs.declared.frame.Frame.{Frame}

-- a frame of the list; past the end there is none, which reads as a free one
abbrev pub frame_at : List Frame → ℕ → Frame
frame_at frames frame = slice_index_or frames frame free_frame

-- the frames with one replaced
abbrev pub with_frame : List Frame → ℕ → Frame → List Frame
with_frame frames frame new = slice_set frames frame new

-- every frame has the bytes of a page
pub record AreFramesSound (frames : List Frame) : Type 0 where
  pub sized : (frame : ℕ) → length (frame_at frames frame).bytes ≡ PAGE_BYTES
  pub few : length frames < 2 ^ 32

-- the frame is one of the list and holds no page
pub record IsFreeFrame (frames : List Frame) (frame : ℕ) : Type 0 where
  pub in_range : frame < length frames
  pub no_page : (frame_at frames frame).page ≡ None

-- the frame is free, and none before it is
pub record IsLeastFree (frames : List Frame) (frame : ℕ) : Type 0 where
  pub free : IsFreeFrame frames frame
  pub least : (other : ℕ) → other < frame → (frame_at frames other).page ≢ None

-- no frame is free
abbrev pub IsNoneFree : List Frame → Type 0
IsNoneFree frames = (frame : ℕ) → IsFreeFrame frames frame → ⊥

-- how many frames are free
abbrev pub free_count : List Frame → ℕ
free_count frames = count_by (λ frame. is_none frame.page) frames
