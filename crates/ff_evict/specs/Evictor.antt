-- What a contract sees of an evictor.
use Rattle.std.specs.Prelude.{ℕ, ◌<◌, List, length}
use Rattle.ff_evict.specs.Picker.{PickerView}
use Rattle.ff_frames.specs.declared.frame.Frame.{Frame}

-- the frame to begin with, and the picker
pub record EvictorView (E : Type 0) : Type 0 where
  pub hand : ℕ
  pub picker : PickerView E

-- the hand is at a frame, or there is none
abbrev pub IsHandInside : ℕ → List Frame → Type 0
IsHandInside hand frames = 0 < length frames → hand < length frames
