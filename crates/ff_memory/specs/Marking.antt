-- What a mark does, and which frames are passed.
use Rattle.std.specs.Prelude.{ℕ, ◌≡◌, ◌<◌, ◌&&◌, ◌||◌, nat_le, nat_lt, Bool, true, false, length, if◌then◌else◌}
use Rattle.ff_frames.specs.Frame.{referred_frame}
use Rattle.ff_frames.specs.Frames.{frame_at}
use Rattle.ff_lines.specs.DeviceState.{DeviceState, IsDrained}
use Rattle.ff_model.specs.declared.op.Reply.TheVariants.{Done}
use Rattle.ff_memory.specs.Loads.{IsMissed}
use Rattle.ff_memory.specs.Memory.{MemoryView, marks_set}
use Rattle.ff_memory.specs.declared.access.Access.{Access}
use Rattle.ff_memory.specs.declared.access.Access.TheVariants.{Served}
use Rattle.ff_memory.specs.declared.access.Side.TheVariants.{Neither}

-- lines of a page were marked, after the window was drained
pub record IsMarked (page lines : ℕ) (m : MemoryView) (d : DeviceState) (access : Access)
    (m' : MemoryView) (d' : DeviceState) : Type 0 where
  pub access_is : access ≡ Served Done Neither
  pub memory : m' ≡ marks_set page lines true m
  pub device : IsDrained d d'

-- a mark, by whether the page is home
abbrev pub IsMarkBy : Bool → ℕ → ℕ → MemoryView → DeviceState → Access → MemoryView → DeviceState
    → Type 0
IsMarkBy true page lines m d access m' d' = IsMarked page lines m d access m' d'
IsMarkBy false page lines m d access m' d' = IsMissed page m d access m' d'

-- the frame lies from one up to the one before another
abbrev pub is_between : ℕ → ℕ → ℕ → Bool
is_between from to frame = nat_le from frame && nat_lt frame to

-- the frame lies from one up to the one before another, round
abbrev pub is_passed : ℕ → ℕ → ℕ → Bool
is_passed from to frame =
    if nat_le from to then is_between from to frame else nat_le from frame || nat_lt frame to

-- the referred flags of these frames were cleared, and nothing else changed
pub record IsUnreferred (these : ℕ → Bool) (m m' : MemoryView) : Type 0 where
  pub frames : (frame : ℕ) → frame < length m.frames
      → frame_at m'.frames frame
      ≡ (if these frame
      then referred_frame false (frame_at m.frames frame)
      else frame_at m.frames frame)
  pub size : length m'.frames ≡ length m.frames
  pub table : m'.table ≡ m.table
  pub slots : m'.slots ≡ m.slots
  pub capacity : m'.capacity ≡ m.capacity
