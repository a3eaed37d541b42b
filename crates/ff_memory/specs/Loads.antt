-- What a load answers and does.
use Rattle.std.specs.Prelude.{ℕ, ◌≡◌, ◌+◌, Bool, true, false, List, Option, Some, None, slice_range}
use Rattle.ff_frames.specs.Frame.{referred_frame}
use Rattle.ff_lines.specs.DeviceState.{DeviceState, IsDrained}
use Rattle.ff_model.specs.declared.op.Reply.TheVariants.{Bytes}
use Rattle.ff_memory.specs.Memory.{MemoryView, frame_set, numbered}
use Rattle.ff_memory.specs.LineBytes.{line_in_page, page_of, line_bytes, offset_in_line, serving_frame}
use Rattle.ff_memory.specs.declared.access.Access.{Access}
use Rattle.ff_memory.specs.declared.access.Access.TheVariants.{Served, Miss}
use Rattle.ff_memory.specs.declared.access.Side.TheVariants.{Device, Host}

-- the bytes of a span
abbrev pub span_of : MemoryView → DeviceState → ℕ → ℕ → List ℕ
span_of m d at len =
    slice_range (line_bytes m d (page_of at) (line_in_page at))
    (offset_in_line at) (offset_in_line at + len)

-- a page that isn't resident or isn't home was missed, and nothing was done
pub record IsMissed (page : ℕ) (m : MemoryView) (d : DeviceState) (access : Access)
    (m' : MemoryView) (d' : DeviceState) : Type 0 where
  pub access_is : access ≡ Miss (numbered page)
  pub memory : m' ≡ m
  pub device : d' ≡ d

-- a load that a frame served: the frame was referred to
pub record IsFrameLoad (frame : ℕ) (bytes : List ℕ) (m : MemoryView) (d : DeviceState)
    (access : Access) (m' : MemoryView) (d' : DeviceState) : Type 0 where
  pub access_is : access ≡ Served (Bytes bytes) Host
  pub memory : m' ≡ frame_set frame (referred_frame true) m
  pub device : d' ≡ d

-- a load that the device served: the window was drained
pub record IsDeviceLoad (bytes : List ℕ) (m : MemoryView) (d : DeviceState) (access : Access)
    (m' : MemoryView) (d' : DeviceState) : Type 0 where
  pub access_is : access ≡ Served (Bytes bytes) Device
  pub memory : m' ≡ m
  pub device : IsDrained d d'

-- a load, by the frame that serves the line and by whether the page is resident
abbrev pub IsLoadBy : Option ℕ → Bool → ℕ → List ℕ → MemoryView → DeviceState → Access
    → MemoryView → DeviceState → Type 0
IsLoadBy (Some frame) resident page bytes m d access m' d' =
    IsFrameLoad frame bytes m d access m' d'
IsLoadBy None true page bytes m d access m' d' = IsDeviceLoad bytes m d access m' d'
IsLoadBy None false page bytes m d access m' d' = IsMissed page m d access m' d'

-- a load
abbrev pub IsLoad : ℕ → ℕ → MemoryView → DeviceState → Access → MemoryView → DeviceState → Type 0
IsLoad at len m d access m' d' =
    IsLoadBy (serving_frame m (page_of at) (line_in_page at)) (d.resident (page_of at))
    (page_of at) (span_of m d at len) m d access m' d'
