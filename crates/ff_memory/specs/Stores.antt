-- What a store answers and does.
use Rattle.std.specs.Prelude.{ℕ, ◌≡◌, ◌≢◌, ◌+◌, ◌<◌, ◌≤◌, ◌==◌, ◌&&◌, Bool, true, false, not, List, length, Option, Some, None, if◌then◌else◌}
use Rattle.ff_base.specs.declared.numbers.TheConstants.{LINE_BYTES, PAGE_LINES}
use Rattle.ff_frames.specs.Frame.{filled_frame, referred_frame, written_frame}
use Rattle.ff_frames.specs.Frames.{frame_at, with_frame}
use Rattle.ff_frames.specs.declared.frame.Frame.{Frame}
use Rattle.ff_lines.specs.DeviceState.{DeviceState, IsDevice, IsDrained, IsPosted, line_at}
use Rattle.ff_lines.specs.LineMask.{has_line}
use Rattle.ff_lines.specs.Overlay.{overlaid}
use Rattle.ff_model.specs.declared.op.Reply.TheVariants.{Done, Full}
use Rattle.ff_plb.specs.Plb.{HasEntry, with_slot}
use Rattle.ff_plb.specs.Slot.{after_store}
use Rattle.ff_plb.specs.declared.slot.Slot.{Slot}
use Rattle.ff_plb.specs.declared.slot.Way.{Way}
use Rattle.ff_plb.specs.declared.slot.Way.TheVariants.{Coming, Leaving}
use Rattle.ff_table.specs.Table.{born_count_in, is_born_in, with_born}
use Rattle.ff_memory.specs.Loads.{IsMissed}
use Rattle.ff_memory.specs.Located.{IsLocated}
use Rattle.ff_memory.specs.Memory.{IsMemorySound, MemoryView, born_set, entry_at, numbered}
use Rattle.ff_memory.specs.LineBytes.{SameLineBytes, line_bytes, storing_frame}
use Rattle.ff_memory.specs.declared.access.Access.{Access}
use Rattle.ff_memory.specs.declared.access.Access.TheVariants.{Served}
use Rattle.ff_memory.specs.declared.access.Side.TheVariants.{Device, Host, Neither}

-- a store to the page is refused: it isn't born, and as many pages as may be are
abbrev pub is_store_refused : MemoryView → ℕ → Bool
is_store_refused m page = not (is_born_in m.table page) && (born_count_in m.table == m.capacity)

-- what a store that isn't refused finds: a line of one of the pages, a piece that fits, and the facts
pub record IsStoreGiven (page line from : ℕ) (piece : List ℕ) (m : MemoryView)
    (d : DeviceState) : Type 0 where
  pub sound : IsMemorySound m
  pub device : IsDevice d
  pub located : IsLocated m d
  pub within : page < length m.table.homes
  pub low : line < PAGE_LINES
  pub fits : from + length piece ≤ LINE_BYTES
  pub allowed : is_store_refused m page ≡ false

-- whether a store to a line of a page in flight carries the rest of the line: the page is coming, the line isn't copied and
-- the piece isn't a whole line
abbrev pub carries_by : Way → Bool → ℕ → Bool
carries_by Coming copied size = if copied then false else not (size == LINE_BYTES)
carries_by Leaving copied size = false

-- whether a store to a line of the page carries the rest of the line
abbrev pub carries : Option Slot → ℕ → ℕ → Bool
carries None line size = false
carries (Some entry) line size = carries_by entry.way (has_line entry.bits line) size

-- a frame into which the device's line was carried, where that is asked for
abbrev pub carried_frame : Bool → ℕ → List ℕ → Frame → Frame
carried_frame true line bytes frame = filled_frame line bytes frame
carried_frame false line bytes frame = frame

-- a frame after a store that it served: the piece is laid over the line, which is dirty, and it was referred to
abbrev pub stored_frame : ℕ → ℕ → List ℕ → Frame → Frame
stored_frame line from piece frame = referred_frame true (written_frame line from piece frame)

-- the slots after a store to a line of a page with this entry, or with none
abbrev pub HitsEntry : Option Slot → ℕ → List (Option Slot) → List (Option Slot) → Type 0
HitsEntry None line old new = new ≡ old
HitsEntry (Some entry) line old new =
    (slot : ℕ) × HasEntry old slot entry
    × (new ≡ with_slot old slot (Some (after_store line entry)))

-- the window was drained, where a line was carried; else nothing was done
abbrev pub DrainsIf : Bool → DeviceState → DeviceState → Type 0
DrainsIf true d d' = IsDrained d d'
DrainsIf false d d' = d' ≡ d

-- a store that a frame served
pub record IsFrameStore (frame page line from : ℕ) (piece : List ℕ) (m : MemoryView)
    (d : DeviceState) (access : Access) (m' : MemoryView) (d' : DeviceState) : Type 0 where
  pub access_is : access ≡ Served Done Host
  pub frames : m'.frames ≡ with_frame m.frames frame
      (stored_frame line from piece
      (carried_frame (carries (entry_at m page) line (length piece)) line
      (line_at d page line) (frame_at m.frames frame)))
  pub table : m'.table ≡ with_born page m.table
  pub slots : HitsEntry (entry_at m page) line m.slots m'.slots
  pub capacity : m'.capacity ≡ m.capacity
  pub device : DrainsIf (carries (entry_at m page) line (length piece)) d d'

-- a store that was posted
pub record IsDeviceStore (page line from : ℕ) (piece : List ℕ) (position : ℕ) (m : MemoryView)
    (d : DeviceState) (access : Access) (m' : MemoryView) (d' : DeviceState) : Type 0 where
  pub access_is : access ≡ Served Done Device
  pub memory : m' ≡ born_set page m
  pub device : IsPosted
      (record {
        page = numbered page;
        line = line;
        from = from;
        bytes = piece;
        position = Some position;
      })
      d d'

-- a store that was refused
pub record IsRefused (m : MemoryView) (d : DeviceState) (access : Access) (m' : MemoryView)
    (d' : DeviceState) : Type 0 where
  pub access_is : access ≡ Served Full Neither
  pub memory : m' ≡ m
  pub device : d' ≡ d

-- a store, by whether it is refused, by the frame that it goes to and by whether the page is resident
abbrev pub IsStoreBy : Bool → Option ℕ → Bool → ℕ → ℕ → ℕ → List ℕ → ℕ → MemoryView → DeviceState
    → Access → MemoryView → DeviceState → Type 0
IsStoreBy true to resident page line from piece position m d access m' d' =
    IsRefused m d access m' d'
IsStoreBy false (Some frame) resident page line from piece position m d access m' d' =
    IsFrameStore frame page line from piece m d access m' d'
IsStoreBy false None true page line from piece position m d access m' d' =
    IsDeviceStore page line from piece position m d access m' d'
IsStoreBy false None false page line from piece position m d access m' d' =
    IsMissed page m d access m' d'

-- a store of a piece to a line, from an offset on
abbrev pub IsStore : ℕ → ℕ → ℕ → List ℕ → ℕ → MemoryView → DeviceState → Access → MemoryView
    → DeviceState → Type 0
IsStore page line from piece position m d access m' d' =
    IsStoreBy (is_store_refused m page) (storing_frame m page line) (d.resident page)
    page line from piece position m d access m' d'

-- a piece stands in its line, and every other line is as before
pub record IsStored (page line from : ℕ) (piece : List ℕ) (m : MemoryView) (d : DeviceState)
    (m' : MemoryView) (d' : DeviceState) : Type 0 where
  pub here : line_bytes m' d' page line ≡ overlaid (line_bytes m d page line) from piece
  pub others : (q j : ℕ) → j < PAGE_LINES → (q ≡ page → j ≢ line) → line_bytes m' d' q j ≡ line_bytes m d q j

-- what a store's answer says of the lines
abbrev pub StoresBy : Access → ℕ → ℕ → ℕ → List ℕ → MemoryView → DeviceState → MemoryView
    → DeviceState → Type 0
StoresBy (Served Done side) page line from piece m d m' d' = IsStored page line from piece m d m' d'
StoresBy access page line from piece m d m' d' = SameLineBytes m d m' d'
