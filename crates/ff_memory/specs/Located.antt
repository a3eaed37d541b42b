-- The facts that tie a memory to its device. None speaks of a history: "the right bytes" are the device's line, where the
-- device has them, or the frame's.
use Rattle.std.specs.Prelude.{ℕ, ◌≡◌, ◌≢◌, ◌<◌, ◌≤◌, true, false, List, length, Option, Some, None, IfSome, is_some}
use Rattle.ff_base.specs.declared.numbers.TheConstants.{PAGE_LINES}
use Rattle.ff_base.specs.Page.{line_of}
use Rattle.ff_frames.specs.Frames.{frame_at}
use Rattle.ff_frames.specs.declared.frame.Frame.{Frame}
use Rattle.ff_lines.specs.DeviceState.{DeviceState, line_at, waits}
use Rattle.ff_lines.specs.LineMask.{has_line}
use Rattle.ff_lines.specs.declared.line_mask.LineMask.{LineMask}
use Rattle.ff_plb.specs.declared.slot.Flight.{Flight}
use Rattle.ff_plb.specs.declared.slot.Slot.{Slot}
use Rattle.ff_plb.specs.declared.slot.Way.{Way}
use Rattle.ff_plb.specs.declared.slot.Way.TheVariants.{Coming, Leaving}
use Rattle.ff_table.specs.Table.{born_count_in, is_born_in, marks_of}
use Rattle.ff_table.specs.declared.table.Home.{Home}
use Rattle.ff_table.specs.declared.table.Home.TheVariants.{Ssd, Host}
use Rattle.ff_memory.specs.Memory.{MemoryView, entry_at, home_at}
use Rattle.ff_memory.specs.LineBytes.{Holds, frame_of_page}

-- the frame's lines that aren't dirty are the device's
abbrev pub IsClean : Frame → DeviceState → ℕ → Type 0
IsClean frame d page =
    (line : ℕ) → line < PAGE_LINES → has_line frame.dirty line ≡ false
    → line_of frame.bytes line ≡ line_at d page line

-- the flight of a coming page's line holds the device's line, unless the line was stored to meanwhile
abbrev pub IsComingFlight : DeviceState → ℕ → LineMask → Option Flight → Type 0
IsComingFlight d page bits flight =
    IfSome flight
    (λ f. (f.line < PAGE_LINES) × (has_line bits f.line ≡ false → f.bytes ≡ line_at d page f.line))

-- the flight of a leaving page's line holds the frame's line, which isn't copied
abbrev pub IsLeavingFlight : Frame → LineMask → Option Flight → Type 0
IsLeavingFlight frame bits flight =
    IfSome flight (λ f.
    (f.line < PAGE_LINES) × (has_line bits f.line ≡ false) × (f.bytes ≡ line_of frame.bytes f.line))

-- a page on its way into a frame: nothing waits for it, a copied line is the device's unless it is dirty, and a dirty line
-- counts as copied
pub record IsComing (frame : Frame) (d : DeviceState) (page : ℕ) (home : Home) (bits : LineMask)
    (flight : Option Flight) : Type 0 where
  pub home_is : home ≡ Ssd
  pub idle : waits d page ≡ false
  pub clean : (line : ℕ) → line < PAGE_LINES → has_line frame.dirty line ≡ false → has_line bits line ≡ true
      → line_of frame.bytes line ≡ line_at d page line
  pub copied : (line : ℕ) → line < PAGE_LINES → has_line frame.dirty line ≡ true → has_line bits line ≡ true
  pub flies : IsComingFlight d page bits flight

-- a page on its way out of its frame: a line that isn't copied is dirty
pub record IsLeaving (frame : Frame) (home : Home) (at : ℕ) (bits : LineMask)
    (flight : Option Flight) : Type 0 where
  pub home_is : home ≡ Host at
  pub dirty : (line : ℕ) → line < PAGE_LINES → has_line bits line ≡ false → has_line frame.dirty line ≡ true
  pub flies : IsLeavingFlight frame bits flight

-- the facts of a page in flight, by its way
abbrev pub IsFlyingBy : Way → Frame → DeviceState → ℕ → Home → Slot → Type 0
IsFlyingBy Coming frame d page home entry = IsComing frame d page home entry.bits entry.flight
IsFlyingBy Leaving frame d page home entry =
    IsLeaving frame home entry.frame entry.bits entry.flight

-- a page in flight: its frame holds it, and it is resident
pub record IsInFlight (frames : List Frame) (d : DeviceState) (page : ℕ) (home : Home)
    (entry : Slot) : Type 0 where
  pub holds : Holds frames entry.frame page
  pub resident : d.resident page ≡ true
  pub by_way : IsFlyingBy entry.way (frame_at frames entry.frame) d page home entry

-- the facts of a page at rest: a frame that is its home holds it
abbrev pub IsAtRest : List Frame → DeviceState → ℕ → Home → Type 0
IsAtRest frames d page Ssd = Unit {0}
IsAtRest frames d page (Host frame) =
    Holds frames frame page × IsClean (frame_at frames frame) d page

-- the facts of a page, by its home and its entry
abbrev pub IsSited : List Frame → DeviceState → ℕ → Home → Option Slot → Type 0
IsSited frames d page home None = IsAtRest frames d page home
IsSited frames d page home (Some entry) = IsInFlight frames d page home entry

-- who is born and what is marked: what is written on the device or dirty in a frame is born, no more pages are than the
-- device has room for, and a page with a marked line is home
pub record IsAccounted (m : MemoryView) (d : DeviceState) : Type 0 where
  pub dirty_born : (frame page line : ℕ) → line < PAGE_LINES → Holds m.frames frame page
      → has_line (frame_at m.frames frame).dirty line ≡ true → is_born_in m.table page ≡ true
  pub written_born : (page : ℕ) → d.written page ≡ true → is_born_in m.table page ≡ true
  pub few_born : born_count_in m.table ≤ m.capacity
  pub room : d.room ≡ m.capacity
  pub pages : d.pages ≡ length m.table.homes
  pub marked_home : (page : ℕ) → marks_of m.table page ≢ 0
      → frame_of_page (home_at m page) (entry_at m page) ≡ None

-- the facts of a memory over its device: those of each page, every frame in use is its page's, and exactly the pages with an
-- entry are pinned
pub record IsLocated (m : MemoryView) (d : DeviceState) : Type 0 where
  pub sites : (page : ℕ) → IsSited m.frames d page (home_at m page) (entry_at m page)
  pub used : (frame page : ℕ) → Holds m.frames frame page
      → frame_of_page (home_at m page) (entry_at m page) ≡ Some frame
  pub pins : (page : ℕ) → d.pinned page ≡ is_some (entry_at m page)
  pub accounts : IsAccounted m d
