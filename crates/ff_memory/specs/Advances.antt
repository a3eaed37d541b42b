-- What a step of a page in flight does.
use Rattle.std.specs.Prelude.{ℕ, ◌≡◌, ◌<◌, Bool, true, false, List, length, Option, Some, None}
use Rattle.ff_base.specs.declared.numbers.TheConstants.{PAGE_LINES}
use Rattle.ff_base.specs.Page.{line_of}
use Rattle.ff_frames.specs.Frame.{cleaned_frame, filled_frame, given_frame}
use Rattle.ff_frames.specs.Frames.{frame_at}
use Rattle.ff_lines.specs.DeviceState.{DeviceState, HasRoom, IsDrained, IsPinned, IsPosted, line_at}
use Rattle.ff_lines.specs.LineMask.{HasEveryLine, IsLeastClear, has_line}
use Rattle.ff_plb.specs.Plb.{HasEntry}
use Rattle.ff_plb.specs.Slot.{after_landing, after_lift}
use Rattle.ff_plb.specs.declared.slot.Flight.{Flight}
use Rattle.ff_plb.specs.declared.slot.Slot.{Slot}
use Rattle.ff_plb.specs.declared.slot.Way.{Way}
use Rattle.ff_plb.specs.declared.slot.Way.TheVariants.{Coming, Leaving}
use Rattle.ff_table.specs.declared.table.Home.TheVariants.{Ssd, Host}
use Rattle.ff_memory.specs.Memory.{MemoryView, frame_set, home_set, slot_set}
use Rattle.ff_memory.specs.LineBytes.{Holds}
use Rattle.ff_memory.specs.declared.access.What.{What}
use Rattle.ff_memory.specs.declared.access.What.TheVariants.{Finished, Landed, Dropped, Lifted}

-- what the step of an entry asks for: the slot has the entry, whose page and frame there are; the page is resident, the
-- frame holds it, and there is room for the post of a leaving page's line
pub record IsReady (m : MemoryView) (d : DeviceState) (slot : ℕ) (entry : Slot) : Type 0 where
  pub has : HasEntry m.slots slot entry
  pub page : entry.page.0 < length m.table.homes
  pub frame : entry.frame < length m.frames
  pub holds : Holds m.frames entry.frame entry.page.0
  pub resident : d.resident entry.page.0 ≡ true
  pub line : (flight : Flight) → entry.flight ≡ Some flight → flight.line < PAGE_LINES
  pub room : (flight : Flight) → entry.way ≡ Leaving → entry.flight ≡ Some flight
      → HasRoom d entry.page.0

-- the bytes of a line where it is copied from: the device's for a coming page, the frame's for a leaving one
abbrev pub source_line : Way → MemoryView → DeviceState → Slot → ℕ → List ℕ
source_line Coming m d entry line = line_at d entry.page.0 line
source_line Leaving m d entry line = line_of (frame_at m.frames entry.frame).bytes line

-- what a lift does to the device: a line is read from it for a coming page
abbrev pub LiftsFrom : Way → DeviceState → DeviceState → Type 0
LiftsFrom Coming d d' = IsDrained d d'
LiftsFrom Leaving d d' = d' ≡ d

-- the least line that isn't copied is under way
pub record IsLifted (slot : ℕ) (entry : Slot) (m : MemoryView) (d : DeviceState) (m' : MemoryView)
    (d' : DeviceState) : Type 0 where
  pub line : ℕ
  pub least : IsLeastClear entry.bits line
  pub memory : m' ≡ slot_set slot
      (Some (after_lift
      (record { line = line; bytes = source_line entry.way m d entry line }) entry)) m
  pub device : LiftsFrom entry.way d d'

-- the memory after the last line of a page in flight was copied: a coming page is at home in its frame, a leaving one on
-- the SSD, and its frame is free
abbrev pub finished_by : Way → ℕ → Slot → MemoryView → MemoryView
finished_by Coming slot entry m = home_set entry.page.0 (Host entry.frame) (slot_set slot None m)
finished_by Leaving slot entry m =
    frame_set entry.frame given_frame (home_set entry.page.0 Ssd (slot_set slot None m))

-- every line was copied: the page is at home where it was copied to, and pinned no more
pub record IsFinished (slot : ℕ) (entry : Slot) (m : MemoryView) (d : DeviceState)
    (m' : MemoryView) (d' : DeviceState) : Type 0 where
  pub all : HasEveryLine entry.bits
  pub memory : m' ≡ finished_by entry.way slot entry m
  pub device : IsPinned entry.page.0 false d d'

-- a coming page's line landed in its frame
pub record IsLandedInFrame (slot : ℕ) (entry : Slot) (flight : Flight) (m : MemoryView)
    (d : DeviceState) (m' : MemoryView) (d' : DeviceState) : Type 0 where
  pub memory : m' ≡ frame_set entry.frame (filled_frame flight.line flight.bytes)
      (slot_set slot (Some (after_landing entry)) m)
  pub device : d' ≡ d

-- a coming page's line was stored to meanwhile, and its flight is dropped
pub record IsDropped (slot : ℕ) (entry : Slot) (m : MemoryView) (d : DeviceState) (m' : MemoryView)
    (d' : DeviceState) : Type 0 where
  pub memory : m' ≡ slot_set slot (Some (after_landing entry)) m
  pub device : d' ≡ d

-- a leaving page's line was posted, without a position in the history, and is clean in the frame
pub record IsLandedOnDevice (slot : ℕ) (entry : Slot) (flight : Flight) (m : MemoryView)
    (d : DeviceState) (m' : MemoryView) (d' : DeviceState) : Type 0 where
  pub memory : m' ≡ frame_set entry.frame (cleaned_frame flight.line)
      (slot_set slot (Some (after_landing entry)) m)
  pub device : IsPosted
      (record {
        page = entry.page;
        line = flight.line;
        from = 0;
        bytes = flight.bytes;
        position = None;
      })
      d d'

-- a flight's end, by the way of its page and by whether its line has its bit set
abbrev pub LandsBy : Way → Bool → ℕ → Slot → Flight → MemoryView → DeviceState → What → MemoryView
    → DeviceState → Type 0
LandsBy Coming true slot entry flight m d what m' d' =
    (what ≡ Dropped) × IsDropped slot entry m d m' d'
LandsBy Coming false slot entry flight m d what m' d' =
    (what ≡ Landed) × IsLandedInFrame slot entry flight m d m' d'
LandsBy Leaving copied slot entry flight m d what m' d' =
    (what ≡ Landed) × IsLandedOnDevice slot entry flight m d m' d'

-- the step of an entry without a flight: it finishes, or its least line that isn't copied is lifted
abbrev pub FinishesOrLifts : What → ℕ → Slot → MemoryView → DeviceState → MemoryView → DeviceState
    → Type 0
FinishesOrLifts Finished slot entry m d m' d' = IsFinished slot entry m d m' d'
FinishesOrLifts Lifted slot entry m d m' d' = IsLifted slot entry m d m' d'
FinishesOrLifts what slot entry m d m' d' = ⊥

-- the step of an entry, by its flight
abbrev pub AdvancesBy : Option Flight → ℕ → Slot → MemoryView → DeviceState → What → MemoryView
    → DeviceState → Type 0
AdvancesBy None slot entry m d what m' d' = FinishesOrLifts what slot entry m d m' d'
AdvancesBy (Some flight) slot entry m d what m' d' =
    LandsBy entry.way (has_line entry.bits flight.line) slot entry flight m d what m' d'

-- the step of the entry in a slot
abbrev pub Advances : ℕ → Option Slot → MemoryView → DeviceState → What → MemoryView → DeviceState
    → Type 0
Advances slot None m d what m' d' = ⊥
Advances slot (Some entry) m d what m' d' = AdvancesBy entry.flight slot entry m d what m' d'
