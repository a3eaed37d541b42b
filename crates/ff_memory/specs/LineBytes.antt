-- Where each line of each page is, and which side serves it.
use Rattle.std.specs.Prelude.{ℕ, ◌≡◌, ◌<◌, ◌/◌, ◌%◌, Bool, List, Option, Some, None, if◌then◌else◌, is_none, slice_index}
use Rattle.ff_base.specs.declared.numbers.TheConstants.{LINE_BYTES, PAGE_BYTES, PAGE_LINES}
use Rattle.ff_base.specs.Page.{line_of}
use Rattle.ff_frames.specs.Frames.{frame_at}
use Rattle.ff_frames.specs.declared.frame.Frame.{Frame}
use Rattle.ff_lines.specs.DeviceState.{DeviceState, line_at}
use Rattle.ff_lines.specs.LineMask.{has_line}
use Rattle.ff_plb.specs.declared.slot.Slot.{Slot}
use Rattle.ff_plb.specs.declared.slot.Way.{Way}
use Rattle.ff_plb.specs.declared.slot.Way.TheVariants.{Coming, Leaving}
use Rattle.ff_table.specs.declared.table.Home.{Home}
use Rattle.ff_table.specs.declared.table.Home.TheVariants.{Ssd, Host}
use Rattle.ff_memory.specs.Memory.{MemoryView, entry_at, home_at, numbered}

-- the frame of a page that is at rest
abbrev pub frame_of_home : Home → Option ℕ
frame_of_home Ssd = None
frame_of_home (Host frame) = Some frame

-- the frame that serves a line of a page in flight, by whether the line is copied
abbrev pub frame_in_flight : Way → ℕ → Bool → Option ℕ
frame_in_flight Coming frame copied = if copied then Some frame else None
frame_in_flight Leaving frame copied = if copied then None else Some frame

-- the frame that serves a line, by the page's home and entry; where there is none the device serves it
abbrev pub frame_for : Home → Option Slot → ℕ → Option ℕ
frame_for home None line = frame_of_home home
frame_for home (Some entry) line = frame_in_flight entry.way entry.frame (has_line entry.bits line)

-- the frame that a store to a line of a page in flight goes to: a coming page's line goes to the frame, copied or not
abbrev pub store_in_flight : Way → ℕ → Bool → Option ℕ
store_in_flight Coming frame copied = Some frame
store_in_flight Leaving frame copied = frame_in_flight Leaving frame copied

-- the frame that a store to a line goes to
abbrev pub store_frame_for : Home → Option Slot → ℕ → Option ℕ
store_frame_for home None line = frame_for home None line
store_frame_for home (Some entry) line =
    store_in_flight entry.way entry.frame (has_line entry.bits line)

-- the frame that serves a line of a page
abbrev pub serving_frame : MemoryView → ℕ → ℕ → Option ℕ
serving_frame m page line = frame_for (home_at m page) (entry_at m page) line

-- the frame that a store to a line of a page goes to
abbrev pub storing_frame : MemoryView → ℕ → ℕ → Option ℕ
storing_frame m page line = store_frame_for (home_at m page) (entry_at m page) line

-- the frame that a page has
abbrev pub frame_of_page : Home → Option Slot → Option ℕ
frame_of_page home None = frame_of_home home
frame_of_page home (Some entry) = Some entry.frame

-- a page is home: it is on the SSD and has no entry
abbrev pub is_home : MemoryView → ℕ → Bool
is_home m page = is_none (frame_of_page (home_at m page) (entry_at m page))

-- a line of a frame, or of the device where there is none
abbrev pub line_from : List Frame → DeviceState → ℕ → ℕ → Option ℕ → List ℕ
line_from frames d page line None = line_at d page line
line_from frames d page line (Some frame) = line_of (frame_at frames frame).bytes line

-- the bytes of a line of a page
abbrev pub line_bytes : MemoryView → DeviceState → ℕ → ℕ → List ℕ
line_bytes m d page line = line_from m.frames d page line (serving_frame m page line)

-- the frame holds the page
abbrev pub Holds : List Frame → ℕ → ℕ → Type 0
Holds frames frame page = (frame_at frames frame).page ≡ Some (numbered page)

-- no line has other bytes than before
abbrev pub SameLineBytes : MemoryView → DeviceState → MemoryView → DeviceState → Type 0
SameLineBytes m d m' d' = (page line : ℕ) → line < PAGE_LINES → line_bytes m' d' page line ≡ line_bytes m d page line

-- the page, the line in it and the offset in the line of an address
abbrev pub page_of : ℕ → ℕ
page_of at = at / PAGE_BYTES

abbrev pub line_in_page : ℕ → ℕ
line_in_page at = at % PAGE_BYTES / LINE_BYTES

abbrev pub offset_in_line : ℕ → ℕ
offset_in_line at = at % LINE_BYTES

-- the byte at an address
abbrev pub byte_of : MemoryView → DeviceState → ℕ → ℕ
byte_of m d at = slice_index (line_bytes m d (page_of at) (line_in_page at)) (offset_in_line at)
