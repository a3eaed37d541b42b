-- The facts of a page whose frame and whose part of the device stay.
use Rattle.std.specs.Prelude.{is_some}
use Rattle.std.proofs.Common.{◌≡◌, ℕ, Bool, true, false, List, Option, None, Some, refl, sym, ap, ◌∙◌}
use Rattle.std.proofs.lemmas.Option.{none-some, same_Some}
use Rattle.ff_base.specs.Page.{line_of}
use Rattle.ff_base.specs.declared.numbers.PageNo.{PageNo}
use Rattle.ff_frames.specs.Frames.{frame_at}
use Rattle.ff_frames.specs.declared.frame.Frame.{Frame}
use Rattle.ff_lines.specs.DeviceState.{DeviceState, line_at, waits}
use Rattle.ff_lines.specs.LineMask.{has_line}
use Rattle.ff_lines.specs.declared.line_mask.LineMask.{LineMask}
use Rattle.ff_memory.specs.Located.{IsClean, IsComingFlight, IsFlyingBy, IsLeavingFlight, IsLocated, IsSited}
use Rattle.ff_memory.specs.Memory.{MemoryView, entry_at, home_at, numbered}
use Rattle.ff_memory.specs.LineBytes.{Holds, frame_for, frame_in_flight, frame_of_page, serving_frame}
use Rattle.ff_plb.specs.declared.slot.Flight.{Flight}
use Rattle.ff_plb.specs.declared.slot.Slot.{Slot}
use Rattle.ff_plb.specs.declared.slot.Way.{Way}
use Rattle.ff_plb.specs.declared.slot.Way.TheVariants.{Coming, Leaving}
use Rattle.ff_table.specs.declared.table.Home.{Home}
use Rattle.ff_table.specs.declared.table.Home.TheVariants.{Ssd, Host}

-- two frames agree on all but the referred flag
pub record IsAlike (one other : Frame) : Type 0 where
  pub page : other.page ≡ one.page
  pub bytes : other.bytes ≡ one.bytes
  pub dirty : other.dirty ≡ one.dirty

-- what a page's facts ask of a device that changed
pub record SameAt (d d' : DeviceState) (page : ℕ) : Type 0 where
  pub lines : (line : ℕ) → line_at d' page line ≡ line_at d page line
  pub idle : waits d page ≡ false → waits d' page ≡ false
  pub resident : d.pinned page ≡ true → d.resident page ≡ true → d'.resident page ≡ true

pub same-device : (d : DeviceState) (page : ℕ) → SameAt d d page
same-device d page = record { lines = λ line. refl; idle = λ idle. idle; resident = λ pinned resident. resident }

pub alike-same : (one other : Frame) → other ≡ one → IsAlike one other
alike-same one other same =
    record { page = ap (λ (f : Frame). f.page) same; bytes = ap (λ (f : Frame). f.bytes) same; dirty = ap (λ (f : Frame). f.dirty) same }

-- a line of the mask of a frame that stays
same_dirty : (one other : Frame) (line : ℕ) (b : Bool) → IsAlike one other → has_line other.dirty line ≡ b → has_line one.dirty line ≡ b
same_dirty one other line b alike is = ap (λ (m : LineMask). has_line m line) (sym alike.dirty) ∙ is

same_line : (one other : Frame) (line : ℕ) → IsAlike one other → line_of other.bytes line ≡ line_of one.bytes line
same_line one other line alike = ap (λ (b : List ℕ). line_of b line) alike.bytes

clean-other : (one other : Frame) (d d' : DeviceState) (page : ℕ) → IsAlike one other → SameAt d d' page → IsClean one d page
    → IsClean other d' page
clean-other one other d d' page alike same clean line within is =
    same_line one other line alike ∙ clean line within (same_dirty one other line false alike is) ∙ sym (same.lines line)

coming_flight-other : (d d' : DeviceState) (page : ℕ) (bits : LineMask) (flight : Option Flight) → SameAt d d' page
    → IsComingFlight d page bits flight → IsComingFlight d' page bits flight
coming_flight-other d d' page bits None same is = is
coming_flight-other d d' page bits (Some flight) same is = (is.0, λ clear. is.1 clear ∙ sym (same.lines flight.line))

leaving_flight-other : (one other : Frame) (bits : LineMask) (flight : Option Flight) → IsAlike one other
    → IsLeavingFlight one bits flight → IsLeavingFlight other bits flight
leaving_flight-other one other bits None alike is = is
leaving_flight-other one other bits (Some flight) alike is = (is.0, is.1, is.2 ∙ sym (same_line one other flight.line alike))

pub flying-other : (way : Way) (one other : Frame) (d d' : DeviceState) (page : ℕ) (home : Home) (entry : Slot) → IsAlike one other
    → SameAt d d' page → IsFlyingBy way one d page home entry → IsFlyingBy way other d' page home entry
flying-other Coming one other d d' page home entry alike same is = record {
  home_is = is.home_is;
  idle = same.idle is.idle;
  clean = λ line within clean copied.
      same_line one other line alike ∙ is.clean line within (same_dirty one other line false alike clean) copied ∙ sym (same.lines line);
  copied = λ line within dirty. is.copied line within (same_dirty one other line true alike dirty);
  flies = coming_flight-other d d' page entry.bits entry.flight same is.flies;
}
flying-other Leaving one other d d' page home entry alike same is = record {
  home_is = is.home_is;
  dirty = λ line within clear. ap (λ (m : LineMask). has_line m line) alike.dirty ∙ is.dirty line within clear;
  flies = leaving_flight-other one other entry.bits entry.flight alike is.flies;
}

pub sited-other : (frames frames' : List Frame) (d d' : DeviceState) (page : ℕ) (home : Home) (entry : Option Slot)
    → ((frame : ℕ) → Holds frames frame page → IsAlike (frame_at frames frame) (frame_at frames' frame)) → SameAt d d' page
    → d.pinned page ≡ is_some entry → IsSited frames d page home entry → IsSited frames' d' page home entry
sited-other frames frames' d d' page Ssd None alike same pin is = is
sited-other frames frames' d d' page (Host frame) None alike same pin is = (
  (alike frame is.0).page ∙ is.0,
  clean-other (frame_at frames frame) (frame_at frames' frame) d d' page (alike frame is.0) same is.1,
)
sited-other frames frames' d d' page home (Some entry) alike same pin is = record {
  holds = (alike entry.frame is.holds).page ∙ is.holds;
  resident = same.resident pin is.resident;
  by_way =
      flying-other entry.way (frame_at frames entry.frame) (frame_at frames' entry.frame) d d' page home entry
      (alike entry.frame is.holds) same is.by_way;
}

-- the frame that a page has holds it
pub sited-holds : (frames : List Frame) (d : DeviceState) (page : ℕ) (home : Home) (entry : Option Slot) (frame : ℕ)
    → IsSited frames d page home entry → frame_of_page home entry ≡ Some frame → Holds frames frame page
sited-holds frames d page Ssd None frame is has = absurd (none-some frame has)
sited-holds frames d page (Host at) None frame is has =
    ap (λ (f : ℕ). (frame_at frames f).page) (sym (same_Some at frame has)) ∙ is.0
sited-holds frames d page home (Some entry) frame is has =
    ap (λ (f : ℕ). (frame_at frames f).page) (sym (same_Some entry.frame frame has)) ∙ is.holds

flight-frame : (way : Way) (at : ℕ) (copied : Bool) (frame : ℕ) → frame_in_flight way at copied ≡ Some frame → at ≡ frame
flight-frame Coming at true frame is = same_Some at frame is
flight-frame Coming at false frame is = absurd (none-some frame is)
flight-frame Leaving at true frame is = absurd (none-some frame is)
flight-frame Leaving at false frame is = same_Some at frame is

-- the frame that serves a line is the page's
pub serving-frame : (home : Home) (entry : Option Slot) (line frame : ℕ) → frame_for home entry line ≡ Some frame
    → frame_of_page home entry ≡ Some frame
serving-frame home None line frame is = is
serving-frame home (Some entry) line frame is =
    ap Some (flight-frame entry.way entry.frame (has_line entry.bits line) frame is)

-- the frame that serves a line holds the page
pub serving-holds : (m : MemoryView) (d : DeviceState) (page line frame : ℕ) → IsLocated m d
    → serving_frame m page line ≡ Some frame → Holds m.frames frame page
serving-holds m d page line frame located is =
    sited-holds m.frames d page (home_at m page) (entry_at m page) frame (located.sites page)
    (serving-frame (home_at m page) (entry_at m page) line frame is)

-- a frame holds one page
pub one-page : (frames : List Frame) (frame p q : ℕ) → Holds frames frame p → Holds frames frame q → q ≡ p
one-page frames frame p q first second =
    ap (λ (n : PageNo). n.0) (same_Some (numbered q) (numbered p) (sym second ∙ first))
