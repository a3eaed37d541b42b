-- The facts of the page whose entry is in a slot.
use Rattle.std.proofs.Common.{◌≡◌, ℕ, ◌<◌, List, length, Some, inl, inr, sym, ap, ◌∙◌, arith}
use Rattle.std.proofs.lemmas.Bool.{cases_lt}
use Rattle.std.proofs.lemmas.List.{get_or_past}
use Rattle.std.proofs.lemmas.Option.{none-some}
use Rattle.ff_frames.specs.Frame.{free_frame}
use Rattle.ff_frames.specs.Frames.{frame_at}
use Rattle.ff_frames.specs.declared.frame.Frame.{Frame}
use Rattle.ff_lines.specs.DeviceState.{DeviceState, HasRoom, IsDevice}
use Rattle.ff_memory.specs.Advances.{IsReady}
use Rattle.ff_memory.specs.Located.{IsComing, IsFlyingBy, IsInFlight, IsLeaving, IsLocated}
use Rattle.ff_memory.specs.Memory.{IsMemorySound, MemoryView, entry_at, home_at, numbered}
use Rattle.ff_memory.specs.LineBytes.{Holds}
use Rattle.ff_plb.specs.Plb.{HasEntry}
use Rattle.ff_plb.specs.declared.slot.Flight.{Flight}
use Rattle.ff_plb.specs.declared.slot.Slot.{Slot}
use Rattle.ff_plb.specs.declared.slot.Way.{Way}
use Rattle.ff_plb.specs.declared.slot.Way.TheVariants.{Coming, Leaving}
use Rattle.ff_plb.proofs.Entries.{entry-at}
use Rattle.ff_table.specs.declared.table.Home.{Home}
use Rattle.ff_memory.proofs.Rooms.{born-allowed, has-room}

-- a memory and its device, with an entry in a slot
pub record IsEntryOf (m : MemoryView) (d : DeviceState) (k : ℕ) (s : Slot) : Type 0 where
  pub sound : IsMemorySound m
  pub device : IsDevice d
  pub located : IsLocated m d
  pub has : HasEntry m.slots k s

-- the entry is its page's
pub entry-is : (m : MemoryView) (d : DeviceState) (k : ℕ) (s : Slot) → IsEntryOf m d k s → entry_at m s.page.0 ≡ Some s
entry-is m d k s e = entry-at m.slots k s e.sound.pages_apart e.has.there

-- the page is in flight
pub flies : (m : MemoryView) (d : DeviceState) (k : ℕ) (s : Slot) → IsEntryOf m d k s
    → IsInFlight m.frames d s.page.0 (home_at m s.page.0) s
flies m d k s e = rw (entry-is m d k s e) at (e.located.sites s.page.0)

pub page-within : (m : MemoryView) (d : DeviceState) (k : ℕ) (s : Slot) → IsEntryOf m d k s → s.page.0 < length m.table.homes
page-within m d k s e =
    let below = e.device.within s.page.0 (flies m d k s e).resident in omega (arith, below, e.located.accounts.pages)

-- a frame that holds a page is one of the frames
pub held-within : (frames : List Frame) (frame page : ℕ) → Holds frames frame page → frame < length frames
held-within frames frame page holds = elim (cases_lt frame (length frames)) [
  | inl within ↦ within
  | inr past ↦
      absurd (none-some (numbered page) (sym (ap (λ (f : Frame). f.page) (get_or_past frames frame free_frame past)) ∙ holds))
]

pub as-coming : (way : Way) (frame : Frame) (d : DeviceState) (page : ℕ) (home : Home) (s : Slot) → way ≡ Coming
    → IsFlyingBy way frame d page home s → IsComing frame d page home s.bits s.flight
as-coming Coming frame d page home s way is = is
as-coming Leaving frame d page home s way is = cc

pub as-leaving : (way : Way) (frame : Frame) (d : DeviceState) (page : ℕ) (home : Home) (s : Slot) → way ≡ Leaving
    → IsFlyingBy way frame d page home s → IsLeaving frame home s.frame s.bits s.flight
as-leaving Leaving frame d page home s way is = is
as-leaving Coming frame d page home s way is = cc

flight_line : (way : Way) (frame : Frame) (d : DeviceState) (page : ℕ) (home : Home) (s : Slot) (flight : Flight)
    → IsFlyingBy way frame d page home s → s.flight ≡ Some flight → flight.line < 64
flight_line Coming frame d page home s flight is flying = let there = rw flying at is.flies in there.0
flight_line Leaving frame d page home s flight is flying = let there = rw flying at is.flies in there.0

-- the line of a leaving page's flight isn't copied, so it is dirty, and its page is born
leaving_room : (m : MemoryView) (d : DeviceState) (k : ℕ) (s : Slot) (flight : Flight) → IsEntryOf m d k s
    → s.way ≡ Leaving → s.flight ≡ Some flight → HasRoom d s.page.0
leaving_room m d k s flight e way flying =
    let f = flies m d k s e in
    let leaving = as-leaving s.way (frame_at m.frames s.frame) d s.page.0 (home_at m s.page.0) s way f.by_way in
    let flight_is = rw flying at leaving.flies in
    let dirty = leaving.dirty flight.line flight_is.0 flight_is.1 in
    let born = e.located.accounts.dirty_born s.frame s.page.0 flight.line flight_is.0 f.holds dirty in
    has-room m d s.page.0 e.sound.table_sound e.located (page-within m d k s e) (born-allowed m s.page.0 born)

-- the entry's step can be made
pub entry-ready : (m : MemoryView) (d : DeviceState) (k : ℕ) (s : Slot) → IsEntryOf m d k s → IsReady m d k s
entry-ready m d k s e =
    let f = flies m d k s e in
    record {
      has = e.has;
      page = page-within m d k s e;
      frame = held-within m.frames s.frame s.page.0 f.holds;
      holds = f.holds;
      resident = f.resident;
      line = λ flight flying. flight_line s.way (frame_at m.frames s.frame) d s.page.0 (home_at m s.page.0) s flight f.by_way flying;
      room = λ flight way flying. leaving_room m d k s flight e way flying;
    }
