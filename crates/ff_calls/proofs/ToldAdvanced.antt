-- What a history says still stands after each step of a page in flight.
use Rattle.std.proofs.Common.{◌≡◌, ◌≤◌, ◌<◌, inl, inr, ℕ, ◌/◌, ◌%◌, Bool, true, false, List, length, get_or, Option, Some, None, refl, sym, ap, ◌∙◌, arith, length-set}
use Rattle.std.proofs.lemmas.Bool.{cases_eq, cases_lt}
use Rattle.std.proofs.lemmas.List.{get_or_past}
use Rattle.std.proofs.lemmas.Nat.Bits.{bit_at-zero}
use Rattle.std.proofs.lemmas.Option.{none-some}
use Rattle.ff_base.specs.Page.{line_of}
use Rattle.ff_base.proofs.PageLines.{length-line_of}
use Rattle.ff_frames.specs.Frames.{frame_at}
use Rattle.ff_frames.specs.declared.frame.Frame.{Frame}
use Rattle.ff_kept.specs.Keeping.{IsKeepingDevice}
use Rattle.ff_kept.proofs.KeepingDrained.{keeping-drained, keeping-pinned}
use Rattle.ff_kept.proofs.KeepingPosted.{keeping-landed}
use Rattle.ff_lines.specs.DeviceState.{DeviceState, IsDevice}
use Rattle.ff_lines.specs.LineMask.{has_line}
use Rattle.ff_lines.specs.declared.post.Post.{Post}
use Rattle.ff_memory.specs.Advances.{Advances, AdvancesBy, FinishesOrLifts, IsFinished, IsLandedOnDevice, IsLifted, LandsBy, LiftsFrom, finished_by}
use Rattle.ff_memory.specs.Located.{IsLocated}
use Rattle.ff_memory.specs.Memory.{IsMemorySound, MemoryView, entry_at, home_at}
use Rattle.ff_memory.specs.LineBytes.{SameLineBytes, line_bytes}
use Rattle.ff_memory.specs.declared.access.What.{What}
use Rattle.ff_memory.specs.declared.access.What.TheVariants.{Finished, Landed, Dropped, Lifted, Started, Worked, Drained, Sealed, Collected}
use Rattle.ff_memory.proofs.FlightMoves.{line-before}
use Rattle.ff_memory.proofs.Flights.{IsEntryOf, as-leaving, entry-is, flies, page-within}
use Rattle.ff_model.specs.Callers.{is_marked}
use Rattle.ff_model.specs.Flat.{flat_byte_of}
use Rattle.ff_model.specs.Legal.{Opening}
use Rattle.ff_model.specs.declared.history.Entry.{Entry}
use Rattle.ff_plb.specs.Plb.{slot_at}
use Rattle.ff_plb.specs.declared.slot.Flight.{Flight}
use Rattle.ff_plb.specs.declared.slot.Slot.{Slot}
use Rattle.ff_plb.specs.declared.slot.Way.{Way}
use Rattle.ff_plb.specs.declared.slot.Way.TheVariants.{Coming, Leaving}
use Rattle.ff_table.specs.Table.{marks_of}
use Rattle.ff_table.specs.declared.table.Home.TheVariants.{Ssd, Host}
use Rattle.ff_calls.specs.Told.{IsTold}
use Rattle.ff_calls.proofs.ToldBegun.{says-table}
use Rattle.ff_calls.proofs.ToldMoved.{SaysSame, told-moved}

-- what a step leaves that a history speaks of
record StepKeeps (opening : Opening) (entries : List Entry) (m : MemoryView) (d : DeviceState) (m' : MemoryView) (d' : DeviceState)
    : Type 0 where
  says : SaysSame m m'
  faults : d.faults ≤ d'.faults
  keeping : IsKeepingDevice opening.base entries d'

-- a page with an entry has no marked line
pub unmarked-entry : (m : MemoryView) (d : DeviceState) (page : ℕ) (entry : Slot) → IsLocated m d → entry_at m page ≡ Some entry
    → marks_of m.table page ≡ 0
unmarked-entry m d page entry located some = elim (cases_eq (marks_of m.table page) 0) [
  | inl none ↦ none
  | inr marked ↦ absurd (none-some entry.frame (sym (rw some at (located.accounts.marked_home page marked))))
]

-- a page without marks is none of the history's marked lines
pub is_marked-none : (opening : Opening) (entries : List Entry) (m : MemoryView) (d : DeviceState) (page line : ℕ)
    → IsTold opening entries m d → line < 64 → marks_of m.table page ≡ 0 → is_marked opening.base entries page line ≡ false
is_marked-none opening entries m d page line told low none =
    sym (told.marks page line low) ∙ rw (none, bit_at-zero line) refl

says-finished : (way : Way) (slot : ℕ) (entry : Slot) (m : MemoryView) → SaysSame m (finished_by way slot entry m)
says-finished Coming slot entry m = record {
  pages = length-set m.table.homes entry.page.0 (Host entry.frame);
  capacity = refl;
  born = λ page. refl;
  marks = λ page. refl;
}
says-finished Leaving slot entry m = record {
  pages = length-set m.table.homes entry.page.0 Ssd;
  capacity = refl;
  born = λ page. refl;
  marks = λ page. refl;
}

finished-told : (opening : Opening) (entries : List Entry) (m : MemoryView) (d : DeviceState) (k : ℕ) (s : Slot) (m' : MemoryView)
    (d' : DeviceState) → IsTold opening entries m d → IsFinished k s m d m' d' → StepKeeps opening entries m d m' d'
finished-told opening entries m d k s m' d' told is =
    let same = is.device.residence.faults in
    record {
      says = rw is.memory (says-finished s.way k s m);
      faults = omega arith;
      keeping = keeping-pinned opening.base entries s.page.0 false d d' is.device told.keeping;
    }

lifts-told : (way : Way) (opening : Opening) (entries : List Entry) (m : MemoryView) (d d' : DeviceState)
    → IsTold opening entries m d → IsDevice d → LiftsFrom way d d' → (d.faults ≤ d'.faults) × IsKeepingDevice opening.base entries d'
lifts-told Coming opening entries m d d' told device is =
    let same = is.residence.faults in
    (omega arith, keeping-drained opening entries d d' told.legal device is told.keeping)
lifts-told Leaving opening entries m d d' told device is = rw is (omega arith, told.keeping)

lifted-told : (opening : Opening) (entries : List Entry) (m : MemoryView) (d : DeviceState) (k : ℕ) (s : Slot) (m' : MemoryView)
    (d' : DeviceState) → IsTold opening entries m d → IsDevice d → IsLifted k s m d m' d' → StepKeeps opening entries m d m' d'
lifted-told opening entries m d k s m' d' told device is =
    let lifts = lifts-told s.way opening entries m d d' told device is.device in
    record {
      says = says-table m m' (ap (λ (v : MemoryView). v.table) is.memory) (ap (λ (v : MemoryView). v.capacity) is.memory);
      faults = lifts.0;
      keeping = lifts.1;
    }

finishes_or_lifts-told : (what : What) (opening : Opening) (entries : List Entry) (m : MemoryView) (d : DeviceState) (k : ℕ)
    (s : Slot) (m' : MemoryView) (d' : DeviceState) → IsTold opening entries m d → IsDevice d
    → FinishesOrLifts what k s m d m' d' → StepKeeps opening entries m d m' d'
finishes_or_lifts-told Finished opening entries m d k s m' d' told device is = finished-told opening entries m d k s m' d' told is
finishes_or_lifts-told Lifted opening entries m d k s m' d' told device is = lifted-told opening entries m d k s m' d' told device is
finishes_or_lifts-told Landed opening entries m d k s m' d' told device is = absurd is
finishes_or_lifts-told Dropped opening entries m d k s m' d' told device is = absurd is
finishes_or_lifts-told Started opening entries m d k s m' d' told device is = absurd is
finishes_or_lifts-told Worked opening entries m d k s m' d' told device is = absurd is
finishes_or_lifts-told Drained opening entries m d k s m' d' told device is = absurd is
finishes_or_lifts-told Sealed opening entries m d k s m' d' told device is = absurd is
finishes_or_lifts-told Collected opening entries m d k s m' d' told device is = absurd is

-- a memory changed and its device didn't
quiet-told : (opening : Opening) (entries : List Entry) (m : MemoryView) (d : DeviceState) (m' : MemoryView) (d' : DeviceState)
    → IsTold opening entries m d → SaysSame m m' → d' ≡ d → StepKeeps opening entries m d m' d'
quiet-told opening entries m d m' d' told says is = rw is record { says = says; faults = omega arith; keeping = told.keeping }

-- a line that a leaving page's frame serves
leaving-line_bytes : (m : MemoryView) (d : DeviceState) (k : ℕ) (s : Slot) (line : ℕ) → IsEntryOf m d k s → s.way ≡ Leaving
    → has_line s.bits line ≡ false → line_bytes m d s.page.0 line ≡ line_of (frame_at m.frames s.frame).bytes line
leaving-line_bytes m d k s line e way clear = line-before m d k s line e ∙ rw (way, clear) refl

-- a leaving page's line was posted: it isn't marked, and has the flat bytes
landed-told : (opening : Opening) (entries : List Entry) (m : MemoryView) (d : DeviceState) (k : ℕ) (s : Slot) (flight : Flight)
    (m' : MemoryView) (d' : DeviceState) → IsTold opening entries m d → IsEntryOf m d k s → s.way ≡ Leaving
    → s.flight ≡ Some flight → IsLandedOnDevice k s flight m d m' d' → StepKeeps opening entries m d m' d'
landed-told opening entries m d k s flight m' d' told e way flying is =
    let p = s.page.0 in
    let line = flight.line in
    let frame : Frame = frame_at m.frames s.frame in
    let post : Post = record { page = s.page; line = line; from = 0; bytes = flight.bytes; position = None } in
    let fl = flies m d k s e in
    let leaving = as-leaving s.way frame d p (home_at m p) s way fl.by_way in
    let flight_is = rw flying at leaving.flies in
    let low : line < 64 = flight_is.0 in
    let size : length frame.bytes ≡ 4096 = e.sound.frames_sound.sized s.frame in
    let count : length flight.bytes ≡ 64 = ap length flight_is.2 ∙ length-line_of frame.bytes line size low in
    let here : flight.bytes ≡ line_bytes m d p line = flight_is.2 ∙ sym (leaving-line_bytes m d k s line e way flight_is.1) in
    let within = page-within m d k s e in
    let pages = told.pages in
    let same = is.device.residence.faults in
    let right : (address : ℕ) → address / 4096 ≡ p → address % 4096 / 64 ≡ line
    → get_or flight.bytes (address % 64) 0 ≡ flat_byte_of opening.base entries address =
    λ address on_page on_line.
    ap (λ (bytes : List ℕ). get_or bytes (address % 64) 0) here
    ∙ ap (λ (q : ℕ). get_or (line_bytes m d q line) (address % 64) 0) (sym on_page)
    ∙ ap (λ (j : ℕ). get_or (line_bytes m d (address / 4096) j) (address % 64) 0) (sym on_line)
    ∙ told.flat address (omega arith) in
    record {
      says = says-table m m' (ap (λ (v : MemoryView). v.table) is.memory) (ap (λ (v : MemoryView). v.capacity) is.memory);
      faults = omega arith;
      keeping = keeping-landed opening entries post d d' told.legal e.device
          (record { line = low; span = omega arith }) is.device refl
          (is_marked-none opening entries m d p line told low (unmarked-entry m d p s e.located (entry-is m d k s e)))
          refl count right told.keeping;
    }

lands-told : (way : Way) (copied : Bool) (what : What) (opening : Opening) (entries : List Entry) (m : MemoryView) (d : DeviceState)
    (k : ℕ) (s : Slot) (flight : Flight) (m' : MemoryView) (d' : DeviceState) → IsTold opening entries m d → IsEntryOf m d k s
    → s.way ≡ way → s.flight ≡ Some flight → LandsBy way copied k s flight m d what m' d' → StepKeeps opening entries m d m' d'
lands-told Coming true what opening entries m d k s flight m' d' told e way flying is =
    let by = is.1 in
    quiet-told opening entries m d m' d' told
    (says-table m m' (ap (λ (v : MemoryView). v.table) by.memory) (ap (λ (v : MemoryView). v.capacity) by.memory)) by.device
lands-told Coming false what opening entries m d k s flight m' d' told e way flying is =
    let by = is.1 in
    quiet-told opening entries m d m' d' told
    (says-table m m' (ap (λ (v : MemoryView). v.table) by.memory) (ap (λ (v : MemoryView). v.capacity) by.memory)) by.device
lands-told Leaving copied what opening entries m d k s flight m' d' told e way flying is =
    landed-told opening entries m d k s flight m' d' told e way flying is.1

steps-told : (flight : Option Flight) (what : What) (opening : Opening) (entries : List Entry) (m : MemoryView) (d : DeviceState)
    (k : ℕ) (s : Slot) (m' : MemoryView) (d' : DeviceState) → IsTold opening entries m d → IsEntryOf m d k s → s.flight ≡ flight
    → AdvancesBy flight k s m d what m' d' → StepKeeps opening entries m d m' d'
steps-told None what opening entries m d k s m' d' told e flying is =
    finishes_or_lifts-told what opening entries m d k s m' d' told e.device is
steps-told (Some flight) what opening entries m d k s m' d' told e flying is =
    lands-told s.way (has_line s.bits flight.line) what opening entries m d k s flight m' d' told e refl flying is

-- a slot that has an entry is one of the slots
slot-within : (slots : List (Option Slot)) (k : ℕ) (s : Slot) → slot_at slots k ≡ Some s → k < length slots
slot-within slots k s there = elim (cases_lt k (length slots)) [
  | inl within ↦ within
  | inr past ↦ absurd (none-some s (sym (get_or_past slots k None past) ∙ there))
]

advances-told : (at : Option Slot) (what : What) (opening : Opening) (entries : List Entry) (m : MemoryView) (d : DeviceState)
    (k : ℕ) (m' : MemoryView) (d' : DeviceState) → IsTold opening entries m d → IsMemorySound m → IsDevice d
    → slot_at m.slots k ≡ at → Advances k at m d what m' d' → StepKeeps opening entries m d m' d'
advances-told None what opening entries m d k m' d' told sound device there is = absurd is
advances-told (Some s) what opening entries m d k m' d' told sound device there is =
    let e : IsEntryOf m d k s = record {
      sound = sound;
      device = device;
      located = told.located;
      has = record { in_range = slot-within m.slots k s there; there = there };
    } in
    steps-told s.flight what opening entries m d k s m' d' told e refl is

-- a page in flight made its step
pub told-advanced : (opening : Opening) (entries : List Entry) (slot : ℕ) (what : What) (m : MemoryView) (d : DeviceState)
    (m' : MemoryView) (d' : DeviceState) → IsTold opening entries m d → IsMemorySound m → IsDevice d
    → Advances slot (slot_at m.slots slot) m d what m' d' → IsLocated m' d' → SameLineBytes m d m' d' → IsTold opening entries m' d'
told-advanced opening entries slot what m d m' d' told sound device is located same_lines =
    let step = advances-told (slot_at m.slots slot) what opening entries m d slot m' d' told sound device refl is in
    told-moved opening entries m d m' d' told step.says located same_lines step.faults step.keeping
