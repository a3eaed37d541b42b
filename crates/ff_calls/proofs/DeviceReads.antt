-- Which bytes of the device the history has: those of lines that the device serves, the marked ones among them.
use Rattle.std.proofs.Common.{◌≡◌, ◌≢◌, ◌<◌, inl, inr, ℕ, ◌%◌, ◌==◌, Bool, true, false, List, length, get_or, Option, Some, None, refl, sym, ap, ◌∙◌, arith}
use Rattle.std.specs.Int.{bit_at}
use Rattle.std.proofs.lemmas.Bool.{cases_eq, cases_lt}
use Rattle.std.proofs.lemmas.List.{get_or_past}
use Rattle.std.proofs.lemmas.Nat.Bits.{bit_at-zero}
use Rattle.std.proofs.lemmas.Option.{none-some}
use Rattle.ff_kept.specs.Marked.{marked_at}
use Rattle.ff_kept.specs.Posted.{device_byte}
use Rattle.ff_lines.specs.DeviceState.{DeviceState}
use Rattle.ff_lines.specs.LineMask.{has_line}
use Rattle.ff_memory.specs.Memory.{IsMemorySound, MemoryView, entry_at, home_at}
use Rattle.ff_memory.specs.LineBytes.{frame_for, frame_in_flight, frame_of_page, line_from, line_in_page, page_of, serving_frame, store_frame_for, store_in_flight, storing_frame}
use Rattle.ff_model.specs.Callers.{is_marked}
use Rattle.ff_model.specs.Flat.{flat_byte_of}
use Rattle.ff_model.specs.Legal.{Opening}
use Rattle.ff_model.specs.declared.history.Entry.{Entry}
use Rattle.ff_plb.specs.declared.slot.Slot.{Slot}
use Rattle.ff_plb.specs.declared.slot.Way.{Way}
use Rattle.ff_plb.specs.declared.slot.Way.TheVariants.{Coming, Leaving}
use Rattle.ff_table.specs.Table.{marks_of}
use Rattle.ff_table.specs.declared.table.Home.{Home}
use Rattle.ff_calls.specs.Told.{IsTold}

-- the device serves the lines of a page that has no frame
pub serving-home : (home : Home) (entry : Option Slot) (line : ℕ) → frame_of_page home entry ≡ None → frame_for home entry line ≡ None
serving-home home None line none = none
serving-home home (Some s) line none = absurd (none-some s.frame (sym none))

flight-stored : (way : Way) (frame : ℕ) (copied : Bool) → store_in_flight way frame copied ≡ None
    → frame_in_flight way frame copied ≡ None
flight-stored Coming frame copied none = absurd (none-some frame (sym none))
flight-stored Leaving frame copied none = none

-- the device serves a line to which stores are posted
pub serving-posted : (home : Home) (entry : Option Slot) (line : ℕ) → store_frame_for home entry line ≡ None
    → frame_for home entry line ≡ None
serving-posted home None line none = none
serving-posted home (Some s) line none = flight-stored s.way s.frame (has_line s.bits line) none

-- a page without a frame stores to none
pub storing-home : (home : Home) (entry : Option Slot) (line : ℕ) → frame_of_page home entry ≡ None → store_frame_for home entry line ≡ None
storing-home home None line none = none
storing-home home (Some s) line none = absurd (none-some s.frame (sym none))

-- a byte that the device serves is the history's
pub device_byte-served : (opening : Opening) (entries : List Entry) (m : MemoryView) (d : DeviceState) (address : ℕ)
    → IsTold opening entries m d → page_of address < length m.table.homes
    → serving_frame m (page_of address) (line_in_page address) ≡ None
    → device_byte d address ≡ flat_byte_of opening.base entries address
device_byte-served opening entries m d address told within served =
    let size = told.pages in
    ap (λ (from : Option ℕ). get_or (line_from m.frames d (page_of address) (line_in_page address) from) (address % 64) 0) (sym served)
    ∙ told.flat address (omega arith)

-- a page with a marked line has marks
marks-some : (opening : Opening) (entries : List Entry) (m : MemoryView) (d : DeviceState) (page line : ℕ)
    → IsTold opening entries m d → line < 64 → is_marked opening.base entries page line ≡ true → marks_of m.table page ≢ 0
marks-some opening entries m d page line told low marked none =
    let clear : (bit_at (marks_of m.table page) line == 1) ≡ false = rw (none, bit_at-zero line) refl in
    let set : (bit_at (marks_of m.table page) line == 1) ≡ true = told.marks page line low ∙ marked in
    absurd (cc (clear, set))

-- a page with marks is one of the pages
marks-within : (m : MemoryView) (page : ℕ) → IsMemorySound m → marks_of m.table page ≢ 0 → page < length m.table.homes
marks-within m page sound some = elim (cases_lt page (length m.table.homes)) [
  | inl within ↦ within
  | inr past ↦
      let size = sound.table_sound.marked in
      absurd (some (get_or_past m.table.marks page 0 (omega arith)))
]

-- a marked byte reads on the device as the history says
pub device_byte-marked : (opening : Opening) (entries : List Entry) (m : MemoryView) (d : DeviceState) (address : ℕ)
    → IsTold opening entries m d → IsMemorySound m → marked_at opening.base entries address ≡ true
    → device_byte d address ≡ flat_byte_of opening.base entries address
device_byte-marked opening entries m d address told sound marked =
    let page : ℕ = page_of address in
    let line : ℕ = line_in_page address in
    let some = marks-some opening entries m d page line told (omega arith) marked in
    device_byte-served opening entries m d address told (marks-within m page sound some)
    (serving-home (home_at m page) (entry_at m page) line (told.located.accounts.marked_home page some))

-- a line to which stores go into a frame isn't marked
pub unmarked-framed : (opening : Opening) (entries : List Entry) (m : MemoryView) (d : DeviceState) (page line frame : ℕ)
    → IsTold opening entries m d → line < 64 → storing_frame m page line ≡ Some frame → is_marked opening.base entries page line ≡ false
unmarked-framed opening entries m d page line frame told low goes = elim (cases_eq (marks_of m.table page) 0) [
  | inl none ↦ sym (told.marks page line low) ∙ rw (none, bit_at-zero line) refl
  | inr some ↦
      let home = told.located.accounts.marked_home page some in
      absurd (none-some frame (sym (storing-home (home_at m page) (entry_at m page) line home) ∙ goes))
]
