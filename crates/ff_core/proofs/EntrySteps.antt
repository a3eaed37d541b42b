-- What a step of a page in flight leaves of its entry.
use Rattle.std.proofs.Common.{◌≡◌, ◌≢◌, ◌<◌, ℕ, Bool, true, false, List, length, Option, Some, None, inl, inr, refl, sym, ap, ◌∙◌, arith, length-set}
use Rattle.std.specs.Option.{is_some}
use Rattle.std.proofs.lemmas.Bool.{cases_eq}
use Rattle.std.proofs.lemmas.Grind.{get_or-set_at}
use Rattle.std.proofs.lemmas.List.{get_or-set_other}
use Rattle.std.proofs.lemmas.Option.{none-some, same_Some}
use Rattle.ff_cache.proofs.Full.{all_below_at, all_below_true}
use Rattle.ff_lines.specs.DeviceState.{DeviceState}
use Rattle.ff_lines.specs.LineMask.{has_line}
use Rattle.ff_memory.specs.Advances.{Advances, AdvancesBy, FinishesOrLifts, IsLifted, LandsBy, finished_by, source_line}
use Rattle.ff_memory.specs.Memory.{IsMemorySound, MemoryView, entry_at, home_at}
use Rattle.ff_memory.specs.declared.access.What.{What}
use Rattle.ff_memory.specs.declared.access.What.TheVariants.{Finished, Landed, Dropped, Lifted, Started, Worked, Drained, Sealed, Collected}
use Rattle.ff_memory.proofs.Finishes.{home-other}
use Rattle.ff_plb.specs.Plb.{HasEntry, entry_if, entry_of, slot_at, with_slot}
use Rattle.ff_plb.specs.Slot.{after_landing, after_lift}
use Rattle.ff_plb.specs.declared.slot.Flight.{Flight}
use Rattle.ff_plb.specs.declared.slot.Slot.{Slot}
use Rattle.ff_plb.specs.declared.slot.Way.{Way}
use Rattle.ff_plb.specs.declared.slot.Way.TheVariants.{Coming, Leaving}
use Rattle.ff_plb.proofs.Entries.{apart-same, entry-gone, entry-now, entry-other, entry_if-other}
use Rattle.ff_table.specs.Table.{TableView, with_home}
use Rattle.ff_table.specs.declared.table.Home.TheVariants.{Ssd, Host}
use Rattle.ff_core.specs.EventsLeft.{entry_steps, is_full_buffer, slot_steps}
use Rattle.ff_core.proofs.LinesLeft.{entry_some, landed_fewer, lifted_fewer}

-- the entry in a slot goes, or stays that of its page with fewer steps
pub record IsEntryStep (slot : ℕ) (entry : Slot) (m m' : MemoryView) : Type 0 where
  pub after : Option Slot
  pub slots : m'.slots ≡ with_slot m.slots slot after
  pub fewer : slot_steps after < entry_steps entry
  pub page : (left : Slot) → after ≡ Some left → left.page ≡ entry.page
  pub way : (left : Slot) → after ≡ Some left → left.way ≡ entry.way
  pub ends : after ≡ None → entry.way ≡ Leaving → m'.table ≡ with_home entry.page.0 Ssd m.table
  pub homes : (q : ℕ) → q ≢ entry.page.0 → home_at m' q ≡ home_at m q

finished-step : (way : Way) (slot : ℕ) (entry : Slot) (m m' : MemoryView) → entry.way ≡ way
    → m' ≡ finished_by way slot entry m → IsEntryStep slot entry m m'
finished-step Coming slot entry m m' way is = record {
  after = None;
  slots = ap (λ (n : MemoryView). n.slots) is;
  fewer = entry_some entry;
  page = λ left some. absurd (none-some left some);
  way = λ left some. absurd (none-some left some);
  ends = λ none leaves. let e = sym way ∙ leaves in cc;
  homes = λ q other. ap (λ (n : MemoryView). home_at n q) is ∙ home-other m.table.homes entry.page.0 q (Host entry.frame) other;
}
finished-step Leaving slot entry m m' way is = record {
  after = None;
  slots = ap (λ (n : MemoryView). n.slots) is;
  fewer = entry_some entry;
  page = λ left some. absurd (none-some left some);
  way = λ left some. absurd (none-some left some);
  ends = λ none leaves. ap (λ (n : MemoryView). n.table) is;
  homes = λ q other. ap (λ (n : MemoryView). home_at n q) is ∙ home-other m.table.homes entry.page.0 q Ssd other;
}

-- the entry stays
stayed : (slot : ℕ) (entry left : Slot) (m m' : MemoryView) → m'.slots ≡ with_slot m.slots slot (Some left) → m'.table ≡ m.table
    → left.page ≡ entry.page → left.way ≡ entry.way → entry_steps left < entry_steps entry → IsEntryStep slot entry m m'
stayed slot entry left m m' slots table page way fewer = record {
  after = Some left;
  slots = slots;
  fewer = fewer;
  page = λ other some. ap (λ (s : Slot). s.page) (sym (same_Some left other some)) ∙ page;
  way = λ other some. ap (λ (s : Slot). s.way) (sym (same_Some left other some)) ∙ way;
  ends = λ none leaves. absurd (none-some left (sym none));
  homes = λ q other. ap (λ (t : TableView). home_at (record m { table = t }) q) table;
}

landed_page : (entry : Slot) (flight : Flight) → entry.flight ≡ Some flight → (after_landing entry).page ≡ entry.page
landed_page entry flight flying = rw flying refl

landed_way : (entry : Slot) (flight : Flight) → entry.flight ≡ Some flight → (after_landing entry).way ≡ entry.way
landed_way entry flight flying = rw flying refl

landed : (slot : ℕ) (entry : Slot) (flight : Flight) (m m' : MemoryView) → entry.flight ≡ Some flight
    → m'.slots ≡ with_slot m.slots slot (Some (after_landing entry)) → m'.table ≡ m.table → IsEntryStep slot entry m m'
landed slot entry flight m m' flying slots table =
    stayed slot entry (after_landing entry) m m' slots table (landed_page entry flight flying) (landed_way entry flight flying)
    (landed_fewer entry flight flying)

lands : (way : Way) (copied : Bool) (slot : ℕ) (entry : Slot) (flight : Flight) (m : MemoryView) (d : DeviceState) (what : What)
    (m' : MemoryView) (d' : DeviceState) → entry.flight ≡ Some flight → LandsBy way copied slot entry flight m d what m' d'
    → IsEntryStep slot entry m m'
lands Coming true slot entry flight m d what m' d' flying is =
    landed slot entry flight m m' flying (ap (λ (n : MemoryView). n.slots) is.1.memory) (ap (λ (n : MemoryView). n.table) is.1.memory)
lands Coming false slot entry flight m d what m' d' flying is =
    landed slot entry flight m m' flying (ap (λ (n : MemoryView). n.slots) is.1.memory) (ap (λ (n : MemoryView). n.table) is.1.memory)
lands Leaving copied slot entry flight m d what m' d' flying is =
    landed slot entry flight m m' flying (ap (λ (n : MemoryView). n.slots) is.1.memory) (ap (λ (n : MemoryView). n.table) is.1.memory)

lifted : (slot : ℕ) (entry : Slot) (m : MemoryView) (d : DeviceState) (m' : MemoryView) (d' : DeviceState) → entry.flight ≡ None
    → IsLifted slot entry m d m' d' → IsEntryStep slot entry m m'
lifted slot entry m d m' d' still is =
    let flight : Flight = record { line = is.line; bytes = source_line entry.way m d entry is.line } in
    stayed slot entry (after_lift flight entry) m m' (ap (λ (n : MemoryView). n.slots) is.memory)
    (ap (λ (n : MemoryView). n.table) is.memory) refl refl (lifted_fewer entry flight still is.least)

finishes_or_lifts : (what : What) (slot : ℕ) (entry : Slot) (m : MemoryView) (d : DeviceState) (m' : MemoryView) (d' : DeviceState)
    → entry.flight ≡ None → FinishesOrLifts what slot entry m d m' d' → IsEntryStep slot entry m m'
finishes_or_lifts Finished slot entry m d m' d' still is = finished-step entry.way slot entry m m' refl is.memory
finishes_or_lifts Lifted slot entry m d m' d' still is = lifted slot entry m d m' d' still is
finishes_or_lifts Landed slot entry m d m' d' still is = absurd is
finishes_or_lifts Dropped slot entry m d m' d' still is = absurd is
finishes_or_lifts Started slot entry m d m' d' still is = absurd is
finishes_or_lifts Worked slot entry m d m' d' still is = absurd is
finishes_or_lifts Drained slot entry m d m' d' still is = absurd is
finishes_or_lifts Sealed slot entry m d m' d' still is = absurd is
finishes_or_lifts Collected slot entry m d m' d' still is = absurd is

advances_by : (flight : Option Flight) (slot : ℕ) (entry : Slot) (m : MemoryView) (d : DeviceState) (what : What) (m' : MemoryView)
    (d' : DeviceState) → entry.flight ≡ flight → AdvancesBy flight slot entry m d what m' d' → IsEntryStep slot entry m m'
advances_by None slot entry m d what m' d' flying is = finishes_or_lifts what slot entry m d m' d' flying is
advances_by (Some flight) slot entry m d what m' d' flying is =
    lands entry.way (has_line entry.bits flight.line) slot entry flight m d what m' d' flying is

-- the step of the entry in a slot
pub entry_step : (found : Option Slot) (slot : ℕ) (entry : Slot) (m : MemoryView) (d : DeviceState) (what : What) (m' : MemoryView)
    (d' : DeviceState) → found ≡ Some entry → Advances slot found m d what m' d' → IsEntryStep slot entry m m'
entry_step None slot entry m d what m' d' there is = absurd is
entry_step (Some found) slot entry m d what m' d' there is =
    let same : found ≡ entry = same_Some found entry there in
    rw same at (advances_by found.flight slot found m d what m' d' refl is)

-- an entry whose step was made
pub record IsStepped (slot : ℕ) (entry : Slot) (m m' : MemoryView) : Type 0 where
  pub sound : IsMemorySound m
  pub has : HasEntry m.slots slot entry
  pub step : IsEntryStep slot entry m m'

-- what its slot has then
pub stepped_slot : (slot : ℕ) (entry : Slot) (m m' : MemoryView) → (s : IsStepped slot entry m m')
    → slot_at m'.slots slot ≡ s.step.after
stepped_slot slot entry m m' s =
    ap (λ (slots : List (Option Slot)). slot_at slots slot) s.step.slots
    ∙ get_or-set_at m.slots slot slot s.step.after None refl s.has.in_range

-- what its page has then
here_by : (after : Option Slot) (slot : ℕ) (entry : Slot) (m m' : MemoryView) → (s : IsStepped slot entry m m')
    → s.step.after ≡ after → entry_of (with_slot m.slots slot after) entry.page.0 ≡ after
here_by None slot entry m m' s is = entry-gone m.slots slot entry s.sound.pages_apart s.has.in_range s.has.there
here_by (Some left) slot entry m m' s is =
    let page = s.step.page left is in
    let number : left.page.0 ≡ entry.page.0 = ap (λ p. p.0) page in
    ap (λ (q : ℕ). entry_of (with_slot m.slots slot (Some left)) q) (sym number)
    ∙ entry-now m.slots slot left s.has.in_range
    (apart-same m.slots slot entry left s.sound.pages_apart s.has.in_range s.has.there page)

pub stepped_here : (slot : ℕ) (entry : Slot) (m m' : MemoryView) → (s : IsStepped slot entry m m')
    → entry_at m' entry.page.0 ≡ s.step.after
stepped_here slot entry m m' s =
    ap (λ (slots : List (Option Slot)). entry_of slots entry.page.0) s.step.slots ∙ here_by s.step.after slot entry m m' s refl

other_by : (after : Option Slot) (slot : ℕ) (entry : Slot) (m m' : MemoryView) (q : ℕ) → (s : IsStepped slot entry m m')
    → s.step.after ≡ after → q ≢ entry.page.0 → entry_if after q ≡ None
other_by None slot entry m m' q s is other = refl
other_by (Some left) slot entry m m' q s is other =
    entry_if-other left q (λ e. other (sym e ∙ ap (λ p. p.0) (s.step.page left is)))

-- other pages' entries stay
pub stepped_other : (slot : ℕ) (entry : Slot) (m m' : MemoryView) (q : ℕ) → (s : IsStepped slot entry m m')
    → q ≢ entry.page.0 → entry_at m' q ≡ entry_at m q
stepped_other slot entry m m' q s other =
    let before : entry_if (slot_at m.slots slot) q ≡ None =
    ap (λ (found : Option Slot). entry_if found q) s.has.there ∙ entry_if-other entry q (λ e. other (sym e)) in
    ap (λ (slots : List (Option Slot)). entry_of slots q) s.step.slots
    ∙ entry-other m.slots slot s.step.after q (other_by s.step.after slot entry m m' q s refl other) before

-- no slot is filled
pub stepped_full : (slot : ℕ) (entry : Slot) (m m' : MemoryView) → (s : IsStepped slot entry m m')
    → is_full_buffer m'.slots ≡ true → is_full_buffer m.slots ≡ true
stepped_full slot entry m m' s full =
    let size : length m'.slots ≡ length m.slots = ap length s.step.slots ∙ length-set m.slots slot s.step.after in
    all_below_true (λ (k : ℕ). is_some (slot_at m.slots k)) (length m.slots) (λ k below. elim (cases_eq k slot) [
      | inl here ↦ ap (λ (j : ℕ). is_some (slot_at m.slots j)) here ∙ ap (λ (found : Option Slot). is_some found) s.has.there
      | inr apart ↦
          ap (λ (found : Option Slot). is_some found)
          (sym (get_or-set_other m.slots slot k s.step.after None apart)
          ∙ ap (λ (slots : List (Option Slot)). slot_at slots k) (sym s.step.slots))
          ∙ all_below_at (λ (j : ℕ). is_some (slot_at m'.slots j)) (length m'.slots) k full (omega (arith, size))
    ])
