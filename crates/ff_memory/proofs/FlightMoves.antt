-- A step of a page in flight that leaves it in flight.
use Rattle.std.proofs.Common.{◌≡◌, ◌≢◌, ℕ, ◌<◌, ◌≤◌, Bool, true, false, List, length, set, Option, Some, inl, inr, refl, sym, ap, ◌∙◌, subst}
use Rattle.std.proofs.lemmas.Bool.{cases_eq}
use Rattle.std.proofs.lemmas.Option.{none-some}
use Rattle.ff_base.specs.Page.{line_of}
use Rattle.ff_frames.specs.Frames.{frame_at}
use Rattle.ff_frames.specs.declared.frame.Frame.{Frame}
use Rattle.ff_lines.specs.DeviceState.{DeviceState, line_at}
use Rattle.ff_lines.specs.LineMask.{has_line}
use Rattle.ff_memory.specs.Located.{IsFlyingBy}
use Rattle.ff_memory.specs.Memory.{MemoryView, entry_at, home_at}
use Rattle.ff_memory.specs.LineBytes.{Holds, frame_in_flight, line_from, line_bytes}
use Rattle.ff_plb.specs.Plb.{ArePagesApart, entry_if, entry_of, slot_at}
use Rattle.ff_plb.specs.declared.slot.Slot.{Slot}
use Rattle.ff_plb.specs.declared.slot.Way.TheVariants.{Coming, Leaving}
use Rattle.ff_plb.proofs.Entries.{apart-same, entry-now, entry-other, entry_if-other}
use Rattle.ff_table.specs.Table.{born_count_in, is_born_in, marks_of}
use Rattle.ff_memory.proofs.Flights.{IsEntryOf, entry-is, flies}
use Rattle.ff_memory.proofs.Moves.{IsMove}
use Rattle.ff_memory.proofs.Sites.{SameAt, one-page}

-- the entries after an entry was replaced by another of its page
pub entries-set : (slots : List (Option Slot)) (k : ℕ) (s t : Slot) → slot_at slots k ≡ Some s → t.page ≡ s.page
    → (q : ℕ) → q ≢ s.page.0 → entry_of (set slots k (Some t)) q ≡ entry_of slots q
entries-set slots k s t there same q other =
    let apart_s : s.page.0 ≢ q = λ e. other (sym e) in
    let apart_t : t.page.0 ≢ q = λ e. other (sym (sym (ap (λ p. p.0) same) ∙ e)) in
    entry-other slots k (Some t) q (entry_if-other t q apart_t) (ap (λ (x : Option Slot). entry_if x q) there ∙ entry_if-other s q apart_s)

pub entry-set : (slots : List (Option Slot)) (k : ℕ) (s t : Slot) → ArePagesApart slots → k < length slots → slot_at slots k ≡ Some s
    → t.page ≡ s.page → entry_of (set slots k (Some t)) s.page.0 ≡ Some t
entry-set slots k s t apart within there same =
    ap (λ p. entry_of (set slots k (Some t)) p) (sym (ap (λ p. p.0) same))
    ∙ entry-now slots k t within (apart-same slots k s t apart within there same)

-- a step of the entry s in slot k, after which the entry is t
pub record IsFlightStep (m : MemoryView) (d : DeviceState) (k : ℕ) (s t : Slot) (m' : MemoryView) (d' : DeviceState) : Type 0 where
  pub entry : IsEntryOf m d k s
  pub same_page : t.page ≡ s.page
  pub same_frame : t.frame ≡ s.frame
  pub slots : m'.slots ≡ set m.slots k (Some t)
  pub others : (g : ℕ) → g ≢ s.frame → frame_at m'.frames g ≡ frame_at m.frames g
  pub held : (frame_at m'.frames s.frame).page ≡ (frame_at m.frames s.frame).page
  pub homes : (q : ℕ) → q ≢ s.page.0 → home_at m' q ≡ home_at m q
  pub device : (q : ℕ) → q ≢ s.page.0 → SameAt d d' q
  pub pins : (q : ℕ) → d'.pinned q ≡ d.pinned q
  pub resident : d'.resident s.page.0 ≡ true
  pub by_way : IsFlyingBy t.way (frame_at m'.frames s.frame) d' s.page.0 (home_at m' s.page.0) t
  pub dirty_born : (line : ℕ) → line < 64 → has_line (frame_at m'.frames s.frame).dirty line ≡ true
      → is_born_in m'.table s.page.0 ≡ true
  pub written_born : (q : ℕ) → d'.written q ≡ true → is_born_in m'.table q ≡ true
  pub born_more : (q : ℕ) → is_born_in m.table q ≡ true → is_born_in m'.table q ≡ true
  pub few_born : born_count_in m'.table ≤ m'.capacity
  pub room : d'.room ≡ m'.capacity
  pub pages : d'.pages ≡ length m'.table.homes
  pub marks : (q : ℕ) → marks_of m'.table q ≡ marks_of m.table q

entry-after : (m : MemoryView) (d : DeviceState) (k : ℕ) (s t : Slot) (m' : MemoryView) (d' : DeviceState)
    → IsFlightStep m d k s t m' d' → entry_at m' s.page.0 ≡ Some t
entry-after m d k s t m' d' step =
    ap (λ x. entry_of x s.page.0) step.slots
    ∙ entry-set m.slots k s t step.entry.sound.pages_apart step.entry.has.in_range step.entry.has.there step.same_page

owner-before : (m : MemoryView) (d : DeviceState) (k : ℕ) (s : Slot) → IsEntryOf m d k s → (q : ℕ) → Holds m.frames s.frame q
    → q ≡ s.page.0
owner-before m d k s e q holds = one-page m.frames s.frame s.page.0 q (flies m d k s e).holds holds

used-after : (m : MemoryView) (d : DeviceState) (k : ℕ) (s t : Slot) (m' : MemoryView) (d' : DeviceState)
    → IsFlightStep m d k s t m' d' → (g : ℕ) → Holds m'.frames g s.page.0 → Some t.frame ≡ Some g
used-after m d k s t m' d' step g holds = elim (cases_eq g s.frame) [
  | inl here ↦ ap Some (step.same_frame ∙ sym here)
  | inr elsewhere ↦
      let before = ap (λ (x : Frame). x.page) (sym (step.others g elsewhere)) ∙ holds in
      let is : Some s.frame ≡ Some g = rw (entry-is m d k s step.entry) at (step.entry.located.used g s.page.0 before) in
      ap Some step.same_frame ∙ is
]

pub flight-move : (m : MemoryView) (d : DeviceState) (k : ℕ) (s t : Slot) (m' : MemoryView) (d' : DeviceState)
    → IsFlightStep m d k s t m' d' → IsMove s.page.0 s.frame m d m' d'
flight-move m d k s t m' d' step =
    let e = step.entry in
    let after = entry-after m d k s t m' d' step in
    let before = entry-is m d k s e in
    record {
      homes = step.homes;
      entries = λ q other. ap (λ x. entry_of x q) step.slots ∙ entries-set m.slots k s t e.has.there step.same_page q other;
      frames = step.others;
      owner = owner-before m d k s e;
      new_owner = λ q holds. owner-before m d k s e q (sym step.held ∙ holds);
      device = step.device;
      pins = λ q other. step.pins q;
      site = rw after record {
        holds = ap (λ (g : ℕ). (frame_at m'.frames g).page) step.same_frame ∙ step.held ∙ (flies m d k s e).holds;
        resident = step.resident;
        by_way =
            subst (λ (f : ℕ). IsFlyingBy t.way (frame_at m'.frames f) d' s.page.0 (home_at m' s.page.0) t) (sym step.same_frame) step.by_way;
      };
      used = λ g holds. rw after (used-after m d k s t m' d' step g holds);
      pin = rw after (step.pins s.page.0 ∙ rw before at (e.located.pins s.page.0));
      dirty_born = λ line within holds dirty. step.dirty_born line within dirty;
      written_born = step.written_born;
      born_more = step.born_more;
      few_born = step.few_born;
      room = step.room;
      pages = step.pages;
      marks = step.marks;
      unmarked = λ marked. absurd (none-some s.frame (sym (rw before at (e.located.accounts.marked_home s.page.0 marked))));
    }

-- a line of the page, before and after
pub line-before : (m : MemoryView) (d : DeviceState) (k : ℕ) (s : Slot) (line : ℕ) → IsEntryOf m d k s
    → line_bytes m d s.page.0 line ≡ line_from m.frames d s.page.0 line (frame_in_flight s.way s.frame (has_line s.bits line))
line-before m d k s line e = rw (entry-is m d k s e) refl

pub line-after : (m : MemoryView) (d : DeviceState) (k : ℕ) (s t : Slot) (m' : MemoryView) (d' : DeviceState) (line : ℕ)
    → IsFlightStep m d k s t m' d'
    → line_bytes m' d' s.page.0 line ≡ line_from m'.frames d' s.page.0 line (frame_in_flight t.way t.frame (has_line t.bits line))
line-after m d k s t m' d' line step = rw (entry-after m d k s t m' d' step) refl

-- a line of a coming page stays: a copied line stays in the frame, a line that becomes copied is the device's
pub coming-line : (b b' : Bool) (frames frames' : List Frame) (d d' : DeviceState) (p j f : ℕ) → (b ≡ true → b' ≡ true)
    → (b ≡ true → line_of (frame_at frames' f).bytes j ≡ line_of (frame_at frames f).bytes j)
    → (b ≡ false → b' ≡ true → line_of (frame_at frames' f).bytes j ≡ line_at d p j) → line_at d' p j ≡ line_at d p j
    → line_from frames' d' p j (frame_in_flight Coming f b') ≡ line_from frames d p j (frame_in_flight Coming f b)
coming-line true true frames frames' d d' p j f more kept new same = kept refl
coming-line true false frames frames' d d' p j f more kept new same = let no = more refl in cc
coming-line false true frames frames' d d' p j f more kept new same = new refl refl
coming-line false false frames frames' d d' p j f more kept new same = same

-- a line of a leaving page stays: a line that isn't copied stays in the frame, a line that becomes copied is on the device
pub leaving-line : (b b' : Bool) (frames frames' : List Frame) (d d' : DeviceState) (p j f : ℕ) → (b ≡ true → b' ≡ true)
    → line_of (frame_at frames' f).bytes j ≡ line_of (frame_at frames f).bytes j
    → (b ≡ false → b' ≡ true → line_at d' p j ≡ line_of (frame_at frames f).bytes j) → (b ≡ true → line_at d' p j ≡ line_at d p j)
    → line_from frames' d' p j (frame_in_flight Leaving f b') ≡ line_from frames d p j (frame_in_flight Leaving f b)
leaving-line true true frames frames' d d' p j f more kept new same = same refl
leaving-line true false frames frames' d d' p j f more kept new same = let no = more refl in cc
leaving-line false true frames frames' d d' p j f more kept new same = new refl refl
leaving-line false false frames frames' d d' p j f more kept new same = kept
