-- A store that a frame serves keeps the facts, and changes its line alone.
use Rattle.std.specs.Prelude.{is_some}
use Rattle.std.proofs.Common.{◌≡◌, ◌≢◌, ℕ, ◌+◌, ◌<◌, ◌≤◌, ◌==◌, Bool, true, false, List, length, set, Option, None, Some, inl, inr, refl, sym, ap, ◌∙◌, subst}
use Rattle.std.proofs.lemmas.Bool.{cases_Bool, cases_eq, eqb-false}
use Rattle.std.proofs.lemmas.List.{get_or-set_same, get_or-set_other}
use Rattle.std.proofs.lemmas.Option.{none-some, same_Some}
use Rattle.ff_base.specs.Page.{line_of}
use Rattle.ff_base.proofs.PageLines.{length-line_of}
use Rattle.ff_frames.specs.Frame.{free_frame}
use Rattle.ff_frames.specs.Frames.{frame_at}
use Rattle.ff_frames.specs.declared.frame.Frame.{Frame}
use Rattle.ff_lines.specs.DeviceState.{DeviceState, line_at}
use Rattle.ff_lines.specs.LineMask.{has_line}
use Rattle.ff_lines.specs.declared.line_mask.LineMask.{LineMask}
use Rattle.ff_lines.specs.Overlay.{overlaid}
use Rattle.ff_lines.proofs.DeviceLines.{length-line_at}
use Rattle.ff_memory.specs.Located.{IsAtRest, IsFlyingBy, IsInFlight, IsLeavingFlight, IsComingFlight, IsLocated, IsSited}
use Rattle.ff_memory.specs.Memory.{MemoryView, entry_at, home_at}
use Rattle.ff_memory.specs.LineBytes.{Holds, frame_in_flight, frame_of_page, line_from, line_bytes, store_in_flight}
use Rattle.ff_memory.specs.Stores.{IsFrameStore, IsStoreGiven, IsStored, carried_frame, carries, carries_by, stored_frame}
use Rattle.ff_memory.specs.declared.access.Access.{Access}
use Rattle.ff_plb.specs.Plb.{entry_of}
use Rattle.ff_plb.specs.Slot.{after_store, bits_after_store, flight_after_store, without_line}
use Rattle.ff_plb.specs.declared.slot.Flight.{Flight}
use Rattle.ff_plb.specs.declared.slot.Slot.{Slot}
use Rattle.ff_plb.specs.declared.slot.Way.{Way}
use Rattle.ff_plb.specs.declared.slot.Way.TheVariants.{Coming, Leaving}
use Rattle.ff_plb.proofs.Entries.{entry-there}
use Rattle.ff_table.specs.Table.{TableView, home_of, marks_of}
use Rattle.ff_table.specs.declared.table.Home.{Home}
use Rattle.ff_table.specs.declared.table.Home.TheVariants.{Host}
use Rattle.ff_memory.proofs.FlightMoves.{coming-line, entries-set, entry-set, leaving-line}
use Rattle.ff_memory.proofs.Flights.{held-within}
use Rattle.ff_memory.proofs.FrameStores.{IsWritten, base_of, carried-line, drains-like, is-written, written-clean, written-dirty, written-dirty_cases}
use Rattle.ff_memory.proofs.Lifts.{mask-cases, mask-here, mask-more, mask-other}
use Rattle.ff_memory.proofs.Moves.{IsMove, move-located, line_bytes-other}
use Rattle.ff_memory.proofs.Rooms.{born-more, born-now, few-born}
use Rattle.ff_memory.proofs.Sites.{SameAt, one-page}

-- the frame after the store
pub record IsFrameAfter (f p line from : ℕ) (piece : List ℕ) (m : MemoryView) (d : DeviceState) (m' : MemoryView) : Type 0 where
  pub held : Holds m.frames f p
  pub others : (g : ℕ) → g ≢ f → frame_at m'.frames g ≡ frame_at m.frames g
  pub written : IsWritten line from piece
      (base_of (carries (entry_at m p) line (length piece)) (line_at d p line) (line_of (frame_at m.frames f).bytes line))
      (frame_at m.frames f) (frame_at m'.frames f)

frame-after : (f p line from : ℕ) (piece : List ℕ) (m : MemoryView) (d : DeviceState) (access : Access) (m' : MemoryView) (d' : DeviceState)
    → IsStoreGiven p line from piece m d → Holds m.frames f p → IsFrameStore f p line from piece m d access m' d'
    → IsFrameAfter f p line from piece m d m'
frame-after f p line from piece m d access m' d' given held is =
    let carried : Bool = carries (entry_at m p) line (length piece) in
    let old : Frame = frame_at m.frames f in
    let new : Frame = stored_frame line from piece (carried_frame carried line (line_at d p line) old) in
    let in_frames = held-within m.frames f p held in
    let now : frame_at m'.frames f ≡ new =
    ap (λ (l : List Frame). frame_at l f) is.frames ∙ get_or-set_same m.frames f new free_frame in_frames in
    record {
      held = held;
      others = λ g other. ap (λ (l : List Frame). frame_at l g) is.frames ∙ get_or-set_other m.frames f g new free_frame other;
      written = rw now (
          is-written carried line from piece (line_at d p line) old given.low given.fits (given.sound.frames_sound.sized f)
          (length-line_at d p line given.device));
    }

page-after : (f p line from : ℕ) (piece : List ℕ) (m : MemoryView) (d : DeviceState) (m' : MemoryView)
    → IsFrameAfter f p line from piece m d m' → (g : ℕ) → (frame_at m'.frames g).page ≡ (frame_at m.frames g).page
page-after f p line from piece m d m' after g = elim (cases_eq g f) [
  | inl same ↦
      ap (λ (i : ℕ). (frame_at m'.frames i).page) same ∙ after.written.page ∙ ap (λ (i : ℕ). (frame_at m.frames i).page) (sym same)
  | inr other ↦ ap (λ (x : Frame). x.page) (after.others g other)
]

-- a page moves by a store that its frame serves
store-move : (f p line from : ℕ) (piece : List ℕ) (m : MemoryView) (d : DeviceState) (access : Access) (m' : MemoryView) (d' : DeviceState)
    → IsStoreGiven p line from piece m d → IsFrameStore f p line from piece m d access m' d' → IsFrameAfter f p line from piece m d m'
    → ((q : ℕ) → q ≢ p → entry_at m' q ≡ entry_at m q)
    → frame_of_page (home_at m' p) (entry_at m' p) ≡ frame_of_page (home_at m p) (entry_at m p)
    → is_some (entry_at m' p) ≡ is_some (entry_at m p) → IsSited m'.frames d' p (home_at m' p) (entry_at m' p)
    → IsMove p f m d m' d'
store-move f p line from piece m d access m' d' given is after entries frame some site =
    let like = drains-like (carries (entry_at m p) line (length piece)) m d d' is.device in
    let pages = page-after f p line from piece m d m' after in
    let table = given.sound.table_sound in
    let located = given.located in
    record {
      homes = λ q other. ap (λ (t : TableView). home_of t q) is.table;
      entries = entries;
      frames = after.others;
      owner = λ q held. one-page m.frames f p q after.held held;
      new_owner = λ q held. one-page m.frames f p q after.held (sym (pages f) ∙ held);
      device = λ q other. like.device q;
      pins = λ q other. like.pinned q;
      site = site;
      used = λ g held. frame ∙ located.used g p (sym (pages g) ∙ held);
      pin = like.pinned p ∙ located.pins p ∙ sym some;
      dirty_born = λ j low held dirty. rw is.table (born-now m.table p table given.within);
      written_born = λ q written.
          rw is.table (born-more m.table p q table given.within (located.accounts.written_born q (sym (like.written q) ∙ written)));
      born_more = λ q born. rw is.table (born-more m.table p q table given.within born);
      few_born = rw (is.table, is.capacity) (few-born m d p table located given.within given.allowed);
      room = like.room ∙ located.accounts.room ∙ sym is.capacity;
      pages = like.pages ∙ located.accounts.pages ∙ sym (ap (λ (t : TableView). length t.homes) is.table);
      marks = λ q. ap (λ (t : TableView). marks_of t q) is.table;
      unmarked = λ marked. frame ∙ located.accounts.marked_home p marked;
    }

-- what a store comes to
pub record StoresLine (p f line from : ℕ) (piece : List ℕ) (m : MemoryView) (d : DeviceState) (m' : MemoryView) (d' : DeviceState) : Type 0 where
  pub located : IsLocated m' d'
  pub stored : IsStored p line from piece m d m' d'

pub stores-line : (p f line from : ℕ) (piece : List ℕ) (m : MemoryView) (d : DeviceState) (m' : MemoryView) (d' : DeviceState)
    → IsLocated m d → IsMove p f m d m' d' → line_bytes m' d' p line ≡ overlaid (line_bytes m d p line) from piece
    → ((j : ℕ) → j < 64 → j ≢ line → line_bytes m' d' p j ≡ line_bytes m d p j) → StoresLine p f line from piece m d m' d'
stores-line p f line from piece m d m' d' located move here others = record {
  located = move-located p f m d m' d' located move;
  stored = record {
    here = here;
    others = λ q j low apart. elim (cases_eq q p) [
      | inl same ↦ rw same (others j low (apart same))
      | inr other ↦ line_bytes-other p f m d m' d' located move q j other
    ];
  };
}

-- a page at rest in a frame
pub rest-stores : (f p line from : ℕ) (piece : List ℕ) (m : MemoryView) (d : DeviceState) (access : Access) (m' : MemoryView) (d' : DeviceState)
    → IsStoreGiven p line from piece m d → home_at m p ≡ Host f → entry_at m p ≡ None
    → IsFrameStore f p line from piece m d access m' d' → StoresLine p f line from piece m d m' d'
rest-stores f p line from piece m d access m' d' given home none is =
    let old : Frame = frame_at m.frames f in
    let new : Frame = frame_at m'.frames f in
    let rest : IsAtRest m.frames d p (Host f) = rw (home, none) at (given.located.sites p) in
    let after = frame-after f p line from piece m d access m' d' given rest.0 is in
    let like = drains-like (carries (entry_at m p) line (length piece)) m d d' is.device in
    let slots : m'.slots ≡ m.slots = rw none at is.slots in
    let written : IsWritten line from piece (line_of old.bytes line) old new = rw none at after.written in
    let home' : home_at m' p ≡ Host f = ap (λ (t : TableView). home_of t p) is.table ∙ home in
    let entry : (q : ℕ) → entry_at m' q ≡ entry_at m q = λ q. ap (λ s. entry_of s q) slots in
    let none' : entry_at m' p ≡ None = entry p ∙ none in
    let move = store-move f p line from piece m d access m' d' given is after (λ q other. entry q)
    (rw (home', none', home, none) refl) (ap (λ (x : Option Slot). is_some x) (entry p))
    (rw (home', none') (
      page-after f p line from piece m d m' after f ∙ rest.0,
      λ j low clean.
          let before = written-clean line from piece (line_of old.bytes line) old new j given.low written clean in
          written.others j low before.0 ∙ rest.1 j low before.1 ∙ sym ((like.device p).lines j),
    )) in
    stores-line p f line from piece m d m' d' given.located move (rw (home', none', home, none) written.here)
    (λ j low other. rw (home', none', home, none) (written.others j low other))

coming_flight-after : (d d' : DeviceState) (p line : ℕ) (bits bits' : LineMask) (flight : Option Flight) → SameAt d d' p
    → ((j : ℕ) → has_line bits' j ≡ false → has_line bits j ≡ false) → IsComingFlight d p bits flight → IsComingFlight d' p bits' flight
coming_flight-after d d' p line bits bits' None same less is = tt
coming_flight-after d d' p line bits bits' (Some flight) same less is =
    (is.0, λ clear. is.1 (less flight.line clear) ∙ sym (same.lines flight.line))

leaving_flight-after : (old new : Frame) (line : ℕ) (bits : LineMask) (flight : Option Flight)
    → ((j : ℕ) → j < 64 → j ≢ line → line_of new.bytes j ≡ line_of old.bytes j) → IsLeavingFlight old bits flight
    → IsLeavingFlight new bits (without_line line flight)
leaving_flight-after old new line bits None others is = tt
leaving_flight-after old new line bits (Some flight) others is = elim (cases_Bool (flight.line == line)) [
  | inl same ↦ rw same tt
  | inr other ↦
      let apart : flight.line ≢ line = eqb-false flight.line line other in
      rw other (is.0, is.1, is.2 ∙ sym (others flight.line is.0 apart))
]

-- the facts of a page in flight after a store to its frame
store-flies : (way : Way) (old new : Frame) (d d' : DeviceState) (p line from : ℕ) (piece base : List ℕ) (home : Home) (s : Slot)
    → line < 64 → IsWritten line from piece base old new → SameAt d d' p → IsFlyingBy way old d p home s
    → IsFlyingBy way new d' p home
    (record s { bits = bits_after_store way line s.bits; flight = flight_after_store way line s.flight })
store-flies Coming old new d d' p line from piece base home s low written same is = record {
  home_is = is.home_is;
  idle = same.idle is.idle;
  clean = λ j within clean copied.
      let before = written-clean line from piece base old new j low written clean in
      written.others j within before.0
      ∙ is.clean j within before.1 (sym (mask-other s.bits line j low before.0) ∙ copied) ∙ sym (same.lines j);
  copied = λ j within dirty. elim (written-dirty_cases line from piece base old new j low written dirty) [
    | inl here ↦ ap (λ (i : ℕ). has_line (bits_after_store Coming line s.bits) i) here ∙ mask-here s.bits line low
    | inr before ↦ mask-more s.bits line j low (is.copied j within before)
  ];
  flies =
      coming_flight-after d d' p line s.bits (bits_after_store Coming line s.bits) s.flight same
      (λ j clear. elim (cases_Bool (has_line s.bits j)) [
        | inl has ↦ absurd (let a = mask-more s.bits line j low has in cc)
        | inr not ↦ not
      ])
      is.flies;
}
store-flies Leaving old new d d' p line from piece base home s low written same is = record {
  home_is = is.home_is;
  dirty = λ j within clear. written-dirty line from piece base old new j low written (is.dirty j within clear);
  flies = leaving_flight-after old new line s.bits s.flight written.others is.flies;
}

-- the frame that a store to a page in flight goes to is the entry's
pub store-frame : (way : Way) (at f : ℕ) (b : Bool) → store_in_flight way at b ≡ Some f → at ≡ f
store-frame Coming at f b goes = same_Some at f goes
store-frame Leaving at f true goes = absurd (none-some f goes)
store-frame Leaving at f false goes = same_Some at f goes

-- the line of a page in flight to which its frame served a store
store-here : (way : Way) (b : Bool) (m m' : MemoryView) (d d' : DeviceState) (p f line from : ℕ) (piece : List ℕ) (s : Slot) → line < 64
    → from + length piece ≤ 64 → has_line s.bits line ≡ b → store_in_flight way f b ≡ Some f → length (line_at d p line) ≡ 64
    → length (line_of (frame_at m.frames f).bytes line) ≡ 64
    → line_of (frame_at m'.frames f).bytes line
    ≡ overlaid (base_of (carries_by way b (length piece)) (line_at d p line) (line_of (frame_at m.frames f).bytes line)) from piece
    → line_from m'.frames d' p line (frame_in_flight way f (has_line (bits_after_store way line s.bits) line))
    ≡ overlaid (line_from m.frames d p line (frame_in_flight way f b)) from piece
store-here Coming b m m' d d' p f line from piece s low fits bit goes device frame here =
    let set = mask-here s.bits line low in
    rw set (here ∙ carried-line b (length piece) m.frames d p line f from piece refl fits device frame)
store-here Leaving true m m' d d' p f line from piece s low fits bit goes device frame here = absurd (none-some f goes)
store-here Leaving false m m' d d' p f line from piece s low fits bit goes device frame here = rw bit here

-- another line of it
store-other : (way : Way) (m m' : MemoryView) (d d' : DeviceState) (p f line j : ℕ) (s : Slot) → line < 64 → j ≢ line
    → line_of (frame_at m'.frames f).bytes j ≡ line_of (frame_at m.frames f).bytes j → line_at d' p j ≡ line_at d p j
    → line_from m'.frames d' p j (frame_in_flight way f (has_line (bits_after_store way line s.bits) j))
    ≡ line_from m.frames d p j (frame_in_flight way f (has_line s.bits j))
store-other Coming m m' d d' p f line j s low other frame device =
    coming-line (has_line s.bits j) (has_line (bits_after_store Coming line s.bits) j) m.frames m'.frames d d' p j f
    (mask-more s.bits line j low) (λ copied. frame)
    (λ before after. elim (mask-cases s.bits line j low after) [
      | inl same ↦ absurd (other same)
      | inr there ↦ absurd (let a = there in cc)
    ])
    device
store-other Leaving m m' d d' p f line j s low other frame device =
    leaving-line (has_line s.bits j) (has_line s.bits j) m.frames m'.frames d d' p j f (λ h. h) frame
    (λ before after. absurd (let a = after in cc)) (λ copied. device)

-- a page in flight
pub flight-stores : (f p line from : ℕ) (piece : List ℕ) (m : MemoryView) (d : DeviceState) (access : Access) (m' : MemoryView) (d' : DeviceState)
    (s : Slot) → IsStoreGiven p line from piece m d → entry_at m p ≡ Some s
    → store_in_flight s.way s.frame (has_line s.bits line) ≡ Some f → IsFrameStore f p line from piece m d access m' d'
    → StoresLine p f line from piece m d m' d'
flight-stores f p line from piece m d access m' d' s given some goes is =
    let old : Frame = frame_at m.frames f in
    let new : Frame = frame_at m'.frames f in
    let t : Slot = after_store line s in
    let at : s.frame ≡ f = store-frame s.way s.frame f (has_line s.bits line) goes in
    let flight : IsInFlight m.frames d p (home_at m p) s = rw some at (given.located.sites p) in
    let held : Holds m.frames f p = subst (λ (i : ℕ). Holds m.frames i p) at flight.holds in
    let after = frame-after f p line from piece m d access m' d' given held is in
    let like = drains-like (carries (entry_at m p) line (length piece)) m d d' is.device in
    let hit = rw some at is.slots in
    let page : s.page.0 ≡ p = (entry-there m.slots p s some).page_is in
    let apart = given.sound.pages_apart in
    let now : entry_at m' p ≡ Some t =
    ap (λ x. entry_of x p) hit.2 ∙ ap (λ (q : ℕ). entry_of (set m.slots hit.0 (Some t)) q) (sym page)
    ∙ entry-set m.slots hit.0 s t apart hit.1.in_range hit.1.there refl in
    let entries : (q : ℕ) → q ≢ p → entry_at m' q ≡ entry_at m q =
    λ q other. ap (λ x. entry_of x q) hit.2 ∙ entries-set m.slots hit.0 s t hit.1.there refl q (λ e. other (e ∙ page)) in
    let home : home_at m' p ≡ home_at m p = ap (λ (x : TableView). home_of x p) is.table in
    let written = rw some at after.written in
    let by_way : IsFlyingBy s.way old d p (home_at m p) s = subst (λ (i : ℕ). IsFlyingBy s.way (frame_at m.frames i) d p (home_at m p) s) at flight.by_way in
    let pinned : d.pinned p ≡ true = rw some at (given.located.pins p) in
    let move = store-move f p line from piece m d access m' d' given is after entries (rw (now, some) refl) (rw (now, some) refl)
    (rw (now, home) record {
      holds = ap (λ (i : ℕ). (frame_at m'.frames i).page) at ∙ page-after f p line from piece m d m' after f ∙ held;
      resident = (like.device p).resident pinned flight.resident;
      by_way =
          subst (λ (i : ℕ). IsFlyingBy s.way (frame_at m'.frames i) d' p (home_at m p) t) (sym at)
          (store-flies s.way old new d d' p line from piece _ (home_at m p) s given.low written (like.device p) by_way);
    }) in
    let to : store_in_flight s.way f (has_line s.bits line) ≡ Some f =
    ap (λ (i : ℕ). store_in_flight s.way i (has_line s.bits line)) (sym at) ∙ goes in
    stores-line p f line from piece m d m' d' given.located move
    (rw (now, some, at) (
    store-here s.way (has_line s.bits line) m m' d d' p f line from piece s given.low given.fits refl to
    (length-line_at d p line given.device) (length-line_of old.bytes line (given.sound.frames_sound.sized f) given.low) written.here))
    (λ j low other. rw (now, some, at) (
    store-other s.way m m' d d' p f line j s given.low other (written.others j low other) ((like.device p).lines j)))
