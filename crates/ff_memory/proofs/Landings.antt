-- A line of a page in flight lands: in its frame, or on the device.
use Rattle.std.proofs.Common.{◌≡◌, ◌≢◌, ℕ, ◌<◌, ◌==◌, not, true, false, List, [], ◌∷◌, ◌++◌, length, None, Some, inl, inr, refl, sym, ap, ◌∙◌, arith}
use Rattle.std.proofs.lemmas.Bool.{and_left, and_right, cases_eq, eq-eqb, eqb-true, ne_eqb, or_cases, or_from, or_parts, and_parts}
use Rattle.std.proofs.lemmas.List.{get_or-set_same, get_or-set_other, drop_all}
use Rattle.std.proofs.lemmas.Grind.{common_steps}
use Rattle.ff_base.specs.Page.{line_of}
use Rattle.ff_base.proofs.PageLines.{length-line_of, line_of-with_line_same, line_of-with_line_other}
use Rattle.ff_frames.specs.Frame.{cleaned_frame, filled_frame, free_frame}
use Rattle.ff_frames.specs.Frames.{frame_at}
use Rattle.ff_frames.specs.declared.frame.Frame.{Frame}
use Rattle.ff_lines.specs.DeviceState.{DeviceState, IsPosted, line_at}
use Rattle.ff_lines.specs.LineMask.{has_line}
use Rattle.ff_lines.specs.Overlay.{overlaid}
use Rattle.ff_lines.specs.Posts.{is_to, waits_in}
use Rattle.ff_lines.specs.declared.post.Post.{Post}
use Rattle.ff_lines.proofs.DeviceLines.{length-line_at, line_at-posted}
use Rattle.ff_lines.proofs.MaskLines.{has_line-mask_without}
use Rattle.ff_memory.specs.Advances.{IsLandedInFrame, IsLandedOnDevice}
use Rattle.ff_memory.specs.Located.{IsLeaving}
use Rattle.ff_memory.specs.Memory.{MemoryView, frame_set, home_at, slot_set}
use Rattle.ff_plb.specs.declared.slot.Flight.{Flight}
use Rattle.ff_plb.specs.declared.slot.Slot.{Slot}
use Rattle.ff_plb.specs.declared.slot.Way.{Way}
use Rattle.ff_plb.specs.declared.slot.Way.TheVariants.{Coming, Leaving}
use Rattle.ff_table.specs.Table.{is_born_in}
use Rattle.ff_table.specs.declared.table.Home.{Home}
use Rattle.ff_memory.specs.Located.{IsFlyingBy}
use Rattle.ff_memory.proofs.FlightMoves.{IsFlightStep, coming-line, flight-move, leaving-line, line-after, line-before}
use Rattle.ff_memory.proofs.Flights.{IsEntryOf, as-coming, as-leaving, flies, held-within}
use Rattle.ff_memory.proofs.Lifts.{KeepsLinesOf, as-flying, landed_entry, landing-is, mask-cases, mask-here, mask-more, mask-other}
use Rattle.ff_memory.proofs.Sites.{SameAt, same-device}

-- a frame into which a line was copied
pub filled-here : (frame : Frame) (line : ℕ) (bytes : List ℕ) → length frame.bytes ≡ 4096 → line < 64 → length bytes ≡ 64
    → line_of (filled_frame line bytes frame).bytes line ≡ bytes
filled-here frame line bytes size within count = line_of-with_line_same frame.bytes line bytes size within count

pub filled-other : (frame : Frame) (line j : ℕ) (bytes : List ℕ) → length frame.bytes ≡ 4096 → line < 64 → length bytes ≡ 64
    → j ≢ line → line_of (filled_frame line bytes frame).bytes j ≡ line_of frame.bytes j
filled-other frame line j bytes size within count other =
    line_of-with_line_other frame.bytes line j bytes size within count (λ e. other (sym e))

-- a line of a frame that was copied to the device
cleaned-other : (frame : Frame) (line j : ℕ) → line < 64 → j < 64 → j ≢ line → has_line frame.dirty j ≡ true
    → has_line (cleaned_frame line frame).dirty j ≡ true
cleaned-other frame line j within low other dirty =
    let test : (j == line) ≡ false = ne_eqb j line other in has_line-mask_without frame.dirty line j within low ∙ rw (test, dirty) refl

cleaned-dirty : (frame : Frame) (line j : ℕ) → line < 64 → j < 64 → has_line (cleaned_frame line frame).dirty j ≡ true
    → has_line frame.dirty j ≡ true
cleaned-dirty frame line j within low dirty =
    let parts = and_parts (not (j == line)) (has_line frame.dirty j) (sym (has_line-mask_without frame.dirty line j within low) ∙ dirty) in
    parts.1

-- a line of a coming page lands in its frame
pub landed_in_frame-keeps : (m : MemoryView) (d : DeviceState) (k : ℕ) (s : Slot) (flight : Flight) (m' : MemoryView) (d' : DeviceState)
    → IsEntryOf m d k s → s.way ≡ Coming → s.flight ≡ Some flight → flight.line < 64 → has_line s.bits flight.line ≡ false
    → IsLandedInFrame k s flight m d m' d' → KeepsLinesOf s.page.0 s.frame m d m' d'
landed_in_frame-keeps m d k s flight m' d' e way flying within clear is =
    let p = s.page.0 in
    let line = flight.line in
    let frame : Frame = frame_at m.frames s.frame in
    let new : Frame = filled_frame line flight.bytes frame in
    let t : Slot = landed_entry flight s in
    let coming = as-coming s.way frame d p (home_at m p) s way (flies m d k s e).by_way in
    let here : flight.bytes ≡ line_at d p line = let there = rw flying at coming.flies in there.1 clear in
    let count : length flight.bytes ≡ 64 = ap length here ∙ length-line_at d p line e.device in
    let size : length frame.bytes ≡ 4096 = e.sound.frames_sound.sized s.frame in
    let in_frames = held-within m.frames s.frame p (flies m d k s e).holds in
    let next : MemoryView = frame_set s.frame (filled_frame line flight.bytes) (slot_set k (Some t) m) in
    let now : frame_at next.frames s.frame ≡ new = get_or-set_same m.frames s.frame new free_frame in_frames in
    let kept : (j : ℕ) → j ≢ line → line_of new.bytes j ≡ line_of frame.bytes j = λ j other. filled-other frame line j flight.bytes size within count other in
    let put : line_of new.bytes line ≡ flight.bytes = filled-here frame line flight.bytes size within count in
    let by_way = as-flying s.way new d p (home_at m p) t way record {
      home_is = coming.home_is;
      idle = coming.idle;
      clean = λ j low clean copied. elim (cases_eq j line) [
        | inl same ↦ ap (λ (i : ℕ). line_of new.bytes i) same ∙ put ∙ here ∙ ap (λ (i : ℕ). line_at d p i) (sym same)
        | inr other ↦ kept j other ∙ coming.clean j low clean (sym (mask-other s.bits line j within other) ∙ copied)
      ];
      copied = λ j low dirty. mask-more s.bits line j within (coming.copied j low dirty);
      flies = tt;
    } in
    let step : IsFlightStep m d k s t next d = record {
      entry = e;
      same_page = refl;
      same_frame = refl;
      slots = refl;
      others = λ g other. get_or-set_other m.frames s.frame g new free_frame other;
      held = ap (λ (f : Frame). f.page) now;
      homes = λ q other. refl;
      device = λ q other. same-device d q;
      pins = λ q. refl;
      resident = (flies m d k s e).resident;
      by_way = rw now by_way;
      dirty_born = λ j low dirty.
          e.located.accounts.dirty_born s.frame p j low (flies m d k s e).holds (sym (ap (λ (f : Frame). has_line f.dirty j) now) ∙ dirty);
      written_born = e.located.accounts.written_born;
      born_more = λ q born. born;
      few_born = e.located.accounts.few_born;
      room = e.located.accounts.room;
      pages = e.located.accounts.pages;
      marks = λ q. refl;
    } in
    let memory : m' ≡ next = is.memory ∙ ap (λ (x : Slot). frame_set s.frame (filled_frame line flight.bytes) (slot_set k (Some x) m)) (landing-is s flight flying) in
    let now_line : (j : ℕ) → line_of (frame_at next.frames s.frame).bytes j ≡ line_of new.bytes j = λ j. ap (λ (f : Frame). line_of f.bytes j) now in
    rw (memory, is.device) record {
      move = flight-move m d k s t next d step;
      lines = λ j low.
          line-after m d k s t next d j step
          ∙ rw way (
          coming-line (has_line s.bits j) (has_line t.bits j) m.frames next.frames d d p j s.frame
          (mask-more s.bits line j within)
          (λ copied. now_line j ∙ kept j (λ same. let a = ap (λ (i : ℕ). has_line s.bits i) same in cc))
          (λ before after. elim (mask-cases s.bits line j within after) [
            | inl same ↦ now_line j ∙ ap (λ (i : ℕ). line_of new.bytes i) same ∙ put ∙ here ∙ ap (λ (i : ℕ). line_at d p i) (sym same)
            | inr there ↦ absurd (let a = there in cc)
          ])
          refl)
          ∙ sym (line-before m d k s j e);
    }

-- a whole line is laid over a line
pub overlaid-whole : (line bytes : List ℕ) → length line ≡ 64 → length bytes ≡ 64 → overlaid line 0 bytes ≡ bytes
overlaid-whole line bytes size count = grind (arith, common_steps, drop_all)

any_after : (posts later : List Post) (q : ℕ) → waits_in posts q ≡ false → waits_in later q ≡ false → waits_in (posts ++ later) q ≡ false
any_after [] later q none others = others
any_after (post ∷ rest) later q none others =
    let parts = or_parts (post.page.0 == q) (waits_in rest q) none in
    or_from (post.page.0 == q) (waits_in (rest ++ later) q) parts.0 (any_after rest later q parts.1 others)

any_part : (posts later : List Post) (q : ℕ) → waits_in (posts ++ later) q ≡ false → waits_in later q ≡ false
any_part [] later q none = none
any_part (post ∷ rest) later q none = any_part rest later q (or_parts (post.page.0 == q) (waits_in (rest ++ later) q) none).1

-- a post leaves the lines of another page, or another line
pub posted-line_other : (post : Post) (d d' : DeviceState) (q j : ℕ) → IsPosted post d d' → (q ≡ post.page.0 → j ≢ post.line)
    → line_at d' q j ≡ line_at d q j
posted-line_other post d d' q j is other = elim (cases_eq post.page.0 q) [
  | inl same ↦
      let line : (post.line == j) ≡ false = ne_eqb post.line j (λ e. other (sym same) (sym e)) in
      let to : is_to q j post ≡ false = and_right (post.page.0 == q) (post.line == j) line in
      line_at-posted post d d' q j is ∙ rw to refl
  | inr apart ↦
      let page : (post.page.0 == q) ≡ false = ne_eqb post.page.0 q apart in
      let to : is_to q j post ≡ false = and_left (post.page.0 == q) (post.line == j) page in
      line_at-posted post d d' q j is ∙ rw to refl
]

pub posted-line_here : (post : Post) (d d' : DeviceState) → IsPosted post d d'
    → line_at d' post.page.0 post.line ≡ overlaid (line_at d post.page.0 post.line) post.from post.bytes
posted-line_here post d d' is =
    let page : (post.page.0 == post.page.0) ≡ true = eq-eqb post.page.0 post.page.0 refl in
    let line : (post.line == post.line) ≡ true = eq-eqb post.line post.line refl in
    line_at-posted post d d' post.page.0 post.line is ∙ rw (page, line) refl

pub posted-same : (post : Post) (d d' : DeviceState) (q : ℕ) → IsPosted post d d' → q ≢ post.page.0 → SameAt d d' q
posted-same post d d' q is other = record {
  lines = λ j. posted-line_other post d d' q j is (λ same. absurd (other same));
  idle = λ idle.
      let kept = any_part is.drained is.kept q (ap (λ posts. waits_in posts q) (sym is.drains.split) ∙ idle) in
      let page : (post.page.0 == q) ≡ false = ne_eqb post.page.0 q (λ e. other (sym e)) in
      let last : waits_in (post ∷ []) q ≡ false = or_from (post.page.0 == q) false page refl in
      ap (λ posts. waits_in posts q) is.posts ∙ any_after is.kept (post ∷ []) q kept last;
  resident = λ pinned resident. is.residence.resident q ∙ resident;
}

as-flying_out : (way : Way) (frame : Frame) (d : DeviceState) (p : ℕ) (home : Home) (s : Slot) → way ≡ Leaving
    → IsLeaving frame home s.frame s.bits s.flight → IsFlyingBy way frame d p home s
as-flying_out Leaving frame d p home s way is = is
as-flying_out Coming frame d p home s way is = cc

-- a line of a leaving page lands on the device
pub landed_on_device-keeps : (m : MemoryView) (d : DeviceState) (k : ℕ) (s : Slot) (flight : Flight) (m' : MemoryView) (d' : DeviceState)
    → IsEntryOf m d k s → s.way ≡ Leaving → s.flight ≡ Some flight → IsLandedOnDevice k s flight m d m' d'
    → KeepsLinesOf s.page.0 s.frame m d m' d'
landed_on_device-keeps m d k s flight m' d' e way flying is =
    let p = s.page.0 in
    let line = flight.line in
    let frame : Frame = frame_at m.frames s.frame in
    let new : Frame = cleaned_frame line frame in
    let t : Slot = landed_entry flight s in
    let post : Post = record { page = s.page; line = line; from = 0; bytes = flight.bytes; position = None } in
    let fl = flies m d k s e in
    let leaving = as-leaving s.way frame d p (home_at m p) s way fl.by_way in
    let flight_is = rw flying at leaving.flies in
    let within : line < 64 = flight_is.0 in
    let size : length frame.bytes ≡ 4096 = e.sound.frames_sound.sized s.frame in
    let count : length flight.bytes ≡ 64 = ap length flight_is.2 ∙ length-line_of frame.bytes line size within in
    let in_frames = held-within m.frames s.frame p fl.holds in
    let next : MemoryView = frame_set s.frame (cleaned_frame line) (slot_set k (Some t) m) in
    let now : frame_at next.frames s.frame ≡ new = get_or-set_same m.frames s.frame new free_frame in_frames in
    let born : is_born_in m.table p ≡ true =
    e.located.accounts.dirty_born s.frame p line within fl.holds (leaving.dirty line within flight_is.1) in
    let by_way = as-flying_out s.way new d' p (home_at m p) t way record {
      home_is = leaving.home_is;
      dirty = λ j low clear.
          let other : j ≢ line = λ same. let a = ap (λ (i : ℕ). has_line t.bits i) same in let b = mask-here s.bits line within in cc in
          cleaned-other frame line j within low other (leaving.dirty j low (sym (mask-other s.bits line j within other) ∙ clear));
      flies = tt;
    } in
    let step : IsFlightStep m d k s t next d' = record {
      entry = e;
      same_page = refl;
      same_frame = refl;
      slots = refl;
      others = λ g other. get_or-set_other m.frames s.frame g new free_frame other;
      held = ap (λ (f : Frame). f.page) now;
      homes = λ q other. refl;
      device = λ q other. posted-same post d d' q is.device other;
      pins = is.device.pinned;
      resident = is.device.residence.resident p ∙ fl.resident;
      by_way = rw now by_way;
      dirty_born = λ j low dirty. born;
      written_born = λ q written. elim (or_cases (q == p) (d.written q) (sym (is.device.written q) ∙ written)) [
        | inl same ↦ ap (λ (i : ℕ). is_born_in m.table i) (eqb-true q p same) ∙ born
        | inr before ↦ e.located.accounts.written_born q before
      ];
      born_more = λ q b. b;
      few_born = e.located.accounts.few_born;
      room = is.device.residence.sizes.room ∙ e.located.accounts.room;
      pages = is.device.residence.sizes.pages ∙ e.located.accounts.pages;
      marks = λ q. refl;
    } in
    let memory : m' ≡ next = is.memory ∙ ap (λ (x : Slot). frame_set s.frame (cleaned_frame line) (slot_set k (Some x) m)) (landing-is s flight flying) in
    let put : line_at d' p line ≡ line_of frame.bytes line =
    posted-line_here post d d' is.device ∙ overlaid-whole (line_at d p line) flight.bytes (length-line_at d p line e.device) count ∙ flight_is.2 in
    rw memory record {
      move = flight-move m d k s t next d' step;
      lines = λ j low.
          line-after m d k s t next d' j step
          ∙ rw way (
          leaving-line (has_line s.bits j) (has_line t.bits j) m.frames next.frames d d' p j s.frame
          (mask-more s.bits line j within) (ap (λ (f : Frame). line_of f.bytes j) now)
          (λ before after. elim (mask-cases s.bits line j within after) [
            | inl same ↦ ap (λ (i : ℕ). line_at d' p i) same ∙ put ∙ ap (λ (i : ℕ). line_of frame.bytes i) (sym same)
            | inr there ↦ absurd (let a = there in cc)
          ])
          (λ copied. posted-line_other post d d' p j is.device (λ page same. let a = ap (λ (i : ℕ). has_line s.bits i) same in let b = flight_is.1 in cc)))
          ∙ sym (line-before m d k s j e);
    }
