-- Steps of a page in flight that change its entry alone: a lift, and a flight that is dropped.
use Rattle.std.proofs.Common.{◌≡◌, ◌≢◌, ℕ, ◌<◌, ◌==◌, ◌⊎◌, Bool, true, false, set, Option, None, Some, inl, inr, refl, sym, ap, ◌∙◌}
use Rattle.std.proofs.lemmas.Bool.{eq-eqb, ne_eqb, or_cases, eqb-true, or_left, or_right}
use Rattle.ff_frames.specs.Frames.{frame_at}
use Rattle.ff_frames.specs.declared.frame.Frame.{Frame}
use Rattle.ff_lines.specs.DeviceState.{DeviceState}
use Rattle.ff_lines.specs.LineMask.{has_line, mask_with}
use Rattle.ff_lines.specs.declared.line_mask.LineMask.{LineMask}
use Rattle.ff_lines.proofs.MaskLines.{has_line-mask_with}
use Rattle.ff_memory.specs.Advances.{IsDropped, IsLifted, LiftsFrom, source_line}
use Rattle.ff_memory.specs.Located.{IsComing, IsFlyingBy}
use Rattle.ff_memory.specs.Memory.{MemoryView, home_at, slot_set}
use Rattle.ff_memory.specs.LineBytes.{frame_in_flight, line_bytes}
use Rattle.ff_plb.specs.Slot.{after_landing, after_lift, landed_with}
use Rattle.ff_plb.specs.declared.slot.Flight.{Flight}
use Rattle.ff_plb.specs.declared.slot.Slot.{Slot}
use Rattle.ff_plb.specs.declared.slot.Way.{Way}
use Rattle.ff_plb.specs.declared.slot.Way.TheVariants.{Coming, Leaving}
use Rattle.ff_table.specs.declared.table.Home.{Home}
use Rattle.ff_memory.proofs.Alike.{IsLike, like-drained, like-none, line-like}
use Rattle.ff_memory.proofs.FlightMoves.{IsFlightStep, coming-line, flight-move, line-after, line-before}
use Rattle.ff_memory.proofs.Flights.{IsEntryOf, as-coming, entry-is, flies}
use Rattle.ff_memory.proofs.Moves.{IsMove}
use Rattle.ff_memory.proofs.Sites.{alike-same, flying-other}

-- a page moves, and its lines stay
pub record KeepsLinesOf (p f : ℕ) (m : MemoryView) (d : DeviceState) (m' : MemoryView) (d' : DeviceState) : Type 0 where
  pub move : IsMove p f m d m' d'
  pub lines : (line : ℕ) → line < 64 → line_bytes m' d' p line ≡ line_bytes m d p line

-- the page's pin
pub pinned-of : (m : MemoryView) (d : DeviceState) (k : ℕ) (s : Slot) → IsEntryOf m d k s → d.pinned s.page.0 ≡ true
pinned-of m d k s e = rw (entry-is m d k s e) at (e.located.pins s.page.0)

-- the entry changes alone
pub quiet-step : (m : MemoryView) (d : DeviceState) (k : ℕ) (s t : Slot) (d' : DeviceState) → IsEntryOf m d k s → IsLike m d m d'
    → t.page ≡ s.page → t.frame ≡ s.frame → IsFlyingBy t.way (frame_at m.frames s.frame) d' s.page.0 (home_at m s.page.0) t
    → IsFlightStep m d k s t (slot_set k (Some t) m) d'
quiet-step m d k s t d' e like page frame by_way = record {
  entry = e;
  same_page = page;
  same_frame = frame;
  slots = refl;
  others = λ g other. refl;
  held = refl;
  homes = λ q other. refl;
  device = λ q other. like.device q;
  pins = like.pinned;
  resident = (like.device s.page.0).resident (pinned-of m d k s e) (flies m d k s e).resident;
  by_way = by_way;
  dirty_born = λ line within dirty. e.located.accounts.dirty_born s.frame s.page.0 line within (flies m d k s e).holds dirty;
  written_born = λ q written. e.located.accounts.written_born q (sym (like.written q) ∙ written);
  born_more = λ q born. born;
  few_born = e.located.accounts.few_born;
  room = like.room ∙ e.located.accounts.room;
  pages = like.pages ∙ e.located.accounts.pages;
  marks = λ q. refl;
}

lifts-like : (way : Way) (m : MemoryView) (d d' : DeviceState) → LiftsFrom way d d' → IsLike m d m d'
lifts-like Coming m d d' is = like-drained m d d' is
lifts-like Leaving m d d' is = rw is (like-none m d)

lift-flies : (way : Way) (m : MemoryView) (d d' : DeviceState) (s : Slot) (home : Home) (line : ℕ) → line < 64
    → has_line s.bits line ≡ false → IsLike m d m d' → IsFlyingBy way (frame_at m.frames s.frame) d s.page.0 home s
    → IsFlyingBy way (frame_at m.frames s.frame) d' s.page.0 home
    (after_lift (record { line = line; bytes = source_line way m d s line }) s)
lift-flies Coming m d d' s home line within clear like is =
    let frame : Frame = frame_at m.frames s.frame in
    let now : IsComing frame d' s.page.0 home s.bits s.flight =
    flying-other Coming frame frame d d' s.page.0 home s (alike-same frame frame refl) (like.device s.page.0) is in
    record {
      home_is = now.home_is;
      idle = now.idle;
      clean = now.clean;
      copied = now.copied;
      flies = (within, λ c. sym ((like.device s.page.0).lines line));
    }
lift-flies Leaving m d d' s home line within clear like is =
    record { home_is = is.home_is; dirty = is.dirty; flies = (within, clear, refl) }

pub lifted-keeps : (m : MemoryView) (d : DeviceState) (k : ℕ) (s : Slot) (m' : MemoryView) (d' : DeviceState) → IsEntryOf m d k s
    → IsLifted k s m d m' d' → KeepsLinesOf s.page.0 s.frame m d m' d'
lifted-keeps m d k s m' d' e is =
    let like = lifts-like s.way m d d' is.device in
    let flight : Flight = record { line = is.line; bytes = source_line s.way m d s is.line } in
    let step =
    quiet-step m d k s (after_lift flight s) d' e like refl refl
    (lift-flies s.way m d d' s (home_at m s.page.0) is.line is.least.in_page is.least.clear like (flies m d k s e).by_way) in
    rw is.memory record {
      move = flight-move m d k s (after_lift flight s) (slot_set k (Some (after_lift flight s)) m) d' step;
      lines = λ line within.
          line-after m d k s (after_lift flight s) (slot_set k (Some (after_lift flight s)) m) d' line step
          ∙ line-like m.frames m.frames d d' s.page.0 line (frame_in_flight s.way s.frame (has_line s.bits line))
          (λ g. alike-same (frame_at m.frames g) (frame_at m.frames g) refl) (like.device s.page.0)
          ∙ sym (line-before m d k s line e);
    }

-- an entry after its flight's end
abbrev pub landed_entry : Flight → Slot → Slot
landed_entry flight s = record s { bits = mask_with s.bits flight.line; flight = None }

pub landing-is : (s : Slot) (flight : Flight) → s.flight ≡ Some flight → after_landing s ≡ landed_entry flight s
landing-is s flight flying = ap (λ (f : Option Flight). landed_with f s) flying

-- a line of a mask in which it was put
pub mask-here : (mask : LineMask) (line : ℕ) → line < 64 → has_line (mask_with mask line) line ≡ true
mask-here mask line within =
    has_line-mask_with mask line line within ∙ or_left (line == line) (has_line mask line) (eq-eqb line line refl)

-- another line of it
pub mask-other : (mask : LineMask) (line q : ℕ) → line < 64 → q ≢ line → has_line (mask_with mask line) q ≡ has_line mask q
mask-other mask line q within other =
    let test : (q == line) ≡ false = ne_eqb q line other in has_line-mask_with mask line q within ∙ rw test refl

-- no line is lost
pub mask-more : (mask : LineMask) (line q : ℕ) → line < 64 → has_line mask q ≡ true → has_line (mask_with mask line) q ≡ true
mask-more mask line q within has = has_line-mask_with mask line q within ∙ or_right (q == line) (has_line mask q) has

-- a line that was put in, or was there
pub mask-cases : (mask : LineMask) (line q : ℕ) → line < 64 → has_line (mask_with mask line) q ≡ true
    → (q ≡ line) ⊎ (has_line mask q ≡ true)
mask-cases mask line q within has =
    elim (or_cases (q == line) (has_line mask q) (sym (has_line-mask_with mask line q within) ∙ has)) [
      | inl here ↦ inl (eqb-true q line here)
      | inr there ↦ inr there
    ]

-- a line that was there already
mask-same : (mask : LineMask) (line q : ℕ) → line < 64 → has_line mask line ≡ true → has_line (mask_with mask line) q ≡ true
    → has_line mask q ≡ true
mask-same mask line q within set has = elim (mask-cases mask line q within has) [
  | inl here ↦ ap (λ (k : ℕ). has_line mask k) here ∙ set
  | inr there ↦ there
]

pub as-flying : (way : Way) (frame : Frame) (d : DeviceState) (p : ℕ) (home : Home) (s : Slot) → way ≡ Coming
    → IsComing frame d p home s.bits s.flight → IsFlyingBy way frame d p home s
as-flying Coming frame d p home s way is = is
as-flying Leaving frame d p home s way is = cc

-- the lines of a page in flight whose way is known
pub in-flight-coming : (way : Way) (f : ℕ) (b : Bool) → way ≡ Coming → frame_in_flight way f b ≡ frame_in_flight Coming f b
in-flight-coming way f b is = ap (λ w. frame_in_flight w f b) is

pub dropped-keeps : (m : MemoryView) (d : DeviceState) (k : ℕ) (s : Slot) (flight : Flight) (m' : MemoryView) (d' : DeviceState)
    → IsEntryOf m d k s → s.way ≡ Coming → s.flight ≡ Some flight → flight.line < 64 → has_line s.bits flight.line ≡ true
    → IsDropped k s m d m' d' → KeepsLinesOf s.page.0 s.frame m d m' d'
dropped-keeps m d k s flight m' d' e way flying within set is =
    let p = s.page.0 in
    let frame : Frame = frame_at m.frames s.frame in
    let t : Slot = landed_entry flight s in
    let coming = as-coming s.way frame d p (home_at m p) s way (flies m d k s e).by_way in
    let by_way = as-flying s.way frame d p (home_at m p) t way record {
      home_is = coming.home_is;
      idle = coming.idle;
      clean = λ line low clean copied. coming.clean line low clean (mask-same s.bits flight.line line within set copied);
      copied = λ line low dirty. mask-more s.bits flight.line line within (coming.copied line low dirty);
      flies = tt;
    } in
    let step = quiet-step m d k s t d e (like-none m d) refl refl by_way in
    let memory : m' ≡ slot_set k (Some t) m = is.memory ∙ ap (λ (x : Slot). slot_set k (Some x) m) (landing-is s flight flying) in
    rw (memory, is.device) record {
      move = flight-move m d k s t (slot_set k (Some t) m) d step;
      lines = λ line low.
          line-after m d k s t (slot_set k (Some t) m) d line step
          ∙ rw way (
          coming-line (has_line s.bits line) (has_line t.bits line) m.frames m.frames d d p line s.frame
          (mask-more s.bits flight.line line within) (λ b. refl)
          (λ b b'. absurd (let a = mask-same s.bits flight.line line within set b' in cc)) refl)
          ∙ sym (line-before m d k s line e);
    }
