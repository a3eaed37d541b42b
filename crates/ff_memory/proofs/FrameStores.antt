-- A frame after a store, and a store that a frame served.
use Rattle.std.proofs.Common.{◌≡◌, ◌≢◌, ℕ, ◌+◌, ◌<◌, ◌≤◌, ◌==◌, ◌⊎◌, Bool, true, false, List, length, inl, inr, refl, sym, ap, ◌∙◌, arith}
use Rattle.std.proofs.lemmas.Bool.{cases_Bool, eqb-true}
use Rattle.ff_base.specs.Page.{line_of}
use Rattle.ff_base.proofs.PageLines.{length-line_of, length-with_line, line_of-with_line_same, line_of-with_line_other}
use Rattle.ff_frames.specs.Frames.{frame_at}
use Rattle.ff_frames.specs.declared.frame.Frame.{Frame}
use Rattle.ff_lines.specs.DeviceState.{DeviceState, line_at}
use Rattle.ff_lines.specs.LineMask.{has_line, mask_with}
use Rattle.ff_lines.specs.Overlay.{overlaid}
use Rattle.ff_lines.proofs.Overlaid.{length-overlaid}
use Rattle.ff_memory.specs.Memory.{MemoryView}
use Rattle.ff_memory.specs.LineBytes.{frame_in_flight, line_from}
use Rattle.ff_memory.specs.Stores.{DrainsIf, carried_frame, carries_by, stored_frame}
use Rattle.ff_plb.specs.declared.slot.Way.TheVariants.{Coming}
use Rattle.ff_memory.proofs.Alike.{IsLike, like-drained, like-none}
use Rattle.ff_memory.proofs.Landings.{overlaid-whole}
use Rattle.ff_memory.proofs.Lifts.{mask-cases, mask-here, mask-more, mask-other}

-- a frame after a store to a line, over a line of these bytes
pub record IsWritten (line from : ℕ) (piece base : List ℕ) (old new : Frame) : Type 0 where
  pub page : new.page ≡ old.page
  pub dirty : new.dirty ≡ mask_with old.dirty line
  pub here : line_of new.bytes line ≡ overlaid base from piece
  pub others : (j : ℕ) → j < 64 → j ≢ line → line_of new.bytes j ≡ line_of old.bytes j

stored-written : (line from : ℕ) (piece : List ℕ) (frame : Frame) → line < 64 → from + length piece ≤ 64
    → length frame.bytes ≡ 4096 → IsWritten line from piece (line_of frame.bytes line) frame (stored_frame line from piece frame)
stored-written line from piece frame low fits size =
    let base : List ℕ = line_of frame.bytes line in
    let base_size : length base ≡ 64 = length-line_of frame.bytes line size low in
    let count : length (overlaid base from piece) ≡ 64 = length-overlaid base from piece (omega arith) ∙ base_size in
    record {
      page = refl;
      dirty = refl;
      here = line_of-with_line_same frame.bytes line (overlaid base from piece) size low count;
      others = λ j within other. line_of-with_line_other frame.bytes line j (overlaid base from piece) size low count (λ e. other (sym e));
    }

carried-written : (line from : ℕ) (piece bytes : List ℕ) (frame : Frame) → line < 64 → from + length piece ≤ 64
    → length frame.bytes ≡ 4096 → length bytes ≡ 64
    → IsWritten line from piece bytes frame (stored_frame line from piece (carried_frame true line bytes frame))
carried-written line from piece bytes frame low fits size count =
    let carried : Frame = carried_frame true line bytes frame in
    let carried_size = length-with_line frame.bytes line bytes size low count in
    let written = stored-written line from piece carried low fits carried_size in
    record {
      page = refl;
      dirty = refl;
      here = written.here ∙ ap (λ (b : List ℕ). overlaid b from piece) (line_of-with_line_same frame.bytes line bytes size low count);
      others = λ j within other.
          written.others j within other ∙ line_of-with_line_other frame.bytes line j bytes size low count (λ e. other (sym e));
    }

abbrev pub base_of : Bool → List ℕ → List ℕ → List ℕ
base_of true device frame = device
base_of false device frame = frame

pub is-written : (carried : Bool) (line from : ℕ) (piece bytes : List ℕ) (frame : Frame) → line < 64 → from + length piece ≤ 64
    → length frame.bytes ≡ 4096 → length bytes ≡ 64
    → IsWritten line from piece (base_of carried bytes (line_of frame.bytes line)) frame
    (stored_frame line from piece (carried_frame carried line bytes frame))
is-written true line from piece bytes frame low fits size count = carried-written line from piece bytes frame low fits size count
is-written false line from piece bytes frame low fits size count = stored-written line from piece frame low fits size

-- a piece of a whole line leaves nothing of the line
whole-same : (a b piece : List ℕ) (from : ℕ) → length a ≡ 64 → length b ≡ 64 → length piece ≡ 64 → from + length piece ≤ 64
    → overlaid a from piece ≡ overlaid b from piece
whole-same a b piece from first second count fits =
    let start : from ≡ 0 = omega arith in
    rw start (overlaid-whole a piece first count ∙ sym (overlaid-whole b piece second count))

-- a line of the mask of a written frame
pub written-dirty : (line from : ℕ) (piece base : List ℕ) (old new : Frame) (j : ℕ) → line < 64
    → IsWritten line from piece base old new → has_line old.dirty j ≡ true → has_line new.dirty j ≡ true
written-dirty line from piece base old new j low is dirty =
    ap (λ m. has_line m j) is.dirty ∙ mask-more old.dirty line j low dirty

-- a line that isn't dirty is another line, and wasn't before
pub written-clean : (line from : ℕ) (piece base : List ℕ) (old new : Frame) (j : ℕ) → line < 64
    → IsWritten line from piece base old new → has_line new.dirty j ≡ false → (j ≢ line) × (has_line old.dirty j ≡ false)
written-clean line from piece base old new j low is clean =
    let now : has_line (mask_with old.dirty line) j ≡ false = sym (ap (λ m. has_line m j) is.dirty) ∙ clean in
    let other : j ≢ line = λ same. let a = ap (λ (i : ℕ). has_line (mask_with old.dirty line) i) same in let b = mask-here old.dirty line low in cc in
    (other, sym (mask-other old.dirty line j low other) ∙ now)

-- a written frame's line that is dirty is this one, or was before
pub written-dirty_cases : (line from : ℕ) (piece base : List ℕ) (old new : Frame) (j : ℕ) → line < 64
    → IsWritten line from piece base old new → has_line new.dirty j ≡ true → (j ≡ line) ⊎ (has_line old.dirty j ≡ true)
written-dirty_cases line from piece base old new j low is dirty =
    mask-cases old.dirty line j low (sym (ap (λ m. has_line m j) is.dirty) ∙ dirty)

pub drains-like : (carried : Bool) (m : MemoryView) (d d' : DeviceState) → DrainsIf carried d d' → IsLike m d m d'
drains-like true m d d' is = like-drained m d d' is
drains-like false m d d' is = rw is (like-none m d)

-- what a store carries: the line that it lays the piece over is the page's line, or the piece is a whole line
pub carried-line : (b : Bool) (size : ℕ) (frames : List Frame) (d : DeviceState) (p line f from : ℕ) (piece : List ℕ)
    → length piece ≡ size → from + length piece ≤ 64 → length (line_at d p line) ≡ 64 → length (line_of (frame_at frames f).bytes line) ≡ 64
    → overlaid (base_of (carries_by Coming b size) (line_at d p line) (line_of (frame_at frames f).bytes line)) from piece
    ≡ overlaid (line_from frames d p line (frame_in_flight Coming f b)) from piece
carried-line true size frames d p line f from piece is fits device frame = refl
carried-line false size frames d p line f from piece is fits device frame = elim (cases_Bool (size == 64)) [
  | inl whole ↦
      let count : length piece ≡ 64 = is ∙ eqb-true size 64 whole in
      rw whole (whole-same (line_of (frame_at frames f).bytes line) (line_at d p line) piece from frame device count fits)
  | inr part ↦ rw part refl
]
