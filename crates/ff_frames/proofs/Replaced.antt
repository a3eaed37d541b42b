-- What the fields keep when a frame is given to a page, and when it is given back.
use Rattle.std.specs.Prelude.{is_none, is_some}
use Rattle.std.proofs.Common.{◌≡◌, ◌≢◌, ◌∙◌, ℕ, ◌+◌, ◌-◌, ◌<◌, ◌==◌, ◌||◌, ◌&&◌, not, cond, List, length, set, None, inl, inr, refl, sym, ap, arith, length-set}
use Rattle.std.proofs.lemmas.Bool.{cases_eq, eq-eqb, ne_eqb}
use Rattle.std.proofs.lemmas.List.{get_or-set_same, get_or-set_other}
use Rattle.std.proofs.lemmas.List.Sums.{sum_by-set}
use Rattle.ff_base.specs.declared.numbers.PageNo.{PageNo}
use Rattle.ff_frames.specs.Frame.{free_frame, given_frame, taken_frame}
use Rattle.ff_frames.specs.Frames.{IsFreeFrame, frame_at, free_count, with_frame}
use Rattle.ff_frames.specs.FramesFields.{IsIndexed}
use Rattle.ff_frames.specs.UsedFrames.{is_used}
use Rattle.ff_frames.specs.declared.frame.Frame.{Frame}
use Rattle.ff_frames.proofs.FreeCount.{in_use, weight-free}
use Rattle.ff_lines.specs.declared.line_mask.LineMask.{LineMask}

-- a frame is replaced by one of as many bytes, its mask tells whether that one holds a page, and the others' masks stay
replaced : (frames : List Frame) (masks after : List LineMask) (free left frame : ℕ) (new : Frame)
    → IsIndexed frames masks free → frame < length frames → length new.bytes ≡ length (frame_at frames frame).bytes
    → is_used after frame ≡ is_some new.page → ((q : ℕ) → q ≢ frame → is_used after q ≡ is_used masks q)
    → length after ≡ length masks → left ≡ free_count (with_frame frames frame new)
    → IsIndexed (with_frame frames frame new) after left
replaced frames masks after free left frame new kept within bytes here there same counted =
    let size = length-set frames frame new in
    let masked = kept.masked in
    record {
      sound = record {
        sized = λ q. elim (cases_eq q frame) [
          | inl at ↦
              ap (λ n. length (frame_at (set frames frame new) n).bytes) at
              ∙ ap (λ (f : Frame). length f.bytes) (get_or-set_same frames frame new free_frame within)
              ∙ bytes ∙ kept.sound.sized frame
          | inr apart ↦
              ap (λ (f : Frame). length f.bytes) (get_or-set_other frames frame q new free_frame apart)
              ∙ kept.sound.sized q
        ];
        few = rw size kept.sound.few;
      };
      masked = omega (arith, masked, size, same);
      used = λ q below. elim (cases_eq q frame) [
        | inl at ↦
            ap (λ n. is_used after n) at ∙ here
            ∙ sym (ap (λ (f : Frame). is_some f.page) (get_or-set_same frames frame new free_frame within))
            ∙ ap (λ n. is_some (frame_at (set frames frame new) n).page) (sym at)
        | inr apart ↦
            there q apart ∙ kept.used q (omega (arith, below, size))
            ∙ sym (ap (λ (f : Frame). is_some f.page) (get_or-set_other frames frame q new free_frame apart))
      ];
      counted = counted;
    }

-- one free frame less is left when one is taken
pub one-less : (frames : List Frame) (frame : ℕ) (page : PageNo) → IsFreeFrame frames frame
    → free_count (with_frame frames frame (taken_frame page (frame_at frames frame))) + 1 ≡ free_count frames
one-less frames frame page free =
    let weight : Frame → ℕ = λ f. cond (is_none f.page) 1 0 in
    let new = taken_frame page (frame_at frames frame) in
    let before : weight (frame_at frames frame) ≡ 1 = weight-free (frame_at frames frame).page free.no_page in
    let after : weight new ≡ 0 = refl in
    omega (arith, before, after, sum_by-set weight frames frame new free_frame free.in_range)

-- a free frame was taken
pub taken-kept : (frames : List Frame) (masks after : List LineMask) (free frame : ℕ) (page : PageNo)
    → IsIndexed frames masks free → IsFreeFrame frames frame
    → ((q : ℕ) → is_used after q ≡ ((q == frame) || is_used masks q)) → length after ≡ length masks
    → IsIndexed (with_frame frames frame (taken_frame page (frame_at frames frame))) after (free - 1)
taken-kept frames masks after free frame page kept found used same =
    let counted = kept.counted in
    replaced frames masks after free (free - 1) frame (taken_frame page (frame_at frames frame)) kept found.in_range refl
    (used frame ∙ ap (λ b. b || is_used masks frame) (eq-eqb frame frame refl))
    (λ q apart. used q ∙ ap (λ b. b || is_used masks q) (ne_eqb q frame apart)) same
    (omega (arith, counted, one-less frames frame page found))

-- one free frame more is there when one is given back
one-more : (frames : List Frame) (frame : ℕ) → frame < length frames → (frame_at frames frame).page ≢ None
    → free_count (with_frame frames frame (given_frame (frame_at frames frame))) ≡ free_count frames + 1
one-more frames frame within used =
    let weight : Frame → ℕ = λ f. cond (is_none f.page) 1 0 in
    let new = given_frame (frame_at frames frame) in
    let before : weight (frame_at frames frame) ≡ 0 = in_use (frame_at frames frame).page used in
    let after : weight new ≡ 1 = refl in
    omega (arith, before, after, sum_by-set weight frames frame new free_frame within)

-- a frame in use was given back
pub given-kept : (frames : List Frame) (masks after : List LineMask) (free frame : ℕ)
    → IsIndexed frames masks free → frame < length frames → (frame_at frames frame).page ≢ None
    → ((q : ℕ) → is_used after q ≡ (not (q == frame) && is_used masks q)) → length after ≡ length masks
    → IsIndexed (with_frame frames frame (given_frame (frame_at frames frame))) after (free + 1)
given-kept frames masks after free frame kept within in_use used same =
    let counted = kept.counted in
    replaced frames masks after free (free + 1) frame (given_frame (frame_at frames frame)) kept within refl
    (used frame ∙ ap (λ b. not b && is_used masks frame) (eq-eqb frame frame refl))
    (λ q apart. used q ∙ ap (λ b. not b && is_used masks q) (ne_eqb q frame apart)) same
    (omega (arith, counted, one-more frames frame within in_use))
