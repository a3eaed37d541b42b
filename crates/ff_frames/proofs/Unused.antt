-- The least frame that isn't in use, mask by mask.
use Rattle.std.proofs.Common.{◌≡◌, ◌∙◌, ℕ, ◌+◌, ◌*◌, ◌/◌, ◌%◌, ◌<◌, true, false, true≢false, List, length, Option, None, Some, get_or, inl, inr, refl, sym, ap, arith}
use Rattle.std.specs.Prelude.{is_some}
use Rattle.std.proofs.lemmas.Bool.{cases_lt}
use Rattle.ff_lines.specs.LineMask.{HasEveryLine, IsLeastClear, no_lines}
use Rattle.ff_lines.specs.declared.line_mask.LineMask.{LineMask}
use Rattle.ff_base.specs.declared.numbers.PageNo.{PageNo}
use Rattle.ff_frames.specs.Frames.{IsLeastFree, IsNoneFree, frame_at}
use Rattle.ff_frames.specs.FramesFields.{IsIndexed}
use Rattle.ff_frames.specs.UsedFrames.{AreAllUsed, IsLeastUnused, is_used}
use Rattle.ff_frames.specs.declared.frame.Frame.{Frame}

-- one more mask is full
pub used-more : (masks : List LineMask) (at : ℕ) → ((q : ℕ) → q < 64 * at → is_used masks q ≡ true)
    → HasEveryLine (get_or masks at no_lines) → (q : ℕ) → q < 64 * (at + 1) → is_used masks q ≡ true
used-more masks at before full q below = elim (cases_lt q (64 * at)) [
  | inl earlier ↦ before q earlier
  | inr here ↦ let mask : q / 64 ≡ at = omega arith in rw mask (full (q % 64) (omega arith))
]

-- a mask isn't full, and those before it are
pub least-here : (masks : List LineMask) (at line : ℕ) → ((q : ℕ) → q < 64 * at → is_used masks q ≡ true)
    → IsLeastClear (get_or masks at no_lines) line → IsLeastUnused masks (at * 64 + line)
least-here masks at line before found =
    let within = found.in_page in
    let mask : (at * 64 + line) / 64 ≡ at = omega arith in
    let offset : (at * 64 + line) % 64 ≡ line = omega arith in
    record {
      unused = rw (mask, offset) found.clear;
      least = λ q below. elim (cases_lt q (64 * at)) [
        | inl earlier ↦ before q earlier
        | inr here ↦ let same : q / 64 ≡ at = omega arith in rw same (found.least (q % 64) (omega arith))
      ];
    }

none_if_not_some : (page : Option PageNo) → is_some page ≡ false → page ≡ None
none_if_not_some None nothing = refl
none_if_not_some (Some page) nothing = absurd (true≢false nothing)

-- no frame is free where all are in use
pub none_free : (frames : List Frame) (masks : List LineMask) (free : ℕ) → IsIndexed frames masks free → AreAllUsed masks → IsNoneFree frames
none_free frames masks free kept all frame found =
    let within = found.in_range in
    let below = kept.masked in
    absurd (true≢false (sym (all frame (omega arith)) ∙ kept.used frame within ∙ ap is_some found.no_page))

-- the least frame that isn't in use is the least free one
pub least_free : (frames : List Frame) (masks : List LineMask) (free frame : ℕ) → IsIndexed frames masks free
    → IsLeastUnused masks frame → frame < length frames → IsLeastFree frames frame
least_free frames masks free frame kept least within = record {
  free = record {
    in_range = within;
    no_page = none_if_not_some (frame_at frames frame).page (sym (kept.used frame within) ∙ least.unused);
  };
  least = λ other before no_page.
      true≢false (sym (least.least other before) ∙ kept.used other (omega (arith, within, before)) ∙ ap is_some no_page);
}
