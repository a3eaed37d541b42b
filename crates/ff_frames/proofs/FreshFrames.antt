-- A list of free frames, and masks in which none is in use.
use Rattle.std.specs.Prelude.{replicate, is_none, is_some}
use Rattle.std.proofs.Common.{◌≡◌, ℕ, ◌+◌, ◌/◌, ◌%◌, ◌<◌, ◌^◌, cond, false, length, get_or, inl, inr, sym, ap, ◌∙◌, arith}
use Rattle.std.proofs.lemmas.Bool.{cases_lt}
use Rattle.std.proofs.lemmas.List.{get_or-replicate, get_or_past, length-replicate}
use Rattle.std.proofs.lemmas.List.Folds.{sum_by-replicate}
use Rattle.ff_lines.specs.LineMask.{has_line, no_lines}
use Rattle.ff_lines.specs.declared.line_mask.LineMask.{LineMask}
use Rattle.ff_lines.proofs.MaskLines.{has_line-no_lines}
use Rattle.ff_lines.proofs.PageOverlaid.{length-blank_page}
use Rattle.ff_frames.specs.Frame.{free_frame}
use Rattle.ff_frames.specs.Frames.{frame_at, free_count}
use Rattle.ff_frames.specs.FramesFields.{IsIndexed}
use Rattle.ff_frames.specs.UsedFrames.{is_used}
use Rattle.ff_frames.specs.declared.frame.Frame.{Frame}

-- every frame of a list of free ones is free
pub frame_at-fresh : (n frame : ℕ) → frame_at (replicate n free_frame) frame ≡ free_frame
frame_at-fresh n frame = elim (cases_lt frame n) [
  | inl within ↦ get_or-replicate n frame free_frame free_frame within
  | inr past ↦ get_or_past (replicate n free_frame) frame free_frame (omega (arith, length-replicate n free_frame))
]

mask_at-fresh : (n at : ℕ) → get_or (replicate n no_lines) at no_lines ≡ no_lines
mask_at-fresh n at = elim (cases_lt at n) [
  | inl within ↦ get_or-replicate n at no_lines no_lines within
  | inr past ↦ get_or_past (replicate n no_lines) at no_lines (omega (arith, length-replicate n no_lines))
]

-- none of them is in use
unused-fresh : (n frame : ℕ) → is_used (replicate n no_lines) frame ≡ false
unused-fresh n frame =
    ap (λ (m : LineMask). has_line m (frame % 64)) (mask_at-fresh n (frame / 64)) ∙ has_line-no_lines (frame % 64)

free_count-fresh : (n : ℕ) → n ≡ free_count (replicate n free_frame)
free_count-fresh n =
    let one : ℕ = 1 in let nothing : ℕ = 0 in
    omega (arith, sum_by-replicate (λ (f : Frame). cond (is_none f.page) one nothing) n free_frame)

pub indexed-fresh : (n : ℕ) → n < 2 ^ 31
    → IsIndexed (replicate n free_frame) (replicate (n / 64 + 1) no_lines) n
indexed-fresh n few = record {
  sound = record {
    sized = λ frame. ap (λ (f : Frame). length f.bytes) (frame_at-fresh n frame) ∙ length-blank_page;
    few = omega (arith, length-replicate n free_frame);
  };
  masked = omega (arith, length-replicate n free_frame, length-replicate (n / 64 + 1) no_lines);
  used = λ frame within. unused-fresh (n / 64 + 1) frame ∙ sym (ap (λ (f : Frame). is_some f.page) (frame_at-fresh n frame));
  counted = free_count-fresh n;
}
