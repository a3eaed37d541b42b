-- Which frame's page goes back: of those that may, the first with the least score from the hand on and round.
use Rattle.std.specs.Prelude.{ℕ, ◌≡◌, ◌+◌, ◌-◌, ◌<◌, ◌≤◌, nat_le, Bool, List, Option, None, length, IsSome, IfSome, count_ones, if◌then◌else◌}
use Rattle.ff_frames.specs.Frames.{frame_at}
use Rattle.ff_frames.specs.declared.frame.Frame.{Frame}
use Rattle.ff_plb.specs.Plb.{entry_of}
use Rattle.ff_plb.specs.declared.slot.Slot.{Slot}

-- the frame holds a page that isn't in flight: it has no entry in the buffer
pub record MayRetreat (frames : List Frame) (slots : List (Option Slot)) (frame : ℕ) : Type 0 where
  pub in_range : frame < length frames
  pub used : IsSome (frame_at frames frame).page
  pub no_entry : IfSome (frame_at frames frame).page (λ page. entry_of slots page.0 ≡ None)

-- the score of a frame
abbrev pub score_of : (Bool → ℕ → ℕ) → List Frame → ℕ → ℕ
score_of score frames frame =
    score (frame_at frames frame).referred (count_ones (frame_at frames frame).dirty.0)

-- how many frames after the hand a frame comes, round
abbrev pub steps_after : ℕ → ℕ → ℕ → ℕ
steps_after count hand frame = if nat_le hand frame then frame - hand else frame + (count - hand)

-- of the frames that pass, this is the first that has the least score
pub record IsFirstLeast (Passes : ℕ → Type 0) (score steps : ℕ → ℕ) (frame : ℕ) : Type 0 where
  pub passes : Passes frame
  pub least : (other : ℕ) → Passes other → score frame ≤ score other
  pub first : (other : ℕ) → Passes other → score other ≡ score frame → steps frame ≤ steps other

-- the frame whose page goes back
abbrev pub IsChosenFrame : (Bool → ℕ → ℕ) → List Frame → List (Option Slot) → ℕ → ℕ → Type 0
IsChosenFrame score frames slots hand frame =
    IsFirstLeast (MayRetreat frames slots) (score_of score frames)
    (steps_after (length frames) hand) frame

-- no frame's page may go back
abbrev pub IsNoneToRetreat : List Frame → List (Option Slot) → Type 0
IsNoneToRetreat frames slots = (frame : ℕ) → MayRetreat frames slots frame → ⊥
