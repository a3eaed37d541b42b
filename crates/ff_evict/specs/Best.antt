-- The choice among the first frames from the hand on, while a pass goes over them.
use Rattle.std.specs.Prelude.{ℕ, ◌≡◌, ◌<◌, Bool, List, Option, Some, None, length}
use Rattle.ff_evict.specs.Choice.{IsFirstLeast, MayRetreat, score_of, steps_after}
use Rattle.ff_evict.specs.declared.evictor.Best.{Best}
use Rattle.ff_frames.specs.declared.frame.Frame.{Frame}
use Rattle.ff_plb.specs.declared.slot.Slot.{Slot}

-- the frame passes, and is one of the first so many
pub record IsSeen (Passes : ℕ → Type 0) (steps : ℕ → ℕ) (seen frame : ℕ) : Type 0 where
  pub passes : Passes frame
  pub before : steps frame < seen

-- the best of the frames seen, where there is one
abbrev pub IsBestIf : (ℕ → Type 0) → (ℕ → ℕ) → (ℕ → ℕ) → Option Best → Type 0
IsBestIf Passes score steps None = (frame : ℕ) → Passes frame → ⊥
IsBestIf Passes score steps (Some best) =
    IsFirstLeast Passes score steps best.frame × (best.score ≡ score best.frame)

-- the best of the first frames from the hand on
abbrev pub IsBestOfFirst : ℕ → (Bool → ℕ → ℕ) → List Frame → List (Option Slot) → ℕ → Option Best
    → Type 0
IsBestOfFirst seen score frames slots hand best =
    IsBestIf (IsSeen (MayRetreat frames slots) (steps_after (length frames) hand) seen)
    (score_of score frames) (steps_after (length frames) hand) best
