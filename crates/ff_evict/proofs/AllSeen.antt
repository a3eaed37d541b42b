-- A pass over as many frames as there are has seen every one.
use Rattle.std.proofs.Common.{ℕ, ◌<◌, Bool, List, length, Option, Some, arith}
use Rattle.ff_evict.specs.Best.{IsBestOfFirst, IsSeen}
use Rattle.ff_evict.specs.Choice.{IsChosenFrame, MayRetreat, steps_after}
use Rattle.ff_evict.specs.Evictor.{IsHandInside}
use Rattle.ff_evict.specs.declared.evictor.Best.{Best}
use Rattle.ff_frames.specs.declared.frame.Frame.{Frame}
use Rattle.ff_plb.specs.declared.slot.Slot.{Slot}

steps-within : (count hand frame : ℕ) → hand < count → frame < count → steps_after count hand frame < count
steps-within count hand frame inside below = grind arith

-- every frame that may retreat was seen
seen : (frames : List Frame) (slots : List (Option Slot)) (hand frame : ℕ) → IsHandInside hand frames
    → MayRetreat frames slots frame
    → IsSeen (MayRetreat frames slots) (steps_after (length frames) hand) (length frames) frame
seen frames slots hand frame inside may =
    let below = may.in_range in
    record { passes = may; before = steps-within (length frames) hand frame (inside (omega arith)) below }

-- the best of those seen is the choice
pub best-chosen : (score : Bool → ℕ → ℕ) (frames : List Frame) (slots : List (Option Slot)) (hand : ℕ) (best : Best)
    → IsHandInside hand frames → IsBestOfFirst (length frames) score frames slots hand (Some best)
    → IsChosenFrame score frames slots hand best.frame
best-chosen score frames slots hand best inside is = record {
  passes = is.0.passes.passes;
  least = λ other may. is.0.least other (seen frames slots hand other inside may);
  first = λ other may. is.0.first other (seen frames slots hand other inside may);
}
