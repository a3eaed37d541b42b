-- A core is sound over what an event left of its parts.
use Rattle.std.proofs.Common.{◌≡◌, ◌∙◌, ℕ, true, refl, arith}
use Rattle.ff_calls.specs.Told.{IsTold}
use Rattle.ff_model.specs.History.{Entries}
use Rattle.ff_core.specs.Core.{CoreView}
use Rattle.ff_core.specs.CoreSound.{IsCoreSound, IsSized}
use Rattle.ff_core.specs.Hierarchy.{HierarchyView, flash_under, lines_under}
use Rattle.ff_core.specs.Log.{LogView}
use Rattle.ff_core.specs.declared.tally.EventTally.{EventTally}
use Rattle.ff_core.proofs.Counting.{IsRecounted, counted-over}
use Rattle.ff_core.proofs.Sizes.{KeepsParts}
use Rattle.ff_core.proofs.MemorySizes.{sizes-same}
use Rattle.ff_core.proofs.Tallied.{CountsAlike}
use Rattle.ff_core.proofs.Timing.{IsLater, timed-over}

sized-over : {T E : Type 0} (core : CoreView T E) (history : Entries) (events : ℕ) (log : LogView) (tally : EventTally)
    (h : HierarchyView T E) → IsSized core → KeepsParts core.hierarchy h → history.room ≡ core.history.room
    → log.room ≡ core.log.room
    → IsSized (record core { history = history; events = events; log = log; tally = tally; hierarchy = h })
sized-over core history events log tally h sized kept calls turns =
    let few_calls = sized.few_calls in
    let few_turns = sized.few_turns in
    record {
      limits = sized.limits;
      pages = sized.pages;
      capacity = sized.capacity;
      window = kept.sizes.lines.most_posts ∙ sized.window;
      steps = kept.sizes.lines.most_steps ∙ sized.steps;
      sets = kept.shape.sets ∙ sized.sets;
      ways = kept.shape.ways ∙ sized.ways;
      counters = kept.counters ∙ sized.counters;
      frames = kept.sizes.frames ∙ sized.frames;
      slots = kept.sizes.slots ∙ sized.slots;
      hand = kept.hand sized.hand;
      few_calls = omega arith;
      few_turns = omega arith;
    }

-- what an event leaves of a core's parts
pub record IsLeft {T E : Type 0} (core : CoreView T E) (history : Entries) (events : ℕ) (log : LogView) (tally : EventTally)
    (h : HierarchyView T E) : Type 0 where
  pub parts : KeepsParts core.hierarchy h
  pub calls : history.room ≡ core.history.room
  pub turns : log.room ≡ core.log.room
  pub told : IsTold core.opening history.entries h.memory (lines_under h)
  pub later : IsLater core history events h
  pub counts : IsRecounted core history events log tally h

pub sound-over : {T E : Type 0} (core : CoreView T E) (history : Entries) (events : ℕ) (log : LogView) (tally : EventTally)
    (h : HierarchyView T E) → IsCoreSound core → (flash_under core.hierarchy).on ≡ true → IsLeft core history events log tally h
    → IsCoreSound (record core { history = history; events = events; log = log; tally = tally; hierarchy = h })
sound-over core history events log tally h sound on left = record {
  sized = sized-over core history events log tally h sound.sized left.parts left.calls left.turns;
  told = left.told;
  timed = timed-over core history events log tally h sound.timed on left.later;
  counted = counted-over core history events log tally h sound.counted sound.timed.from_on left.counts;
}

-- the policy and the tally of a core count alike
pub counted-alike : {T E : Type 0} (core : CoreView T E) → IsCoreSound core → CountsAlike core.hierarchy.policy core.tally
counted-alike core sound = record {
  promotions = sound.counted.paid;
  accesses = sound.counted.accesses;
  hits = sound.counted.hits;
}

-- nothing was done
pub still-parts : {T E : Type 0} (h : HierarchyView T E) → KeepsParts h h
still-parts h = record {
  sizes = record { frames = refl; slots = refl; lines = sizes-same (lines_under h) (lines_under h) refl };
  shape = record { sets = refl; ways = refl; room = refl };
  counters = refl;
  hand = λ inside. inside;
}
