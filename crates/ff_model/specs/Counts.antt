-- Counts of turns.
use Rattle.std.specs.Prelude.{◌+◌, ◌<◌, ◌^◌, Bool, if◌then◌else◌}
use Rattle.ff_model.specs.declared.counts.Kind.{Kind}
use Rattle.ff_model.specs.declared.counts.Kind.TheVariants.{Promote, Evict, Collect, Drain}
use Rattle.ff_model.specs.declared.counts.KindTurns.{KindTurns}
use Rattle.ff_model.specs.declared.counts.TurnCounts.{TurnCounts}

-- one more turn of a kind was made, and it did something or not
abbrev pub with_turn : KindTurns → Bool → KindTurns
with_turn turns did = record { made = turns.made + 1; did = if did then turns.did + 1 else turns.did }

-- both counts of a kind can rise
pub record HasCountsLeft (turns : KindTurns) : Type 0 where
  pub made : turns.made + 1 < 2 ^ 32
  pub did : turns.did + 1 < 2 ^ 32

-- the turns of a kind
abbrev pub turns_of : TurnCounts → Kind → KindTurns
turns_of turns Promote = turns.promote
turns_of turns Evict = turns.evict
turns_of turns Collect = turns.collect
turns_of turns Drain = turns.drain

-- one more turn of a kind was made
abbrev pub turned : TurnCounts → Kind → Bool → TurnCounts
turned turns Promote did = record turns { promote = with_turn turns.promote did }
turned turns Evict did = record turns { evict = with_turn turns.evict did }
turned turns Collect did = record turns { collect = with_turn turns.collect did }
turned turns Drain did = record turns { drain = with_turn turns.drain did }
