-- What a contract sees of a log of background turns, and the turns counted by kind.
use Rattle.std.specs.Prelude.{ℕ, Bool, true, false, List, fold}
use Rattle.ff_model.specs.Counts.{turned}
use Rattle.ff_model.specs.declared.counts.KindTurns.{KindTurns}
use Rattle.ff_model.specs.declared.counts.TurnCounts.{TurnCounts}
use Rattle.ff_core.specs.declared.log.Back.{Back}
use Rattle.ff_core.specs.declared.log.Back.TheVariants.{Did}
use Rattle.ff_core.specs.declared.log.Turned.{Turned}

-- the turns in their order, and how many there is room for
pub record LogView : Type 0 where
  pub turns : List Turned
  pub room : ℕ

-- the turn did something
abbrev pub is_did : Back → Bool
is_did (Did what) = true
is_did back = false

-- no turns
abbrev pub no_kind_turns : KindTurns
no_kind_turns = record { made = 0; did = 0 }

abbrev pub no_turns : TurnCounts
no_turns = record {
  promote = no_kind_turns;
  evict = no_kind_turns;
  collect = no_kind_turns;
  drain = no_kind_turns;
}

-- how many turns of each kind were made, and how many of those did something
abbrev pub turn_counts : List Turned → TurnCounts
turn_counts turns = fold (λ counts turn. turned counts turn.kind (is_did turn.answer)) no_turns turns
