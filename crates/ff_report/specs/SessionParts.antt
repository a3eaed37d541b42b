-- What a contract sees of the parts of a session that its text tells.
use Rattle.std.specs.Prelude.{ℕ, List}
use Rattle.ff_model.specs.declared.counts.Counts.{Counts}
use Rattle.ff_model.specs.declared.counts.TurnCounts.{TurnCounts}
use Rattle.ff_model.specs.declared.history.Entry.{Entry}
use Rattle.ff_report.specs.Remounted.{RemountedView}

-- the answered calls, the turns and what the events did, how many entries the end of the session
-- kept, and what the remount after it came to
pub record SessionPartsView : Type 0 where
  pub entries : List Entry
  pub turns : TurnCounts
  pub counts : Counts
  pub kept : ℕ
  pub image : RemountedView
