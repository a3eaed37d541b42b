-- What became of a row.
use Rattle.std.specs.Prelude.{ℕ, ◌≡◌, ◌++◌, List, []}
use Rattle.ff_core.specs.Core.{CoreView}
use Rattle.ff_trace.specs.declared.row.Row.{Row}
use Rattle.ff_trace.specs.declared.row.Row.TheVariants as rows
use Rattle.ff_sessions.specs.Items.{BeginWithWork, Item}
use Rattle.ff_sessions.specs.Making.{HasDone, IsCutBehind}
use Rattle.ff_sessions.specs.Stops.{row_left}
use Rattle.ff_sessions.specs.declared.rows.RowStop.{RowStop}
use Rattle.ff_sessions.specs.declared.rows.RowStop.TheVariants.{Done, Cut, Power}

-- some of the items were done, and the first of those that are left was cut
pub record IsCutIn {T E : Type 0} (old new : CoreView T E) (items left : List Item) : Type 0 where
  pub done : List Item
  pub split : items ≡ done ++ left
  pub cut : IsCutBehind old new done
  pub begin : BeginWithWork left

-- what became of a row of which so many turns were made: all of it was done, or what is left of it behind so many turns,
-- or it is a row of power
abbrev pub RowRuns : {T E : Type 0} → CoreView T E → Row → ℕ → RowStop → CoreView T E → List ℕ → Type 0
RowRuns old row made Done new numbers = HasDone old new numbers (row_left made row)
RowRuns old row made (Cut more) new numbers = IsCutIn old new (row_left made row) (row_left more row)
RowRuns old row made (Power arrive) new numbers =
    (row ≡ rows.Power arrive) × HasDone old new numbers []
