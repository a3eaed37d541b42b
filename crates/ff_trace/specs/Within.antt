-- What the rows of every trace are within.
use Rattle.std.specs.Prelude.{ℕ, ◌+◌, ◌*◌, ◌<◌, ◌≤◌, Bool, true, false, ⊤, List, All, length, count_by, sum_by}
use Rattle.ff_trace.specs.Fields.{caller_count}
use Rattle.ff_trace.specs.Tally.{most_losses, most_rows, most_turns}
use Rattle.ff_trace.specs.declared.row.Row.{Row}
use Rattle.ff_trace.specs.declared.row.Row.TheVariants.{Call, Turns, Power}

-- a call is of one of the callers
abbrev pub IsOfCaller : Row → Type 0
IsOfCaller (Call caller op) = caller.0 < caller_count
IsOfCaller (Turns kind count) = ⊤
IsOfCaller (Power arrive) = ⊤

-- how many background turns the rows ask for
abbrev pub turns_in_row : Row → ℕ
turns_in_row (Call caller op) = 0
turns_in_row (Turns kind count) = count
turns_in_row (Power arrive) = 0

abbrev pub turns_asked : List Row → ℕ
turns_asked rows = sum_by turns_in_row rows

-- a loss of power
abbrev pub is_power : Row → Bool
is_power (Call caller op) = false
is_power (Turns kind count) = false
is_power (Power arrive) = true

-- what a run of these rows under settings with so many cuts may count on
pub record AreWithin (cuts : ℕ) (rows : List Row) : Type 0 where
  pub callers : All IsOfCaller rows
  pub few : length rows ≤ most_rows
  pub turns : turns_asked rows ≤ 4 * most_turns
  pub losses : count_by is_power rows + cuts ≤ most_losses
