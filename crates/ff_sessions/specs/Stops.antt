-- How far a session comes in the rows of a trace.
use Rattle.std.specs.Prelude.{ℕ, ◌+◌, ◌-◌, ◌<◌, ⊤, List, [], ◌∷◌, ◌++◌, drop, replicate, unwrap_or}
use Rattle.ff_flash.specs.FlashState.{FlashState}
use Rattle.ff_flash.specs.SimFlash.{arrive_of_cut}
use Rattle.ff_trace.specs.declared.row.Row.{Row}
use Rattle.ff_trace.specs.declared.row.Row.TheVariants.{Call, Turns, Power}
use Rattle.ff_sessions.specs.Items.{Item, call, items_of, loss, over, turn}
use Rattle.ff_sessions.specs.Sessions.{Ending, by_cut, by_end, by_row}
use Rattle.ff_sessions.specs.declared.stop.Cursor.{Cursor}
use Rattle.ff_sessions.specs.declared.stop.Stop.{Stop}
use Rattle.ff_sessions.specs.declared.stop.Stop.TheVariants as stops

-- the items of a row of which so many turns were made
abbrev pub row_left : ℕ → Row → List Item
row_left made (Call caller op) = call caller op ∷ []
row_left made (Turns kind count) = replicate (count - made) (turn kind)
row_left made (Power arrive) = loss arrive ∷ []

-- the items of rows, and the end; of the first row so many turns were made
abbrev pub items_from : ℕ → List Row → List Item
items_from made [] = over ∷ []
items_from made (row ∷ later) = row_left made row ++ items_of later

-- the items that are left at a cursor
abbrev pub items_at : List Row → Cursor → List Item
items_at rows cursor = items_from cursor.made (drop cursor.row rows)

-- the items that are left behind a stop
abbrev pub items_behind : List Row → Stop → List Item
items_behind rows (stops.Cut cursor) = items_at rows cursor
items_behind rows (stops.Power row arrive) = items_of (drop (row + 1) rows)
items_behind rows stops.End = []

-- the stop is at one of so many rows
abbrev pub IsStopWithin : ℕ → Stop → Type 0
IsStopWithin count (stops.Cut cursor) = cursor.row < count
IsStopWithin count (stops.Power row arrive) = row < count
IsStopWithin count stops.End = ⊤

-- how a session ends that stopped so, and left this flash
abbrev pub ending_of : Stop → FlashState → Ending
ending_of (stops.Cut cursor) flash = by_cut (unwrap_or (arrive_of_cut flash) 0)
ending_of (stops.Power row arrive) flash = by_row arrive
ending_of stops.End flash = by_end

-- the item at which a session stopped, where it isn't made again
abbrev pub stop_items : Stop → List Item
stop_items (stops.Cut cursor) = []
stop_items (stops.Power row arrive) = loss arrive ∷ []
stop_items stops.End = over ∷ []
