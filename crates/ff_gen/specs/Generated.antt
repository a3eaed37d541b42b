-- The rows that a number makes.
use Rattle.std.specs.Prelude.{ℕ, ◌+◌, ◌%◌, ◌==◌, if◌then◌else◌, List, [], ◌∷◌, ◌++◌}
use Rattle.std.specs.List.{enumerate_from, flat_map}
use Rattle.ff_base.specs.Page.{page_lines}
use Rattle.ff_model.specs.declared.counts.Kind.TheVariants.{Promote, Evict, Collect, Drain}
use Rattle.ff_model.specs.declared.op.Op.{Op}
use Rattle.ff_model.specs.declared.op.Op.TheVariants.{Mark}
use Rattle.ff_gen.specs.Calls.{calls_from}
use Rattle.ff_trace.specs.declared.row.Row.{Row}
use Rattle.ff_trace.specs.declared.row.Row.TheVariants.{Call, Turns}

-- the turns behind each sixteenth call
abbrev pub turn_rows : List Row
turn_rows = Turns Promote 64 ∷ Turns Evict 32 ∷ Turns Collect 8 ∷ Turns Drain 4 ∷ []

-- the turns behind the call of a number
abbrev pub turns_behind : ℕ → List Row
turns_behind number = if number % 16 == 15 then turn_rows else []

-- the call of a number, by one of four callers in turn, and the turns behind it
abbrev pub rows_at : ℕ × Op → List Row
rows_at (number, op) = Call (record { 0 = number % 4 }) op ∷ turns_behind number

-- a caller marks a page of its own
abbrev pub mark_row : ℕ → Row
mark_row caller = Call (record { 0 = caller }) (Mark (record { 0 = 240 + caller }) 0 page_lines)

-- each of the four callers does so
abbrev pub mark_rows : List Row
mark_rows = mark_row 0 ∷ mark_row 1 ∷ mark_row 2 ∷ mark_row 3 ∷ []

-- the rows that a number makes
unfoldable pub generated : ℕ → List Row
generated number = mark_rows ++ flat_map rows_at (enumerate_from 0 (calls_from 20000 number))
