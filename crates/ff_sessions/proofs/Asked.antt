-- How many calls and turns the items of rows are.
use Rattle.std.proofs.Common.{◌≡◌, ◌≤◌, ◌+◌, ◌-◌, ℕ, List, [], ◌∷◌, length, ap, subst, sym, arith}
use Rattle.std.specs.Prelude.{count_by}
use Rattle.std.proofs.lemmas.List.Sums.{sum_by-cons}
use Rattle.ff_core.specs.Core.{CoreView, spare_calls, spare_turns}
use Rattle.ff_trace.specs.Within.{turns_asked, turns_in_row}
use Rattle.ff_trace.specs.declared.row.Row.{Row}
use Rattle.ff_trace.specs.declared.row.Row.TheVariants.{Call, Turns, Power}
use Rattle.ff_sessions.proofs.RowItems.{items_whole}
use Rattle.ff_sessions.proofs.Work.{count_append, turns_counted, turns_uncalled}
use Rattle.ff_sessions.specs.Items.{Item, items_of}
use Rattle.ff_sessions.specs.Making.{HasRoomFor, is_call, is_turn}
use Rattle.ff_sessions.specs.Stops.{items_from, row_left}

-- what is left of a row is one call at most, and no more turns than the row asks for
left_calls : (made : ℕ) (row : Row) → count_by is_call (row_left made row) ≤ 1
left_calls made (Call caller op) = omega arith
left_calls made (Turns kind count) = let none = turns_uncalled (count - made) kind in omega arith
left_calls made (Power arrive) = omega arith

left_turns : (made : ℕ) (row : Row) → count_by is_turn (row_left made row) ≤ turns_in_row row
left_turns made (Call caller op) = omega arith
left_turns made (Turns kind count) = let some = turns_counted (count - made) kind in omega arith
left_turns made (Power arrive) = omega arith

-- so are the items of rows one call a row at most, and no more turns than the rows ask for
calls_asked : (made : ℕ) (rows : List Row) → count_by is_call (items_from made rows) ≤ length rows
calls_asked made [] = omega arith
calls_asked made (row ∷ rows) =
    let both = count_append is_call (row_left made row) (items_of rows) in
    let whole = ap (count_by is_call) (items_whole rows) in
    let first = left_calls made row in
    let later = calls_asked 0 rows in
    omega arith

turns_left : (made : ℕ) (rows : List Row) → count_by is_turn (items_from made rows) ≤ turns_asked rows
turns_left made [] = omega arith
turns_left made (row ∷ rows) =
    let both = count_append is_turn (row_left made row) (items_of rows) in
    let whole = ap (count_by is_turn) (items_whole rows) in
    let first = left_turns made row in
    let later = turns_left 0 rows in
    let asked : turns_asked (row ∷ rows) ≡ turns_in_row row + turns_asked rows = sum_by-cons turns_in_row row rows in
    omega arith

-- there is room for the items of rows where there is room for so many calls and turns
pub room_for_left : {T E : Type 0} (core : CoreView T E) (rows : List Row) → spare_calls core ≡ length rows
    → spare_turns core ≡ turns_asked rows → (made : ℕ) → HasRoomFor core (items_from made rows)
room_for_left core rows calls turns made =
    let called = calls_asked made rows in
    let turned = turns_left made rows in
    record { calls = omega arith; turns = omega arith }

pub room_for_all : {T E : Type 0} (core : CoreView T E) (rows : List Row) → spare_calls core ≡ length rows
    → spare_turns core ≡ turns_asked rows → HasRoomFor core (items_of rows)
room_for_all core rows calls turns =
    subst (λ (items : List Item). HasRoomFor core items) (sym (items_whole rows)) (room_for_left core rows calls turns 0)
