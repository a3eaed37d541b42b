-- The items of rows from a cursor on.
use Rattle.std.proofs.Common.{◌≡◌, ◌+◌, ◌-◌, ◌<◌, ◌≤◌, ℕ, List, [], ◌∷◌, ◌++◌, length, get_or, drop, refl, sym, ap, ◌∙◌, arith, append_assoc}
use Rattle.std.specs.Prelude.{replicate}
use Rattle.std.specs.List.{flat_map}
use Rattle.std.proofs.lemmas.List.{drop_all, drop_more}
use Rattle.std.proofs.lemmas.List.Concat.{flat_map-cons}
use Rattle.ff_trace.specs.declared.row.Row.{Row}
use Rattle.ff_trace.specs.declared.row.Row.TheVariants.{Call, Turns, Power}
use Rattle.ff_sessions.specs.Items.{BeginWithWork, Item, call, items_of, loss, over, row_items, turn}
use Rattle.ff_sessions.specs.Stops.{items_from, row_left}

-- a row of which no turn was made has all its items
row_whole : (row : Row) → row_items row ≡ row_left 0 row
row_whole (Call caller op) = refl
row_whole (Turns kind count) =
    let all : count ≡ count - 0 = omega arith in ap (λ (n : ℕ). replicate n (turn kind)) all
row_whole (Power arrive) = refl

pub items_whole : (rows : List Row) → items_of rows ≡ items_from 0 rows
items_whole [] = refl
items_whole (row ∷ later) =
    ap (λ (items : List Item). items ++ over ∷ []) (flat_map-cons row_items row later)
    ∙ append_assoc (row_items row) (flat_map row_items later) (over ∷ [])
    ∙ ap (λ (items : List Item). items ++ items_of later) (row_whole row)

-- the items from a row on are its own, and those of the rows behind it
pub items_here : (rows : List Row) (i made : ℕ) (row : Row) → i < length rows → row ≡ get_or rows i row
    → items_from made (drop i rows) ≡ row_left made row ++ items_of (drop (i + 1) rows)
items_here rows i made row within is =
    ap (items_from made) (drop_more rows i row within ∙ ap (λ (r : Row). r ∷ drop (i + 1) rows) (sym is))

-- behind the last row is the end
pub items_past : (rows : List Row) (i made : ℕ) → length rows ≤ i → items_from made (drop i rows) ≡ over ∷ []
items_past rows i made past = ap (items_from made) (drop_all i rows past)

-- what begins with a call or turn does so whatever is behind it
pub begin_append : (items behind : List Item) → BeginWithWork items → BeginWithWork (items ++ behind)
begin_append [] behind begin = absurd begin
begin_append (call caller op ∷ items) behind begin = tt
begin_append (turn kind ∷ items) behind begin = tt
begin_append (loss arrive ∷ items) behind begin = absurd begin
begin_append (over ∷ items) behind begin = absurd begin
