-- How far the rows of a session have come, and where they stop.
use Rattle.std.proofs.Common.{◌≡◌, ◌+◌, ◌<◌, ◌≤◌, ℕ, true, List, [], ◌++◌, length, get_or, drop, refl, sym, ap, ◌∙◌, subst, arith, append_assoc}
use Rattle.std.specs.Prelude.{All, replicate}
use Rattle.std.proofs.lemmas.List.{append-nil}
use Rattle.std.proofs.lemmas.List.Elements.{All-get_or}
use Rattle.ff_core.specs.Core.{CoreView}
use Rattle.ff_core.specs.Hierarchy.{flash_under}
use Rattle.ff_trace.specs.Within.{IsOfCaller}
use Rattle.ff_trace.specs.declared.row.Row.{Row}
use Rattle.ff_trace.specs.declared.row.Row.TheVariants.{Power}
use Rattle.ff_sessions.specs.Age.{RisesBy, age_of}
use Rattle.ff_sessions.specs.Items.{BeginWithWork, Item, items_of}
use Rattle.ff_sessions.specs.Making.{HasDone, HasRoomFor, IsOpen, StopsAt}
use Rattle.ff_sessions.specs.RowStops.{IsCutIn, RowRuns}
use Rattle.ff_sessions.specs.Stops.{items_at, items_from, row_left}
use Rattle.ff_sessions.specs.declared.rows.RowStop.TheVariants as row_stops
use Rattle.ff_sessions.specs.declared.stop.Cursor.{Cursor}
use Rattle.ff_sessions.specs.declared.stop.Stop.TheVariants as stops
use Rattle.ff_sessions.proofs.Making.{cut_then, room_front, room_left, went_none, went_then}
use Rattle.ff_sessions.proofs.Numbers.{next_none}
use Rattle.ff_sessions.proofs.RowItems.{begin_append, items_here, items_past, items_whole}

-- a session that made no call is open
pub opened_none : {T E : Type 0} (core : CoreView T E) (numbers : List ℕ) → (flash_under core.hierarchy).on ≡ true
    → core.history.entries ≡ [] → numbers ≡ replicate 64 0 → IsOpen core numbers
opened_none core numbers on none is =
    record { on = on; numbered = λ caller. rw none refl; next = rw none (next_none numbers is) }

pub caller_at : (rows : List Row) (i : ℕ) (row : Row) → All IsOfCaller rows → i < length rows → row ≡ get_or rows i row
    → IsOfCaller row
caller_at rows i row all within is =
    subst IsOfCaller (sym is) (All-get_or IsOfCaller rows i row within all)

-- the items from a cursor on up to another were done
pub record HasCome {T E : Type 0} (old : CoreView T E) (rows : List Row) (at : Cursor) (new : CoreView T E) (numbers : List ℕ)
    (row made : ℕ) : Type 0 where
  pub items : List Item
  pub split : items_at rows at ≡ items ++ items_from made (drop row rows)
  pub done : HasDone old new numbers items

pub come_none : {T E : Type 0} (core : CoreView T E) (rows : List Row) (at : Cursor) (numbers : List ℕ) → IsOpen core numbers
    → HasCome core rows at core numbers at.row at.made
come_none core rows at numbers opened =
    record { items = []; split = refl; done = went_none core numbers opened }

-- the items that are left are those of a row and those behind it
split_here : (rows : List Row) (at : Cursor) (items : List Item) (i made : ℕ) (row : Row) → i < length rows → row ≡ get_or rows i row
    → items_at rows at ≡ items ++ items_from made (drop i rows)
    → items_at rows at ≡ items ++ (row_left made row ++ items_of (drop (i + 1) rows))
split_here rows at items i made row within is split =
    split ∙ ap (λ (left : List Item). items ++ left) (items_here rows i made row within is)

-- there is room for a row
pub room_row : {T E : Type 0} (a b : CoreView T E) (rows : List Row) (at : Cursor) (numbers : List ℕ) (i made : ℕ) (row : Row)
    → i < length rows → row ≡ get_or rows i row → HasRoomFor a (items_at rows at) → HasCome a rows at b numbers i made
    → HasRoomFor b (row_left made row)
room_row a b rows at numbers i made row within is room come =
    room_front b (row_left made row) (items_of (drop (i + 1) rows))
    (room_left a b numbers come.items (row_left made row ++ items_of (drop (i + 1) rows))
    (subst (λ (items : List Item). HasRoomFor a items) (split_here rows at come.items i made row within is come.split) room) come.done)

-- a row was done
pub come_row : {T E : Type 0} (a b c : CoreView T E) (rows : List Row) (at : Cursor) (m n : List ℕ) (i made : ℕ) (row : Row)
    → i < length rows → row ≡ get_or rows i row → HasCome a rows at b m i made → HasDone b c n (row_left made row)
    → HasCome a rows at c n (i + 1) 0
come_row a b c rows at m n i made row within is come done = record {
  items = come.items ++ row_left made row;
  split = split_here rows at come.items i made row within is come.split
      ∙ sym (append_assoc come.items (row_left made row) (items_of (drop (i + 1) rows)))
      ∙ ap (λ (left : List Item). (come.items ++ row_left made row) ++ left) (items_whole (drop (i + 1) rows));
  done = went_then a b c m n come.items (row_left made row) come.done done;
}

-- what was done, with a cut that didn't come
rise_over : {T E : Type 0} (a b : CoreView T E) (m : List ℕ) (items : List Item) → HasDone a b m items
    → RisesBy (age_of a) (age_of b) (length items + 1)
rise_over a b m items done =
    let made = done.rise.events in
    let high = done.rise.operations in
    record { no_fall = done.rise.no_fall; events = omega arith; operations = omega arith }

-- all rows were made
pub stops_end : {T E : Type 0} (a b : CoreView T E) (rows : List Row) (at : Cursor) (m : List ℕ) (i made : ℕ) → length rows ≤ i
    → HasCome a rows at b m i made → StopsAt a rows at stops.End b
stops_end a b rows at m i made past come = record {
  items = come.items;
  split = come.split ∙ ap (λ (left : List Item). come.items ++ left) (items_past rows i made past);
  did = come.done.did;
  numbered = come.done.opened.numbered;
  rise = rise_over a b m come.items come.done;
  powered = come.done.opened.on;
  within = tt;
}

-- a row of power came
pub stops_power : {T E : Type 0} (a b c : CoreView T E) (rows : List Row) (at : Cursor) (m n : List ℕ) (i made arrive : ℕ) (row : Row)
    → i < length rows → row ≡ get_or rows i row → HasCome a rows at b m i made → RowRuns b row made (row_stops.Power arrive) c n
    → StopsAt a rows at (stops.Power i arrive) c
stops_power a b c rows at m n i made arrive row within is come runs =
    let power : row ≡ Power arrive = runs.0 in
    let done = subst (λ (items : List Item). HasDone a c n items) (append-nil come.items)
    (went_then a b c m n come.items [] come.done runs.1) in
    record {
      items = come.items;
      split = split_here rows at come.items i made row within is come.split
          ∙ ap (λ (r : Row). come.items ++ (row_left made r ++ items_of (drop (i + 1) rows))) power;
      did = done.did;
      numbered = done.opened.numbered;
      rise = rise_over a c n come.items done;
      powered = done.opened.on;
      within = within;
    }

-- a call or turn of a row was cut
pub stops_cut : {T E : Type 0} (a b c : CoreView T E) (rows : List Row) (at : Cursor) (m : List ℕ) (i made more : ℕ) (row : Row)
    → i < length rows → row ≡ get_or rows i row → HasCome a rows at b m i made → IsCutIn b c (row_left made row) (row_left more row)
    → StopsAt a rows at (stops.Cut (record { row = i; made = more })) c
stops_cut a b c rows at m i made more row within is come cut =
    let here = items_here rows i more row within is in
    let behind : List Item = items_of (drop (i + 1) rows) in
    let cut_off = cut_then a b c m come.items cut.done come.done cut.cut in
    record {
      items = come.items ++ cut.done;
      split = split_here rows at come.items i made row within is come.split
          ∙ ap (λ (left : List Item). come.items ++ (left ++ behind)) cut.split
          ∙ ap (λ (left : List Item). come.items ++ left) (append_assoc cut.done (row_left more row) behind)
          ∙ sym (append_assoc come.items cut.done (row_left more row ++ behind))
          ∙ ap (λ (left : List Item). (come.items ++ cut.done) ++ left) (sym here);
      did = cut_off.did;
      numbered = cut_off.numbered;
      rise = cut_off.rise;
      powered = (subst BeginWithWork (sym here) (begin_append (row_left more row) behind cut.begin), cut_off.cut);
      within = within;
    }
