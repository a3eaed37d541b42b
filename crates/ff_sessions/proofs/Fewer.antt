-- How many losses of power are left, before a session and behind one.
use Rattle.std.proofs.Common.{◌≡◌, ◌+◌, ◌<◌, ◌≤◌, ℕ, zero, suc, Bool, true, false, cond, List, [], ◌∷◌, ◌++◌, length, drop, take, inl, inr, refl, ap, ◌∙◌, append_assoc, arith, length-append}
use Rattle.std.specs.Prelude.{◌==◌, Option, Some, None, count_by, is_some, nat_lt, option_map, replicate}
use Rattle.std.specs.List.{flat_map}
use Rattle.std.proofs.lemmas.Bool.{cases_Bool, eqb-true, le-ltb, lt-ltb, ltb-true}
use Rattle.std.proofs.lemmas.List.{length-map, length-replicate}
use Rattle.std.proofs.lemmas.List.Sums.{count_by-le-length, sum_by-append, sum_by-cons, sum_by-le-sum_by, sum_by-take-drop, sum_by-take-le}
use Rattle.ff_flash.specs.FlashState.{FlashState}
use Rattle.ff_flash.specs.Plans.{Planned, cut_at, cut_numbers}
use Rattle.ff_flash.specs.SimFlash.{arrive_of_cut, told_plan}
use Rattle.ff_flash.specs.declared.plan.CutAt.{CutAt}
use Rattle.ff_trace.specs.Within.{is_power, turns_asked, turns_in_row}
use Rattle.ff_trace.specs.declared.row.Row.{Row}
use Rattle.ff_trace.specs.declared.row.Row.TheVariants.{Call, Turns, Power}
use Rattle.ff_model.specs.declared.counts.Kind.{Kind}
use Rattle.ff_sessions.specs.Following.{is_loss, stops_left}
use Rattle.ff_sessions.specs.Items.{Item, items_of, loss, over, row_items, turn}

counted : {X : Type 0} (p : X → Bool) (x : X) (xs : List X) → count_by p (x ∷ xs) ≡ cond (p x) 1 0 + count_by p xs
counted p x xs = sum_by-cons (λ x. cond (p x) 1 0) x xs

counted_both : {X : Type 0} (p : X → Bool) (xs ys : List X) → count_by p (xs ++ ys) ≡ count_by p xs + count_by p ys
counted_both p xs ys = sum_by-append (λ x. cond (p x) 1 0) xs ys

-- an operation past more operations is past fewer
still_past : (old new number : ℕ) → old ≤ new → cond (nat_lt new number) 1 0 ≤ cond (nat_lt old number) 1 0
still_past old new number rise = elim (cases_Bool (nat_lt new number)) [
  | inl past ↦
      let before : nat_lt old number ≡ true = lt-ltb old number (let far = ltb-true new number past in omega arith) in
      rw (past, before) (omega arith)
  | inr not_past ↦ rw not_past (omega arith)
]

past_fewer : (old new : ℕ) (numbers : List ℕ) → old ≤ new
    → count_by (λ at. nat_lt new at) numbers ≤ count_by (λ at. nat_lt old at) numbers
past_fewer old new numbers rise =
    sum_by-le-sum_by (λ at. cond (nat_lt new at) 1 0) (λ at. cond (nat_lt old at) 1 0) numbers (λ at. still_past old new at rise)

-- where the cut of an operation came, it is past the operations before it and not past those with it
cut_came : (old made new : ℕ) (cuts : List CutAt) → is_some (cut_at made cuts) ≡ true → old < made → made ≤ new
    → count_by (λ at. nat_lt new at) (cut_numbers cuts) + 1 ≤ count_by (λ at. nat_lt old at) (cut_numbers cuts)
cut_came old made new [] found more rise = absurd (let both : false ≡ true = found in cc)
cut_came old made new (cut ∷ cuts) found more rise =
    let before = counted (λ at. nat_lt old at) cut.at (cut_numbers cuts) in
    let behind = counted (λ at. nat_lt new at) cut.at (cut_numbers cuts) in
    elim (cases_Bool (cut.at == made)) [
      | inl same ↦
          let is : cut.at ≡ made = eqb-true cut.at made same in
          let was : nat_lt old cut.at ≡ true = lt-ltb old cut.at (omega arith) in
          let none : nat_lt new cut.at ≡ false = le-ltb new cut.at (omega arith) in
          let one = rw was at before in
          let zero_more = rw none at behind in
          let others = past_fewer old new (cut_numbers cuts) (omega arith) in
          omega arith
      | inr differs ↦
          let later = rw differs at found in
          let rest = cut_came old made new cuts later more rise in
          let here = still_past old new cut.at (omega arith) in
          omega arith
    ]

arrived : (cut : Option CutAt) (arrive : ℕ) → option_map (λ c. c.arrive) cut ≡ Some arrive → is_some cut ≡ true
arrived None arrive is = absurd (cc)
arrived (Some cut) arrive is = refl

-- after a cut the plan has one for its operation
cut_found : (flash : FlashState) (arrive : ℕ) → arrive_of_cut flash ≡ Some arrive
    → is_some (cut_at flash.operations (told_plan flash).cuts) ≡ true
cut_found flash arrive is = elim (cases_Bool flash.cut) [
  | inl cut ↦ arrived (cut_at flash.operations (told_plan flash).cuts) arrive (rw cut at is)
  | inr uncut ↦ absurd (let none = rw uncut at is in cc)
]

-- a cut ended the session: one of those that were left has come
pub fewer_cut : (old new : ℕ) (flash : FlashState) (arrive : ℕ) (items work left : List Item) → arrive_of_cut flash ≡ Some arrive
    → old < flash.operations → flash.operations ≤ new → items ≡ work ++ left
    → stops_left new (told_plan flash) left + 1 ≤ stops_left old (told_plan flash) items
fewer_cut old new flash arrive items work left is more rise split =
    let cuts = cut_came old flash.operations new (told_plan flash).cuts (cut_found flash arrive is) more rise in
    let losses = ap (count_by is_loss) split ∙ counted_both is_loss work left in
    omega arith

-- a row of power ended it: a loss more is behind
pub fewer_loss : (old new : ℕ) (plan : Planned) (arrive : ℕ) (items work left : List Item) → items ≡ work ++ (loss arrive ∷ left)
    → old ≤ new → stops_left new plan left + 1 ≤ stops_left old plan items
fewer_loss old new plan arrive items work left split rise =
    let cuts = past_fewer old new (cut_numbers plan.cuts) rise in
    let losses = ap (count_by is_loss) split ∙ counted_both is_loss work (loss arrive ∷ left) in
    let one = counted is_loss (loss arrive) left in
    omega arith

turns_kept : (count : ℕ) (kind : Kind) → count_by is_loss (replicate count (turn kind)) ≡ 0
turns_kept zero kind = refl
turns_kept (suc count) kind =
    let rest = turns_kept count kind in
    let more = counted is_loss (turn kind) (replicate count (turn kind)) in
    omega arith

row_losses : (row : Row) → count_by is_loss (row_items row) ≡ cond (is_power row) 1 0
row_losses (Call caller op) = refl
row_losses (Turns kind count) = turns_kept count kind
row_losses (Power arrive) = refl

losses_of : (rows : List Row) → count_by is_loss (items_of rows) ≡ count_by is_power rows
losses_of [] = refl
losses_of (row ∷ rows) =
    let rest = losses_of rows in
    let first = row_losses row in
    let items : items_of (row ∷ rows) ≡ row_items row ++ items_of rows = append_assoc (row_items row) (flat_map row_items rows) (over ∷ []) in
    let all = ap (count_by is_loss) items ∙ counted_both is_loss (row_items row) (items_of rows) in
    let counts = counted is_power row rows in
    omega arith

cuts_counted : (operations : ℕ) (cuts : List CutAt) → count_by (λ at. nat_lt operations at) (cut_numbers cuts) ≤ length cuts
cuts_counted operations cuts =
    let most = count_by-le-length (λ at. nat_lt operations at) (cut_numbers cuts) in
    let size = length-map cuts (λ (cut : CutAt). cut.at) in
    omega arith

-- before the first session: the rows of power and the cuts
pub stops_first : (plan : Planned) (rows : List Row) (most : ℕ) → count_by is_power rows + length plan.cuts ≤ most
    → stops_left 0 plan (items_of rows) ≤ most
stops_first plan rows most few =
    let losses = losses_of rows in
    let cuts = cuts_counted 0 plan.cuts in
    omega arith

-- the items of a row
row_size : (row : Row) → length (row_items row) ≤ 1 + turns_in_row row
row_size (Call caller op) = omega arith
row_size (Turns kind count) = let size = length-replicate {A = Item} count (turn kind) in omega arith
row_size (Power arrive) = omega arith

-- and of all rows, with the end
pub items_few : (rows : List Row) → length (items_of rows) ≤ length rows + turns_asked rows + 1
items_few [] = omega arith
items_few (row ∷ rows) =
    let rest = items_few rows in
    let first = row_size row in
    let items : items_of (row ∷ rows) ≡ row_items row ++ items_of rows = append_assoc (row_items row) (flat_map row_items rows) (over ∷ []) in
    let size = ap length items ∙ length-append (row_items row) (items_of rows) in
    let turns : turns_asked (row ∷ rows) ≡ turns_in_row row + turns_asked rows = sum_by-cons turns_in_row row rows in
    omega arith

-- rows among these ask for no more turns than all
pub turns_left : (rows : List Row) (row count : ℕ) → turns_asked (take count (drop row rows)) ≤ turns_asked rows
turns_left rows row count =
    let part = sum_by-take-le turns_in_row (drop row rows) count in
    let both = sum_by-take-drop turns_in_row rows row in
    omega arith
