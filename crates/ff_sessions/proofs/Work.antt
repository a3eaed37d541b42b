-- The items of a session's calls and turns, one after the other.
use Rattle.std.proofs.Common.{◌≡◌, ◌+◌, ℕ, zero, suc, Bool, List, [], ◌∷◌, ◌++◌, length, refl, ap, subst, arith}
use Rattle.std.specs.Prelude.{cond, count_by, replicate}
use Rattle.std.proofs.lemmas.List.Sums.{sum_by-append, sum_by-cons}
use Rattle.ff_core.specs.declared.log.Turned.{Turned}
use Rattle.ff_model.specs.declared.counts.Kind.{Kind}
use Rattle.ff_model.specs.declared.history.Entry.{Entry}
use Rattle.ff_sessions.specs.Items.{IsWork, Item, call, loss, over, turn}
use Rattle.ff_sessions.specs.Making.{is_call, is_turn}

-- some items, and behind them others
pub work_append : (n : ℕ) (entries : List Entry) (turns : List Turned) (items : List Item) (entries' : List Entry)
    (turns' : List Turned) (items' : List Item) → IsWork n entries turns items → IsWork (n + length entries) entries' turns' items'
    → IsWork n (entries ++ entries') (turns ++ turns') (items ++ items')
work_append n entries turns [] entries' turns' items' (none, still) more =
    let here : n + length entries ≡ n = let size = ap length none in omega arith in
    rw (none, still) (subst (λ (k : ℕ). IsWork k entries' turns' items') here more)
work_append n [] turns (call by op ∷ items) entries' turns' items' work more = absurd work
work_append n (e ∷ entries) turns (call by op ∷ items) entries' turns' items' (caller, is, rest) more =
    let there : n + suc (length entries) ≡ n + 1 + length entries = omega arith in (
      caller,
      is,
      work_append (n + 1) entries turns items entries' turns' items' rest
          (subst (λ (k : ℕ). IsWork k entries' turns' items') there more),
    )
work_append n entries [] (turn kind ∷ items) entries' turns' items' work more = absurd work
work_append n entries (t ∷ turns) (turn kind ∷ items) entries' turns' items' (is, calls, rest) more =
    (is, calls, work_append n entries turns items entries' turns' items' rest more)
work_append n entries turns (loss arrive ∷ items) entries' turns' items' work more = absurd work
work_append n entries turns (over ∷ items) entries' turns' items' work more = absurd work

pub count_append : (p : Item → Bool) (xs ys : List Item) → count_by p (xs ++ ys) ≡ count_by p xs + count_by p ys
count_append p xs ys = sum_by-append (λ x. cond (p x) 1 0) xs ys

-- a row of turns is so many
pub turns_counted : (count : ℕ) (kind : Kind) → count_by is_turn (replicate count (turn kind)) ≡ count
turns_counted zero kind = refl
turns_counted (suc count) kind =
    let rest = turns_counted count kind in
    let more : count_by is_turn (replicate (suc count) (turn kind)) ≡ 1 + count_by is_turn (replicate count (turn kind)) =
    sum_by-cons (λ item. cond (is_turn item) 1 0) (turn kind) (replicate count (turn kind)) in
    omega arith

-- and no call
pub turns_uncalled : (count : ℕ) (kind : Kind) → count_by is_call (replicate count (turn kind)) ≡ 0
turns_uncalled zero kind = refl
turns_uncalled (suc count) kind =
    let rest = turns_uncalled count kind in
    let more : count_by is_call (replicate (suc count) (turn kind)) ≡ 0 + count_by is_call (replicate count (turn kind)) =
    sum_by-cons (λ item. cond (is_call item) 1 0) (turn kind) (replicate count (turn kind)) in
    omega arith
