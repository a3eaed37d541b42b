-- The rows so far, and those that are left.
use Rattle.std.proofs.Common.{◌≡◌, ◌∙◌, ◌+◌, ◌-◌, ◌%◌, ◌<◌, ◌≤◌, ℕ, zero, suc, List, [], ◌∷◌, ◌++◌, refl, sym, ap, arith}
use Rattle.std.specs.List.{enumerate_from, flat_map}
use Rattle.std.proofs.lemmas.List.{append-nil, append_assoc}
use Rattle.ff_model.specs.declared.op.Op.{Op}
use Rattle.ff_gen.specs.Calls.{call_from, calls_from}
use Rattle.ff_gen.specs.Generated.{generated, mark_rows, rows_at, turns_behind}
use Rattle.ff_trace.specs.declared.row.Row.{Row}
use Rattle.ff_trace.specs.declared.row.Row.TheVariants.{Call}

-- the rows of so many calls from a number on, drawn from a state
abbrev pub rows_left : ℕ → ℕ → ℕ → List Row
rows_left count at state = flat_map rows_at (enumerate_from at (calls_from count state))

calls_from-none : (count state : ℕ) → count ≡ 0 → calls_from count state ≡ []
unfolding calls_from
calls_from-none zero state none = refl
calls_from-none (suc count) state none = absurd (omega arith)

calls_from-more : (count left state : ℕ) → count ≡ left + 1
    → calls_from count state ≡ (call_from state).op ∷ calls_from left (call_from state).state
unfolding calls_from
calls_from-more zero left state more = absurd (omega arith)
calls_from-more (suc count) left state more =
    let same : count ≡ left = omega arith in
    ap (λ (n : ℕ). (call_from state).op ∷ calls_from n (call_from state).state) same

-- a call and the turns behind it are the rows of its number
pub call-and-turns : (rows called new : List Row) (row : Row) (number : ℕ) (op : Op) → called ≡ rows ++ row ∷ []
    → row ≡ Call (record { 0 = number % 4 }) op → new ≡ called ++ turns_behind number
    → new ≡ rows ++ rows_at (number, op)
call-and-turns rows called new row number op pushed is turned =
    turned ∙ ap (λ (start : List Row). start ++ turns_behind number) pushed
    ∙ append_assoc rows (row ∷ []) (turns_behind number) ∙ ap (λ (r : Row). rows ++ r ∷ turns_behind number) is

-- so many rows, and behind them those that are left, are all rows of the number
pub record HasRows (number at state : ℕ) (rows : List Row) : Type 0 where
  pub whole : rows ++ rows_left (20000 - at) at state ≡ generated number

pub rows-start : (number : ℕ) (rows : List Row) → rows ≡ [] ++ mark_rows → HasRows number 0 number rows
unfolding generated
rows-start number rows marks = record { whole = rw marks }

pub rows-more : (number at state next : ℕ) (rows more : List Row) → HasRows number at state rows → at < 20000
    → more ≡ rows ++ rows_at (at, (call_from state).op) → next ≡ (call_from state).state → HasRows number (at + 1) next more
rows-more number at state next rows more has within pushed behind =
    let left : 20000 - at ≡ (20000 - (at + 1)) + 1 = omega arith in
    let calls = calls_from-more (20000 - at) (20000 - (at + 1)) state left in
    let step : rows_left (20000 - at) at state ≡ rows_at (at, (call_from state).op) ++ rows_left (20000 - (at + 1)) (at + 1) (call_from state).state =
    ap (λ (ops : List Op). flat_map rows_at (enumerate_from at ops)) calls in
    record {
      whole = ap (λ (s : ℕ). more ++ rows_left (20000 - (at + 1)) (at + 1) s) behind
          ∙ ap (λ (start : List Row). start ++ rows_left (20000 - (at + 1)) (at + 1) (call_from state).state) pushed
          ∙ append_assoc rows (rows_at (at, (call_from state).op)) (rows_left (20000 - (at + 1)) (at + 1) (call_from state).state) ∙ sym (ap (λ (rest : List Row). rows ++ rest) step) ∙ has.whole;
    }

pub rows-end : (number at state : ℕ) (rows : List Row) → HasRows number at state rows → 20000 ≤ at → rows ≡ generated number
rows-end number at state rows has past =
    let none = calls_from-none (20000 - at) state (omega arith) in
    sym (append-nil rows) ∙ sym (ap (λ (ops : List Op). rows ++ flat_map rows_at (enumerate_from at ops)) none) ∙ has.whole
