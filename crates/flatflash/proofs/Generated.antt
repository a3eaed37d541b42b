-- The rows that a number makes are run, and not too many.
use Rattle.std.proofs.Common.{◌≡◌, ◌+◌, ◌*◌, ◌<◌, ◌≤◌, ℕ, zero, suc, Bool, true, false, List, [], ◌∷◌, ◌++◌, length, refl, ap, arith, length-append}
use Rattle.std.specs.Prelude.{◌==◌, ◌-◌, ◌%◌, ◌/◌, if◌then◌else◌, All, cond, count_by}
use Rattle.std.specs.List.{enumerate_from, flat_map}
use Rattle.std.proofs.lemmas.Bool.{eqb-true}
use Rattle.std.proofs.lemmas.List.Elements.{All-append, All-cons}
use Rattle.std.proofs.lemmas.List.Sums.{sum_by-append}
use Rattle.ff_gen.specs.Calls.{calls_from}
use Rattle.ff_gen.specs.Generated.{generated, mark_row, mark_rows, rows_at, turn_rows, turns_behind}
use Rattle.ff_model.specs.declared.counts.Kind.TheVariants.{Collect, Drain, Evict, Promote}
use Rattle.ff_model.specs.declared.op.Op.{Op}
use Rattle.ff_trace.specs.declared.row.Row.{Row}
use Rattle.ff_trace.specs.declared.row.Row.TheVariants.{Call, Turns}
use Rattle.ff_trace.specs.Within.{AreWithin, IsOfCaller, is_power, turns_asked, turns_in_row}

-- the rows are of callers, without a loss of power, at most so many, and ask for at most so many turns
record AreFew (rows : List Row) (most turns : ℕ) : Type 0 where
  callers : All IsOfCaller rows
  few : length rows ≤ most
  turns_few : turns_asked rows ≤ turns
  powered : count_by is_power rows ≡ 0

none_called : All IsOfCaller []
none_called k d within = absurd (omega arith)

one_called : (row : Row) (rows : List Row) → IsOfCaller row → All IsOfCaller rows → All IsOfCaller (row ∷ rows)
one_called row rows called later = All-cons IsOfCaller row rows called later

both : (xs ys : List Row) (m n t u : ℕ) → AreFew xs m t → AreFew ys n u → AreFew (xs ++ ys) (m + n) (t + u)
both xs ys m n t u first second =
    let size = length-append xs ys in
    let turns = sum_by-append turns_in_row xs ys in
    let losses = sum_by-append (λ row. cond (is_power row) 1 0) xs ys in
    let few = first.few in
    let more = second.few in
    let some = first.turns_few in
    let others = second.turns_few in
    let on = first.powered in
    let on_too = second.powered in
    record {
      callers = All-append IsOfCaller xs ys first.callers second.callers;
      few = omega arith;
      turns_few = omega arith;
      powered = omega arith;
    }

turns_called : All IsOfCaller turn_rows
turns_called =
    one_called (Turns Promote 64) (Turns Evict 32 ∷ Turns Collect 8 ∷ Turns Drain 4 ∷ []) tt
    (one_called (Turns Evict 32) (Turns Collect 8 ∷ Turns Drain 4 ∷ []) tt
    (one_called (Turns Collect 8) (Turns Drain 4 ∷ []) tt (one_called (Turns Drain 4) [] tt none_called)))

marks_called : All IsOfCaller mark_rows
marks_called =
    one_called (mark_row 0) (mark_row 1 ∷ mark_row 2 ∷ mark_row 3 ∷ []) (omega arith)
    (one_called (mark_row 1) (mark_row 2 ∷ mark_row 3 ∷ []) (omega arith)
    (one_called (mark_row 2) (mark_row 3 ∷ []) (omega arith) (one_called (mark_row 3) [] (omega arith) none_called)))

-- turns come behind each sixteenth call
abbrev turns_due : ℕ → ℕ
turns_due at = 108 * (at / 16)

behind : (fits : Bool) (at : ℕ) → (at % 16 == 15) ≡ fits → AreFew (if fits then turn_rows else []) 4 (turns_due (at + 1) - turns_due at)
behind true at is =
    let last : at % 16 ≡ 15 = eqb-true (at % 16) 15 is in
    record { callers = turns_called; few = omega arith; turns_few = omega arith; powered = refl }
behind false at is = record { callers = none_called; few = omega arith; turns_few = omega arith; powered = refl }

called : (at : ℕ) (op : Op) → AreFew (Call (record { 0 = at % 4 }) op ∷ []) 1 0
called at op = record {
  callers = one_called (Call (record { 0 = at % 4 }) op) [] (let small : at % 4 < 64 = omega arith in small) none_called;
  few = omega arith;
  turns_few = omega arith;
  powered = refl;
}

at_few : (at : ℕ) (op : Op) → AreFew (rows_at (at, op)) 5 (turns_due (at + 1) - turns_due at)
at_few at op =
    let whole = both (Call (record { 0 = at % 4 }) op ∷ []) (turns_behind at) 1 4 0 (turns_due (at + 1) - turns_due at) (called at op)
    (behind (at % 16 == 15) at refl) in
    let few = whole.few in
    let turns = whole.turns_few in
    record { callers = whole.callers; few = omega arith; turns_few = omega arith; powered = whole.powered }

calls_few : (at : ℕ) (ops : List Op)
    → AreFew (flat_map rows_at (enumerate_from at ops)) (5 * length ops) (turns_due (at + length ops) - turns_due at)
calls_few at [] = record { callers = none_called; few = omega arith; turns_few = omega arith; powered = refl }
calls_few at (op ∷ ops) =
    let here = at_few at op in
    let later = calls_few (at + 1) ops in
    let whole = both (rows_at (at, op)) (flat_map rows_at (enumerate_from (at + 1) ops)) 5 (5 * length ops)
    (turns_due (at + 1) - turns_due at) (turns_due (at + 1 + length ops) - turns_due (at + 1)) here later in
    let few = whole.few in
    let turns = whole.turns_few in
    record { callers = whole.callers; few = omega arith; turns_few = omega arith; powered = whole.powered }

calls_many : (count state : ℕ) → length (calls_from count state) ≡ count
unfolding calls_from
calls_many zero state = refl
calls_many (suc count) state = ap suc (calls_many count _)

pub generated_within : (number : ℕ) → AreWithin 0 (generated number)
unfolding generated
generated_within number =
    let ops = calls_from 20000 number in
    let many = calls_many 20000 number in
    let marks : AreFew mark_rows 4 0 =
    record { callers = marks_called; few = omega arith; turns_few = omega arith; powered = refl } in
    let whole = both mark_rows (flat_map rows_at (enumerate_from 0 ops)) 4 (5 * length ops) 0
    (turns_due (0 + length ops) - turns_due 0) marks (calls_few 0 ops) in
    let few = whole.few in
    let turns = whole.turns_few in
    let on = whole.powered in
    record { callers = whole.callers; few = omega arith; turns = omega arith; losses = omega arith }
