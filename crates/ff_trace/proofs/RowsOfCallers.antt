-- Each call of a trace is of one of the callers.
use Rattle.std.proofs.Common.{◌≡◌, ◌<◌, ℕ, Bool, true, false, cond, List, [], ◌∷◌, map, Option, Some, None, inl, inr, arith}
use Rattle.std.specs.Prelude.{All, IfSome, codes, nat_lt, option_map}
use Rattle.std.proofs.lemmas.Bool.{cases_lt}
use Rattle.std.proofs.lemmas.Bool.Decides.{nat_tests}
use Rattle.std.proofs.lemmas.List.Elements.{All-cons, All-nil}
use Rattle.std.specs.Str.{bytes_eq}
use Rattle.ff_model.specs.declared.counts.Kind.{Kind}
use Rattle.ff_model.specs.declared.op.Op.{Op}
use Rattle.ff_trace.specs.Fields.{both_of, caller_in, caller_of, device_row_of, if_empty, kind_of, make_call, number_of, op_of, row_of}
use Rattle.ff_trace.specs.Within.{IsOfCaller}
use Rattle.ff_trace.specs.declared.row.Row.{Row}
use Rattle.ff_trace.specs.declared.row.Row.TheVariants.{Turns, Power}

-- a row that was found, if any, is of a caller
abbrev FindsOfCaller : Option Row → Type 0
FindsOfCaller found = IfSome found IsOfCaller

-- of two rows
chosen : (test : Bool) (first second : Option Row) → FindsOfCaller first → FindsOfCaller second → FindsOfCaller (cond test first second)
chosen true first second is other = is
chosen false first second is other = other

where_empty : (field : List ℕ) (found : Option Row) → FindsOfCaller found → FindsOfCaller (if_empty field found)
where_empty [] found is = is
where_empty (byte ∷ bytes) found is = tt

power-found : (arrive : Option ℕ) → FindsOfCaller (option_map (λ arrive. Power arrive) arrive)
power-found None = tt
power-found (Some arrive) = tt

turns-found : (kind : Option Kind) (count : Option ℕ) → FindsOfCaller (both_of Turns kind count)
turns-found None count = tt
turns-found (Some kind) None = tt
turns-found (Some kind) (Some count) = tt

call-found : (caller : Option ℕ) (op : Option Op) → IfSome caller (λ number. number < 64) → FindsOfCaller (both_of make_call caller op)
call-found None op low = tt
call-found (Some caller) None low = tt
call-found (Some caller) (Some op) low = low

-- a caller's number is below 64
caller-low : (number : Option ℕ) → IfSome (caller_in number) (λ number. number < 64)
caller-low None = tt
caller-low (Some number) = elim (cases_lt number 64) [
  | inl low ↦ let test : nat_lt number 64 ≡ true = grind (arith, nat_tests) in rw test low
  | inr high ↦ let test : nat_lt number 64 ≡ false = grind (arith, nat_tests) in rw test tt
]

-- the row that a record is, if any
row-found : (fields : List (List ℕ)) → FindsOfCaller (row_of fields)
row-found [] = tt
row-found (p ∷ []) = tt
row-found (p ∷ q ∷ []) = tt
row-found (p ∷ q ∷ r ∷ []) = tt
row-found (caller ∷ op ∷ a ∷ b ∷ []) =
    chosen (bytes_eq caller (codes "-")) (if_empty b (device_row_of op a)) (both_of make_call (caller_of caller) (op_of op a b))
    (where_empty b (device_row_of op a)
    (chosen (bytes_eq op (codes "power")) (option_map (λ arrive. Power arrive) (number_of a)) (both_of Turns (kind_of op) (number_of a))
    (power-found (number_of a)) (turns-found (kind_of op) (number_of a))))
    (call-found (caller_of caller) (op_of op a b) (caller-low (number_of caller)))
row-found (p ∷ q ∷ r ∷ s ∷ t ∷ rest) = tt

-- the rows that records are
pub rows-of_callers : (records : List (List (List ℕ))) (rows : List Row) → map row_of records ≡ map Some rows → All IsOfCaller rows
rows-of_callers [] [] each = All-nil IsOfCaller
rows-of_callers [] (row ∷ rows) each = cc
rows-of_callers (fields ∷ records) [] each = cc
rows-of_callers (fields ∷ records) (row ∷ rows) each =
    let here : row_of fields ≡ Some row = cc in
    let later : map row_of records ≡ map Some rows = cc in
    All-cons IsOfCaller row rows (rw here at (row-found fields)) (rows-of_callers records rows later)
