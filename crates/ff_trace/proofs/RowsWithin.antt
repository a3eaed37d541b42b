-- The rows of a trace are within what a run of them may count on.
use Rattle.std.proofs.Common.{◌≡◌, ◌≤◌, ◌+◌, ℕ, List, [], ◌∷◌, true, cond, fold, arith}
use Rattle.std.proofs.lemmas.Bool.Decides.{nat_tests}
use Rattle.std.proofs.lemmas.List.Sums.{sum_by-cons}
use Rattle.std.specs.Prelude.{count_by}
use Rattle.ff_model.specs.declared.counts.Kind.TheVariants.{Promote, Evict, Collect, Drain}
use Rattle.ff_trace.specs.Tally.{FitAfter, empty_tally, fits, most_losses, most_rows, most_turns, with_row}
use Rattle.ff_trace.specs.Trace.{IsTrace}
use Rattle.ff_trace.specs.Within.{AreWithin, is_power, turns_asked, turns_in_row}
use Rattle.ff_trace.specs.declared.row.Row.{Row}
use Rattle.ff_trace.specs.declared.row.Row.TheVariants.{Call, Turns, Power}
use Rattle.ff_trace.specs.declared.tally.Limits.{Limits}
use Rattle.ff_trace.specs.declared.tally.Tally.{Tally}
use Rattle.ff_trace.proofs.RowsOfCallers.{rows-of_callers}
use Rattle.ff_trace.proofs.RowsRead.{tally_of-rows}

-- the turns of all kinds
abbrev all_turns : Tally → ℕ
all_turns tally = tally.promote + tally.evict + tally.collect + tally.drain

-- few rows, few turns of each kind and few losses of power
record IsFew (cuts : ℕ) (tally : Tally) : Type 0 where
  few_rows : tally.rows ≤ most_rows
  few_promote : tally.promote ≤ most_turns
  few_evict : tally.evict ≤ most_turns
  few_collect : tally.collect ≤ most_turns
  few_drain : tally.drain ≤ most_turns
  few_losses : tally.losses + cuts ≤ most_losses

-- what rows add to those before them
record Adds (before : Tally) (later : List Row) (after : Tally) : Type 0 where
  turns : all_turns after ≡ all_turns before + turns_asked later
  losses : after.losses ≡ before.losses + count_by is_power later

-- a row that fits leaves them few
row-few : (limits : Limits) (tally : Tally) (row : Row) → fits limits tally row ≡ true → IsFew limits.cuts tally
    → IsFew limits.cuts (with_row tally row)
row-few limits tally (Call caller op) fit few = grind (arith, nat_tests)
row-few limits tally (Turns Promote count) fit few = grind (arith, nat_tests)
row-few limits tally (Turns Evict count) fit few = grind (arith, nat_tests)
row-few limits tally (Turns Collect count) fit few = grind (arith, nat_tests)
row-few limits tally (Turns Drain count) fit few = grind (arith, nat_tests)
row-few limits tally (Power arrive) fit few = grind (arith, nat_tests)

-- so do rows
rows-few : (limits : Limits) (tally : Tally) (rows : List Row) → FitAfter limits tally rows → IsFew limits.cuts tally
    → IsFew limits.cuts (fold with_row tally rows)
rows-few limits tally [] fit few = few
rows-few limits tally (row ∷ later) fit few =
    rows-few limits (with_row tally row) later fit.1 (row-few limits tally row fit.0 few)

-- what a row adds
row-turns : (tally : Tally) (row : Row) → all_turns (with_row tally row) ≡ all_turns tally + turns_in_row row
row-turns tally (Call caller op) = omega arith
row-turns tally (Turns Promote count) = omega arith
row-turns tally (Turns Evict count) = omega arith
row-turns tally (Turns Collect count) = omega arith
row-turns tally (Turns Drain count) = omega arith
row-turns tally (Power arrive) = omega arith

row-losses : (tally : Tally) (row : Row) → (with_row tally row).losses ≡ tally.losses + cond (is_power row) 1 0
row-losses tally (Call caller op) = omega arith
row-losses tally (Turns Promote count) = omega arith
row-losses tally (Turns Evict count) = omega arith
row-losses tally (Turns Collect count) = omega arith
row-losses tally (Turns Drain count) = omega arith
row-losses tally (Power arrive) = omega arith

rows-added : (tally : Tally) (rows : List Row) → Adds tally rows (fold with_row tally rows)
rows-added tally [] = record { turns = omega arith; losses = omega arith }
rows-added tally (row ∷ later) =
    let adds = rows-added (with_row tally row) later in
    let turns = sum_by-cons turns_in_row row later in
    let losses = sum_by-cons (λ row. cond (is_power row) 1 0) row later in
    let here = row-turns tally row in
    let lost = row-losses tally row in
    record { turns = omega (arith, adds.turns, turns, here); losses = omega (arith, adds.losses, losses, lost) }

-- the rows of a trace, whose settings have no more cuts than the power may be lost
pub rows_within : (limits : Limits) (bytes : List ℕ) (rows : List Row) → IsTrace limits bytes rows → limits.cuts ≤ most_losses
    → AreWithin limits.cuts rows
rows_within limits bytes rows is_trace cuts =
    let none : IsFew limits.cuts empty_tally = grind arith in
    let few = rows-few limits empty_tally rows is_trace.are_rows.fit none in
    let adds = rows-added empty_tally rows in
    record {
      callers = rows-of_callers is_trace.records rows is_trace.are_rows.each;
      few = omega (arith, few.few_rows, tally_of-rows rows);
      turns = omega (arith, adds.turns, few.few_promote, few.few_evict, few.few_collect, few.few_drain);
      losses = omega (arith, adds.losses, few.few_losses);
    }
