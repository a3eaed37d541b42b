use Rattle.std.proofs.Common.{◌≡◌, ◌∙◌, ◌∷◌, [], true, List, Option, Some, length-append, inl, inr, sym, ap, arith}
use Rattle.ff_trace.specs.Tally.{fits, tally_of, with_row}
use Rattle.ff_trace.specs.Trace.{if_fits}
use Rattle.ff_trace.specs.declared.row.Row.{Row}
use Rattle.ff_trace.specs.declared.tally.Limits.{Limits}
use Rattle.ff_trace.specs.declared.tally.Tally.{Tally}
use Rattle.ff_trace.proofs.RowsRead.{bad_header, fits-within, if_fits-some, no_header, rows-bad, rows-end, rows-more, rows-start, tally_of-more, tally_of-rows}
use Rattle.ff_trace.proofs.trace_rows.read_rows.Goals as goal

-- a row that was found behind so many rows is one, and fits
found_row : (limits : Limits) (tally : Tally) (rows : List Row) (found : Option Row) (row : Row) → tally ≡ tally_of rows
    → Some row ≡ if_fits limits tally found → (found ≡ Some row) × (fits limits (tally_of rows) row ≡ true)
found_row limits tally rows found row same is = if_fits-some limits (tally_of rows) found row (rw same at is)

pub returns-then-not-branch-clause-cause : goal.returns-then-not-branch-clause-cause
returns-then-not-branch-clause-cause c = λ bytes nothing.
    inr (inr (no_header _ _ _ _ _ nothing c.in_ok-read.ensures.reads c.if-not-branch.true))

pub returns-then-not-is_header-clause-cause : goal.returns-then-not-is_header-clause-cause
returns-then-not-is_header-clause-cause c = λ bytes nothing.
    inr (inl (bad_header _ _ _ _ _ nothing c.in_ok-read.ensures.reads c.if-not-branch.false (sym c.is_header.ensures ∙ c.if-not-is_header.true)))

pub read-requires-in-loop-number : goal.read-requires-in-loop-number
read-requires-in-loop-number c =
    (c.loop-number.invariant.rows c.requires.reader.0 c.requires.reader.1).read.settings

pub loop-number-init : goal.loop-number-init
loop-number-init c = rw c.requires.none record {
  rows = λ bytes nothing. rows-start _ _ _ _ _ _ nothing c.in_ok-read.ensures.reads c.if-not-branch.false (sym c.is_header.ensures ∙ c.if-not-is_header.false);
  tally = c.new-tally.ensures;
  count = omega arith;
  few = omega arith;
}

pub returns-then-not-branch-2-clause-rows : goal.returns-then-not-branch-2-clause-rows
returns-then-not-branch-2-clause-rows c = λ bytes nothing.
    rows-end _ _ _ _ _ _ _ (c.loop-number.invariant.rows bytes nothing) c.in_ok-read-2.ensures.reads c.if-not-branch-2.true

pub returns-in_default-clause-cause : goal.returns-in_default-clause-cause
returns-in_default-clause-cause c = λ bytes nothing.
    inl (rows-bad _ _ _ _ _ _ _ _ (c.loop-number.invariant.rows bytes nothing) c.in_ok-read-2.ensures.reads c.if-not-branch-2.false c.loop-number.invariant.count
    (rw c.loop-number.invariant.tally at c.in_default.ensures.row))

pub loop-number-preserved : goal.loop-number-preserved
loop-number-preserved c =
    let rows = c.loop-number.rows.items in
    let so_far = c.loop-number.invariant in
    let found = found_row _ _ rows _ c.in-Some.row so_far.tally c.in-Some.ensures.row in
    let within = fits-within _ (tally_of rows) c.in-Some.row found.1 in
    let count = tally_of-rows rows in
    let more = length-append rows (c.in-Some.row ∷ []) in
    rw c.in_ok-push.ensures.pushed record {
      rows = λ bytes nothing. rows-more _ _ _ _ _ _ _ _ (so_far.rows bytes nothing) c.in_ok-read-2.ensures.reads c.if-not-branch-2.false found.0 found.1;
      tally = c.in-Some.ensures.counted ∙ ap (λ (t : Tally). with_row t c.in-Some.row) so_far.tally ∙ sym (tally_of-more rows c.in-Some.row);
      count = omega arith;
      few = omega arith;
    }
