use Rattle.std.proofs.Common.{◌≡◌, ◌+◌, ◌≤◌, length}
use Rattle.ff_trace.specs.Reading.{IsOfText}
use Rattle.ff_trace.specs.Tally.{tally_of}
use Rattle.ff_trace.proofs.RowsRead.{HasRows}
use Rattle.ff_trace.proofs.trace_rows.read_rows.Given as goal

abbrev pub invariant-loop-number : goal.invariant-loop-number
invariant-loop-number l = record {
  rows : IsOfText l.fn.reader (λ bytes. HasRows l.limits bytes l.rows.items l.reader);
  tally : l.tally ≡ tally_of l.rows.items;
  count : length l.rows.items + 1 ≡ l.number;
  few : length l.rows.items ≤ 262144;
}
