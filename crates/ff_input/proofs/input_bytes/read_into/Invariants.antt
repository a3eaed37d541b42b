use Rattle.std.proofs.Common.{◌≡◌, ◌≤◌, ◌+◌, length}
use Rattle.std.specs.Prelude.{vec_capacity}
use Rattle.std.specs.Io.KnownBytes.{Consumes}
use Rattle.ff_input.specs.Input.{chunk_size, input_limit}
use Rattle.ff_input.proofs.input_bytes.read_into.Given as goal

abbrev pub invariant-loop : goal.invariant-loop
invariant-loop g l = record {
  taken : Consumes (g.S.Source.left l.fn.source) (g.S.Source.left l.source) l.bytes.items;
  faults : g.S.Source.faults l.source ≡ g.S.Source.faults l.fn.source;
  size : length l.bytes.items ≤ input_limit;
  count : l.counter ≤ length l.bytes.items;
  room : input_limit + chunk_size ≤ vec_capacity l.bytes;
  chunk : length l.chunk ≡ chunk_size;
}
