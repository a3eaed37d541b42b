use Rattle.std.proofs.Common.{◌≡◌, ◌+◌, ◌*◌, ◌^◌, ◌≤◌, take}
use Rattle.ff_trace.specs.Fields.{digits_value}
use Rattle.ff_trace.proofs.fields.value.Given as goal

abbrev pub invariant-loop-digit : goal.invariant-loop-digit
invariant-loop-digit l = record {
  value : l.value ≡ digits_value (take l.digit-index l.digits);
  bound : l.value + 23 ≤ 23 * 10 ^ l.digit-index;
}
