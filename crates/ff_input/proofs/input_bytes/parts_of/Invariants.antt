use Rattle.std.proofs.Common.{◌≡◌, ◌<◌, ℕ}
use Rattle.std.specs.Prelude.{None}
use Rattle.ff_input.specs.Input.{behind_separator}
use Rattle.ff_input.proofs.input_bytes.parts_of.Given as goal

abbrev pub invariant-loop-at : goal.invariant-loop-at
invariant-loop-at l = (before : ℕ) → before < l.at → behind_separator l.fn.input before ≡ None
