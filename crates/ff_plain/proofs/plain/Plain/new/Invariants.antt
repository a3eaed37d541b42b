use Rattle.std.proofs.Common.{◌≡◌}
use Rattle.std.proofs.Math.ListN.{replicate}
use Rattle.ff_plain.specs.Plain.{fresh_page}
use Rattle.ff_plain.proofs.plain.Plain.new.Given as goal

abbrev pub invariant-loop : goal.invariant-loop
invariant-loop l = l.list.items ≡ replicate l.counter fresh_page
