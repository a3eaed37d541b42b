use Rattle.ff_gen.proofs.Rows.{HasRows}
use Rattle.ff_gen.proofs.generated.generate.Given as goal

abbrev pub invariant-loop-at : goal.invariant-loop-at
invariant-loop-at l = HasRows l.number l.at l.draws.state l.rows.items
