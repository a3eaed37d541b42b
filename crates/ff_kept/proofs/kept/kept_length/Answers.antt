use Rattle.std.proofs.Common.{arith}
use Rattle.std.proofs.lemmas.Grind.{common_steps}
use Rattle.ff_kept.proofs.Losing.{keeps_at}
use Rattle.ff_kept.proofs.kept.kept_length.Goals as goal

pub returns-clause-kept : goal.returns-clause-kept
returns-clause-kept c =
    keeps_at c.args.posts.now c.args.arrive c.args.entries c.before_first.result (grind (arith, common_steps))
