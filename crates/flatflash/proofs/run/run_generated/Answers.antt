use Rattle.std.proofs.Common.{◌∙◌}
use Rattle.flatflash.proofs.Generated.{generated_within}
use Rattle.flatflash.proofs.run.run_generated.Goals as goal

pub run-requires-clause-rows : goal.run-requires-clause-rows
run-requires-clause-rows g c =
    rw (c.new-2.ensures.items, c.deref.ensures.value ∙ c.in_ok-rows.ensures) (generated_within c.args.number)

pub returns : goal.returns
returns g c =
    rw (c.new.ensures.items, c.new-2.ensures.items, c.deref.ensures.value ∙ c.in_ok-rows.ensures) at c.run.ensures.sessions
