use Rattle.std.proofs.Common.{sym, ◌∙◌}
use Rattle.ff_device.proofs.SeenSeals.{sealed_seen}
use Rattle.ff_device.proofs.SeenSteps.{pending_is}
use Rattle.ff_device.proofs.store_steps.seal_step.Goals as goal

pub returns-clause-step : goal.returns-clause-step
returns-clause-step g c =
    sealed_seen c.args.store.now c.seal_step.new.self c.seal_step.result c.known.ensures.store
    (sym (pending_is c.args.store.now) ∙ c.requires.pending)
    c.seal_step.ensures.off c.seal_step.ensures.step c.seal_step.ensures.placed c.seal_step.ensures.stopped
    (record { with_power = c.seal_step.ensures.call; without_power = λ down. (c.seal_step.ensures.off down).1 })

pub returns-clause-calls : goal.returns-clause-calls
returns-clause-calls g c =
    record { with_power = c.seal_step.ensures.call; without_power = λ down. (c.seal_step.ensures.off down).1 }
