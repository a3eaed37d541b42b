use Rattle.ff_device.proofs.store_steps.fetch.Goals as goal

pub returns-clause-calls : goal.returns-clause-calls
returns-clause-calls g c =
    record { with_power = c.fetch.ensures.call; without_power = λ down. (c.fetch.ensures.off down).1 }
