use Rattle.ff_plain.proofs.PlainDevice.{fresh_plain}
use Rattle.ff_plain.proofs.plain.Plain.new.Goals as goal

pub invariant_of-result : goal.invariant_of-result
invariant_of-result c = rw c.loop.invariant (fresh_plain c.loop.counter)
