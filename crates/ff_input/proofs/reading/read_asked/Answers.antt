use Rattle.std.proofs.lemmas.Result.{IfErr-weaker, IfOk-weaker}
use Rattle.ff_input.proofs.AskedParts.{cause_of_parts, whole_such}
use Rattle.ff_input.proofs.reading.read_asked.Goals as goal

pub returns-in-Ok-clause-ok : goal.returns-in-Ok-clause-ok
returns-in-Ok-clause-ok g c =
    IfOk-weaker c.read_parts.result _ _ (λ asked has. whole_such _ c.in-Ok.input.items _ c.in-Ok.ensures.ok has)
    (rw c.deref.ensures.value at c.read_parts.ensures.ok)

pub returns-in-Ok-clause-err : goal.returns-in-Ok-clause-err
returns-in-Ok-clause-err g c =
    IfErr-weaker c.read_parts.result _ _ (λ why cause. cause_of_parts _ c.in-Ok.input.items why c.in-Ok.ensures.ok cause)
    (rw c.deref.ensures.value at c.read_parts.ensures.err)
