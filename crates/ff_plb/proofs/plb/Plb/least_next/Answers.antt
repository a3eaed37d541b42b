use Rattle.ff_plb.proofs.plb.Plb.least_next.Goals as goal

pub returns-in_err-slot : goal.returns-in_err-slot
returns-in_err-slot c = rw (← c.self.view_is, ← c.deref.ensures.value, c.from_residual.ensures) c.in_err-slot.ensures
