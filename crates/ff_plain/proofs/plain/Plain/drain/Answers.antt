use Rattle.std.proofs.Common.{◌∙◌, sym, Some}
use Rattle.ff_plain.specs.PlainFields.{view_of}
use Rattle.ff_plain.proofs.PlainDevice.{post_within, drained_pages}
use Rattle.ff_plain.proofs.plain.Plain.drain.Goals as goal

pub lay-requires-clause-page : goal.lay-requires-clause-page
lay-requires-clause-page c =
    (post_within (view_of c.self.inside) c.in-Some.post c.self.invariant (sym c.in-Some.ensures.value))

pub invariant_of-self : goal.invariant_of-self
invariant_of-self c =
    rw (c.lay.ensures, c.take.ensures.after)
    (drained_pages (view_of c.self.inside) (Some c.in-Some.post) (sym c.take.ensures.value ∙ c.in-Some.is) c.self.invariant)
