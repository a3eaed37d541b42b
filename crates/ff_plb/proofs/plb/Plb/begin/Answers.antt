use Rattle.ff_plb.proofs.Entries.{apart-begin}
use Rattle.ff_plb.proofs.plb.Plb.begin.Goals as goal

pub invariant_of-self : goal.invariant_of-self
invariant_of-self c =
    let empty = rw (← c.self.view_is) at c.requires.empty in
    let none = rw (← c.self.view_is) at c.requires.page in
    apart-begin c.self.inside.slots.items c.args.slot _ c.self.invariant empty.in_range none
