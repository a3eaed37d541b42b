use Rattle.std.proofs.Common.{sym, ◌∙◌}
use Rattle.ff_map.proofs.page_map.PageMap.owner.Goals as goal

pub returns : goal.returns
returns c page =
    let is = rw c.deref.ensures.value at c.owner_at.ensures in
    rw (← c.self.view_is) (λ found. c.self.invariant.inverse.mapped page c.args.at (sym is ∙ found), λ there. is ∙ c.self.invariant.inverse.owned page c.args.at there)
