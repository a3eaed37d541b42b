use Rattle.std.proofs.Common.{ap, ◌∙◌, ℕ}
use Rattle.std.specs.Prelude.{replicate}
use Rattle.ff_base.specs.Page.{blank_page}
use Rattle.ff_base.proofs.page.PageBuf.clear.Goals as goal

pub returns : goal.returns
unfolding blank_page
returns c = c.fill.ensures.items (λ y h. h) ∙ ap (λ (n : ℕ). replicate n (let z : ℕ = 0 in z)) c.self.invariant
