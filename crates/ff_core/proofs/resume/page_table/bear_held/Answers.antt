use Rattle.std.proofs.Common.{◌≡◌, ℕ, subst, arith}
use Rattle.ff_core.proofs.ResumeBorn.{IsBearing, bearing-done}
use Rattle.ff_core.proofs.resume.page_table.bear_held.Goals as goal

pub returns : goal.returns
returns c =
    let base = c.args.base.now in
    let same : c.loop-page.page ≡ c.args.pages = omega arith in
    bearing-done base c.args.pages c.args.table.now c.loop-page.table c.requires.size
    (subst (λ (k : ℕ). IsBearing base c.args.pages k c.args.table.now c.loop-page.table) same c.loop-page.invariant)
