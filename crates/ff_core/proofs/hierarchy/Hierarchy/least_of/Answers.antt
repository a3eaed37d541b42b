use Rattle.std.proofs.Common.{arith}
use Rattle.ff_core.proofs.Promotable.{counted_within, least_at}
use Rattle.ff_core.proofs.hierarchy.Hierarchy.least_of.Goals as goal

pub lesser-least-requires-clause-page : goal.lesser-least-requires-clause-page
lesser-least-requires-clause-page g c =
    let fits = counted_within _ c.args.pages.now c.loop-page.page-index (record { 0 = 0 }) c.requires.counted c.loop-page-test.true in
    omega (arith, fits, c.requires.counters)

pub loop-page-preserved : goal.loop-page-preserved
loop-page-preserved g c =
    least_at c.args.self.now c.args.pages.now c.loop-page.page-index (record { 0 = 0 }) c.loop-page.least c.lesser-least.result
    c.loop-page-test.true c.loop-page.invariant c.lesser-least.ensures
