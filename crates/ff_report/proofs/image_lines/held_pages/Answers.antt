use Rattle.std.proofs.Common.{ap, arith, ◌+◌, ◌<◌, length, ◌∙◌, sym}
use Rattle.ff_report.proofs.Held.{held-more, held-same}
use Rattle.ff_report.proofs.image_lines.held_pages.Goals as goal
use Rattle.ff_report.proofs.image_lines.held_pages.Goals.{then-holds, else-holds}

pub loop-page-preserved : goal.loop-page-preserved
loop-page-preserved c =
    let within : c.loop-page.page < length c.args.image.now.pages = omega arith in
    elim c.if-holds.branch [
      | then-holds w ↦ w.held-is ∙ ap (λ n. n + 1) c.loop-page.invariant ∙ sym (held-more _ _ _ c.holds.ensures within w.if-holds.true)
      | else-holds w ↦ w.held-is ∙ c.loop-page.invariant ∙ sym (held-same _ _ _ c.holds.ensures within w.if-holds.false)
    ]
