use Rattle.std.proofs.Common.{arith, length}
use Rattle.ff_model.specs.Image.{held_page}
use Rattle.ff_report.specs.ImageText.{page_text}
use Rattle.ff_report.proofs.Ranges.{range-all, range-more, range-stopped}
use Rattle.ff_report.proofs.image.write_pages.Goals as goal

pub returns-in-Err : goal.returns-in-Err
returns-in-Err g c = range-stopped _ (λ page. page_text page (held_page c.args.image.now page)) (length c.args.image.now.pages) _ _ _ _ _ _ _ c.loop-page.invariant (rw c.page.ensures at c.in-Err.ensures) (omega arith)

pub loop-page-preserved : goal.loop-page-preserved
loop-page-preserved g c = range-more (λ page. page_text page (held_page c.args.image.now page)) (length c.args.image.now.pages) _ _ _ _ _ _ _ c.loop-page.invariant (rw c.page.ensures at c.in-Ok.ensures) (omega arith)

pub returns : goal.returns
returns g c = range-all (λ page. page_text page (held_page c.args.image.now page)) (length c.args.image.now.pages) _ _ _ _ _ c.loop-page.invariant (omega arith)
