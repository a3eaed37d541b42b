use Rattle.std.proofs.Common.{take, Ok}
use Rattle.std.specs.Prelude.{flat_map}
use Rattle.ff_model.specs.Image.{held_page}
use Rattle.ff_report.specs.ImageText.{page_numbers, page_text}
use Rattle.ff_report.specs.Wrote.{Wrote}
use Rattle.ff_report.proofs.image.write_pages.Given as goal

abbrev pub invariant-loop-page : goal.invariant-loop-page
invariant-loop-page g l =
    Wrote (Ok tt) (g.K.Sink.written l.initial.sink) (g.K.Sink.written l.sink)
    (g.K.Sink.faults l.initial.sink) (g.K.Sink.faults l.sink) (flat_map (λ page. page_text page (held_page l.image page)) (take l.page (page_numbers l.image)))
