-- A span's page is one of the pages.
use Rattle.std.specs.Prelude.{IsTrue}
use Rattle.std.proofs.Common.{ℕ, ◌/◌, ◌<◌, arith}
use Rattle.ff_model.specs.Spans.{is_span}
use Rattle.ff_model.proofs.Replies.{span_some, span_within}

pub page-in_range : (pages at len : ℕ) → IsTrue (is_span pages at len) → at / 4096 < pages
page-in_range pages at len span =
    let some = span_some pages at len span in
    let within = span_within pages at len span in
    omega arith
