use Rattle.std.proofs.Common.{◌<◌, List, length, take, ap, arith}
use Rattle.std.proofs.lemmas.List.{take_more}
use Rattle.ff_model.specs.declared.history.Entry.{Entry}
use Rattle.ff_model.proofs.Appended.{legal-append}
use Rattle.ff_model.proofs.judge.first_illegal.Goals as goal

pub loop-at-preserved : goal.loop-at-preserved
loop-at-preserved c =
    let entries = c.as_slice-entries.result.now in
    let entry = c.index-entries-at_place.result in
    let size = ap (λ (l : List Entry). length l) c.as_slice-entries.ensures in
    let within : c.loop-at.at < length entries = omega (arith, c.len-count.ensures, size) in
    let follows = c.may_follow.ensures.0 c.if-not-may_follow.false in
    rw (take_more entries c.loop-at.at entry within, ← c.index-entries-at_place.is)
    (legal-append _ (take c.loop-at.at entries) entry c.loop-at.invariant follows)
