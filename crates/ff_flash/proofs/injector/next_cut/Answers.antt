use Rattle.std.proofs.Common.{sym}
use Rattle.ff_flash.proofs.Rising.{cut_there, cut_past, cut_elsewhere}
use Rattle.ff_flash.proofs.injector.next_cut.Goals as goal
use Rattle.ff_flash.proofs.injector.next_cut.Goals.{else-passed-cuts-via-then-passed-cuts+else-cuts-passed, else-passed-cuts-via-else-passed-cuts}

pub returns-then-cuts-passed-clause-cut : goal.returns-then-cuts-passed-clause-cut
returns-then-cuts-passed-clause-cut c =
    sym (cut_there _ _ _ _ c.requires.rises c.requires.passed c.if-passed-cuts.true c.if-cuts-passed.true)

pub returns-clause-cut : goal.returns-clause-cut
returns-clause-cut c = elim c.else-passed-cuts.branch [
  | else-passed-cuts-via-then-passed-cuts+else-cuts-passed w ↦
      sym (cut_elsewhere _ _ _ _ c.requires.rises c.requires.passed w.if-passed-cuts.true w.if-cuts-passed.false)
  | else-passed-cuts-via-else-passed-cuts w ↦
      sym (cut_past _ _ _ c.requires.rises c.requires.passed w.if-passed-cuts.false)
]
