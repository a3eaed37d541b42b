use Rattle.std.proofs.Common.{false, refl, subst, sym}
use Rattle.ff_memory.specs.LineBytes.{SameLineBytes}
use Rattle.ff_memory.specs.Located.{IsLocated}
use Rattle.ff_memory.specs.Memory.{MemoryView, marks_set}
use Rattle.ff_memory.proofs.Marks.{located-marks, mark-stood}
use Rattle.ff_memory.proofs.memory.Memory.release.Goals as goal

pub returns-clause-step : goal.returns-clause-step
returns-clause-step c = rw (← c.self.view_is, c.mark.ensures) refl

pub returns-clause-located : goal.returns-clause-located
returns-clause-located c d located =
    let m = c.args.self.now in
    let page = c.args.page.0 in
    rw c.mark.ensures (
    subst (λ (n : MemoryView). IsLocated (marks_set page c.args.lines false n) d) (sym c.self.view_is)
    (located-marks m d page c.args.lines false
    (λ marked. located.accounts.marked_home page (mark-stood m.table page c.args.lines marked)) located))

pub returns-clause-lines : goal.returns-clause-lines
returns-clause-lines c d =
    let m = c.args.self.now in
    rw c.mark.ensures (
    subst (λ (n : MemoryView). SameLineBytes m d (marks_set c.args.page.0 c.args.lines false n) d) (sym c.self.view_is)
    (λ page line within. refl))
