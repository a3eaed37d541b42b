use Rattle.std.proofs.Common.{true, refl, subst, sym}
use Rattle.ff_memory.specs.LineBytes.{SameLineBytes}
use Rattle.ff_memory.specs.Located.{IsLocated}
use Rattle.ff_memory.specs.Memory.{MemoryView, marks_set}
use Rattle.ff_memory.proofs.Alike.{like-drained, like-lines, like-located}
use Rattle.ff_memory.proofs.Marks.{home-frame, located-marks}
use Rattle.ff_memory.proofs.memory.Memory.mark.Goals as goal

pub returns-clause-mark : goal.returns-clause-mark
returns-clause-mark g c =
    rw (← c.if-not-is_home.ensures, ← c.self.view_is) record {
      access_is = refl;
      memory = rw c.mark.ensures refl;
      device = c.drain_all.ensures.drained;
    }

pub returns-clause-located : goal.returns-clause-located
returns-clause-located g c =
    let m = c.args.self.now in
    let d = g.D.LineDevice.state c.args.d.now in
    let later = g.D.LineDevice.state c.drain_all.new.self in
    let page = c.args.page.0 in
    let home = home-frame m page (sym c.if-not-is_home.ensures) in
    let drained = like-located m d m later c.requires.located (like-drained m d later c.drain_all.ensures.drained) in
    rw c.mark.ensures (
    subst (λ (n : MemoryView). IsLocated (marks_set page c.args.lines true n) later) (sym c.self.view_is)
    (located-marks m later page c.args.lines true (λ marked. home) drained))

pub returns-clause-lines : goal.returns-clause-lines
returns-clause-lines g c =
    let m = c.args.self.now in
    let d = g.D.LineDevice.state c.args.d.now in
    let later = g.D.LineDevice.state c.drain_all.new.self in
    rw c.mark.ensures (
    subst (λ (n : MemoryView). SameLineBytes m d (marks_set c.args.page.0 c.args.lines true n) later) (sym c.self.view_is)
    (like-lines m d m later (like-drained m d later c.drain_all.ensures.drained)))
