use Rattle.std.proofs.Common.{◌≡◌, length, arith}
use Rattle.ff_evict.proofs.AllSeen.{best-chosen}
use Rattle.ff_evict.proofs.evictor.Evictor.choose.Goals as goal

pub returns : goal.returns
returns g c =
    let all : c.loop-seen.seen ≡ length c.args.frames.now =
    omega (arith, c.loop-seen-test.false, c.loop-seen.auto.seen-end, c.len-count.ensures) in
    let hand = c.args.self.now.hand in
    best-chosen (g.E.Pick.score c.args.self.now.picker.pick) c.args.frames.now c.args.busy.now hand c.in_ok-best.field-0 c.requires
    (rw (c.in_ok-best.was, all) at c.loop-seen.invariant)
