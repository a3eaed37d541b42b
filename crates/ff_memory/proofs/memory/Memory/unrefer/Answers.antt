use Rattle.std.proofs.Common.{◌≡◌, ◌<◌, List, length, ap, arith}
use Rattle.ff_frames.specs.declared.frame.Frame.{Frame}
use Rattle.ff_memory.specs.Memory.{MemoryView}
use Rattle.ff_memory.specs.MemoryFields.{view_of}
use Rattle.ff_memory.proofs.Unreferred.{unreferred-more, unreferred-none}
use Rattle.ff_memory.proofs.memory.Memory.unrefer.Goals as goal

pub loop-frame-init : goal.loop-frame-init
loop-frame-init c = rw (← c.self.view_is) (unreferred-none (view_of c.self.inside) c.args.from)

pub loop-frame-preserved : goal.loop-frame-preserved
loop-frame-preserved c =
    let n : MemoryView = view_of c.loop-frame.self-inside in
    let to = c.requires.to in
    let test = c.loop-frame-test.true in
    let within : c.loop-frame.frame < length c.args.self.now.frames = omega arith in
    unreferred-more c.args.self.now n _ c.args.from c.loop-frame.frame c.loop-frame.invariant c.loop-frame.auto.frame within
    (ap (λ (frames : List Frame). let next : MemoryView = record n { frames = frames } in next) c.refer.ensures)

pub returns : goal.returns
returns c =
    let most = c.loop-frame.auto.frame-end c.requires.order in
    let end : c.loop-frame.frame ≡ c.args.to = omega (arith, most, c.loop-frame-test.false) in
    rw (← end) c.loop-frame.invariant
