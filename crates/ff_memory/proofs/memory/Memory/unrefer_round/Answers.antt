use Rattle.std.proofs.Common.{◌≡◌, length, ◌∙◌, ap}
use Rattle.ff_memory.specs.Memory.{MemoryView}
use Rattle.ff_memory.proofs.Unreferred.{unreferred-round}
use Rattle.ff_memory.proofs.memory.Memory.unrefer_round.Goals as goal

pub returns : goal.returns
returns c =
    let end : c.len-end.result ≡ length c.args.self.now.frames = c.len-end.ensures ∙ ap (λ (m : MemoryView). length m.frames) c.self.view_is in
    unreferred-round c.args.self.now c.unrefer.new.self c.unrefer-2.new.self c.args.from c.args.to c.requires.order
    (rw end at c.unrefer.ensures) c.unrefer-2.ensures
