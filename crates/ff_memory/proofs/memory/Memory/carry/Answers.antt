use Rattle.std.proofs.Common.{List, ap, refl, sym}
use Rattle.std.proofs.lemmas.List.{set-get_or}
use Rattle.ff_frames.specs.Frame.{free_frame}
use Rattle.ff_frames.specs.declared.frame.Frame.{Frame}
use Rattle.ff_memory.specs.Memory.{MemoryView}
use Rattle.ff_memory.proofs.memory.Memory.carry.Goals as goal

pub returns-then-carries-clause-memory : goal.returns-then-carries-clause-memory
returns-then-carries-clause-memory g c =
    rw (← c.has.ensures, ← c.if-carries.ensures, ← c.self.view_is, c.fill.ensures, c.read_line-bytes.ensures.bytes) refl

pub returns-then-carries-clause-device : goal.returns-then-carries-clause-device
returns-then-carries-clause-device g c =
    rw (← c.has.ensures, ← c.if-carries.ensures) c.read_line-bytes.ensures.drained

pub returns-else-carries-clause-memory : goal.returns-else-carries-clause-memory
returns-else-carries-clause-memory g c =
    let m : MemoryView = c.args.self.now in
    rw (← c.has.ensures, ← c.if-carries.ensures)
    (ap (λ (frames : List Frame). let same : MemoryView = record m { frames = frames } in same)
    (sym (set-get_or m.frames c.args.entry.now.frame free_frame)))

pub returns-else-carries-clause-device : goal.returns-else-carries-clause-device
returns-else-carries-clause-device g c = rw (← c.has.ensures, ← c.if-carries.ensures) refl
