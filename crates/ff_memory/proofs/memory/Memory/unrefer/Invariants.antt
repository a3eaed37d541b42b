use Rattle.ff_memory.specs.Marking.{IsUnreferred, is_between}
use Rattle.ff_memory.specs.MemoryFields.{view_of}
use Rattle.ff_memory.proofs.memory.Memory.unrefer.Given as goal

abbrev pub invariant-loop-frame : goal.invariant-loop-frame
invariant-loop-frame l = IsUnreferred (is_between l.fn.from l.frame) l.fn.self (view_of l.self-inside)
