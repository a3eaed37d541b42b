-- How the fields show as a memory.
use Rattle.ff_memory.specs.Memory.{MemoryView}
use Rattle.ff_memory.specs.declared.memory.Memory.TheInside.{Inside}

-- the memory that the fields show
abbrev pub view_of : Inside → MemoryView
view_of m = record { frames = m.frames; table = m.table; slots = m.plb; capacity = m.capacity }
