-- A page that comes in turns back.
use Rattle.std.proofs.Common.{◌≡◌, ℕ, refl, ap}
use Rattle.ff_lines.specs.DeviceState.{DeviceState, IsDevice}
use Rattle.ff_memory.specs.Begins.{turned_at}
use Rattle.ff_memory.specs.Located.{IsLocated}
use Rattle.ff_memory.specs.Memory.{MemoryView}
use Rattle.ff_memory.specs.LineBytes.{SameLineBytes}
use Rattle.ff_memory.specs.declared.access.What.TheVariants.{Started}
use Rattle.ff_core.specs.Hierarchy.{HierarchyView, lines_under}
use Rattle.ff_core.specs.Performs.{IsTurnedBack}
use Rattle.ff_core.specs.declared.action.Progress.TheVariants.{Did}

pub turned_back : {T E : Type 0} (slot : ℕ) (h : HierarchyView T E) (m : MemoryView) → IsDevice (lines_under h)
    → IsLocated h.memory (lines_under h) → m ≡ turned_at slot h.memory
    → ((d : DeviceState) → IsDevice d → IsLocated h.memory d → IsLocated m d)
    → ((d : DeviceState) → IsDevice d → IsLocated h.memory d → SameLineBytes h.memory d m d)
    → IsTurnedBack slot h (Did Started) (record h { memory = m })
turned_back slot h m device located is keeps same = record {
  did = refl;
  moved = record {
    located = keeps (lines_under h) device located;
    lines = same (lines_under h) device located;
    own = refl;
  };
  rest = ap (λ (n : MemoryView). record h { memory = n }) is;
}
