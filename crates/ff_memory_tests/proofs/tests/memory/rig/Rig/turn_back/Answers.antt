use Rattle.std.proofs.Common.{◌≡◌, ℕ, List, Option, subst, ◌∙◌}
use Rattle.std.specs.Prelude.{IfSome}
use Rattle.ff_lines.specs.DeviceState.{DeviceState, IsDevice}
use Rattle.ff_plb.specs.Plb.{HasEntry, IsInUse, slot_at}
use Rattle.ff_plb.specs.declared.slot.Slot.{Slot}
use Rattle.ff_plb.specs.declared.slot.Way.TheVariants.{Coming}
use Rattle.ff_memory.specs.Begins.{IsComingSlot}
use Rattle.ff_memory.specs.Located.{IsLocated}
use Rattle.ff_memory.specs.Memory.{IsMemorySound, MemoryView}
use Rattle.ff_memory.proofs.Flights.{entry-ready}
use Rattle.ff_memory.proofs.Shapes.{shape-turned}
use Rattle.ff_memory_tests.proofs.tests.memory.rig.Rig.turn_back.Goals as goal

coming-slot : (m : MemoryView) (d : DeviceState) (slots : List (Option Slot)) (slot : ℕ) → slots ≡ m.slots → IsMemorySound m → IsDevice d → IsLocated m d
    → IsInUse slots slot → IfSome (slot_at slots slot) (λ entry. entry.way ≡ Coming) → IsComingSlot m slot
coming-slot m d slots slot same sound device located used coming =
    let has : HasEntry m.slots slot used.entry = subst (λ (s : List (Option Slot)). HasEntry s slot used.entry) same used.has in
    let ready = entry-ready m d slot used.entry record { sound = sound; device = device; located = located; has = has } in
    record {
      entry = used.entry;
      has = has;
      way = rw used.has.there at coming;
      page = ready.page;
      frame = ready.frame;
    }

pub turn_back-requires : goal.turn_back-requires
turn_back-requires c =
    coming-slot c.self.inside.memory _ c.plb.result.now c.in-Some.slot c.plb.ensures c.known.ensures c.resident.ensures.known
    c.self.invariant.0 c.in-Some.ensures.0 c.in-Some.ensures.1

pub invariant_of-self : goal.invariant_of-self
invariant_of-self c = (
  c.turn_back.ensures.located _ c.resident.ensures.known c.self.invariant.0,
  (rw c.turn_back.ensures.step (shape-turned c.in-Some.slot c.self.inside.memory).homes) ∙ c.self.invariant.1,
)
