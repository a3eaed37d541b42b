-- What is done for a mark of a page in flight.
use Rattle.std.proofs.Common.{◌≡◌, ℕ}
use Rattle.ff_base.specs.declared.numbers.PageNo.{PageNo}
use Rattle.ff_plb.specs.Plb.{HasEntry, IsFound}
use Rattle.ff_plb.specs.declared.slot.Slot.{Slot}
use Rattle.ff_core.specs.Hierarchy.{HierarchyView}
use Rattle.ff_core.specs.Misses.{IsMarkAction, action_in_flight, in_flight}
use Rattle.ff_core.specs.declared.action.Action.{Action}

pub marked_in_flight : {T E : Type 0} (h : HierarchyView T E) (page : PageNo) (slot : ℕ) (action : Action)
    → IsFound h.memory.slots page.0 slot
    → ((entry : Slot) → HasEntry h.memory.slots slot entry → action ≡ action_in_flight entry.way slot)
    → IsMarkAction h page action
marked_in_flight h page slot action found told =
    in_flight slot found.entry found found.of_page (told found.entry found.has)
