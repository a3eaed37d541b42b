-- What is done for a call that isn't served at once.
use Rattle.std.specs.Prelude.{ℕ, ◌<◌, ◌≡◌, true, false, length, Some, None}
use Rattle.ff_base.specs.declared.numbers.PageNo.{PageNo}
use Rattle.ff_memory.specs.Memory.{entry_at}
use Rattle.ff_memory.specs.LineBytes.{is_home}
use Rattle.ff_model.specs.declared.op.Op.{Op}
use Rattle.ff_model.specs.declared.op.Op.TheVariants.{Load, Store, Verify, Mark, Release}
use Rattle.ff_plb.specs.Plb.{IsFound, IsNoneEmpty}
use Rattle.ff_plb.specs.declared.slot.Slot.{Slot}
use Rattle.ff_plb.specs.declared.slot.Way.{Way}
use Rattle.ff_plb.specs.declared.slot.Way.TheVariants.{Coming, Leaving}
use Rattle.ff_core.specs.Hierarchy.{HierarchyView, lines_under}
use Rattle.ff_core.specs.declared.action.Action.{Action}
use Rattle.ff_core.specs.declared.action.Action.TheVariants.{Advance, TurnBack, Work, Retreat}

-- what is done for a mark of a page in flight: one that comes in turns back, and one that goes back makes its step
abbrev pub action_in_flight : Way → ℕ → Action
action_in_flight Coming slot = TurnBack slot
action_in_flight Leaving slot = Advance slot

-- what is done for a mark of a page that is at rest in a frame: where no slot is free the page in slot 0 makes its step,
-- else the page is made resident, and then goes back
pub data IsActionAtRest {T E : Type 0} (h : HierarchyView T E) (page : PageNo) (action : Action)
    : Type 0 where
  waits_for_slot : IsNoneEmpty h.memory.slots → action ≡ Advance 0 → IsActionAtRest h page action
  works : (IsNoneEmpty h.memory.slots → ⊥) → (lines_under h).resident page.0 ≡ false
      → action ≡ Work page → IsActionAtRest h page action
  retreats : (IsNoneEmpty h.memory.slots → ⊥) → (lines_under h).resident page.0 ≡ true
      → action ≡ Retreat page → IsActionAtRest h page action

-- what is done for a mark of a page that isn't home, by the page's entry
pub data IsMarkAction {T E : Type 0} (h : HierarchyView T E) (page : PageNo) (action : Action)
    : Type 0 where
  in_flight : (slot : ℕ) (entry : Slot) → IsFound h.memory.slots page.0 slot
      → entry_at h.memory page.0 ≡ Some entry → action ≡ action_in_flight entry.way slot
      → IsMarkAction h page action
  at_rest : entry_at h.memory page.0 ≡ None → IsActionAtRest h page action
      → IsMarkAction h page action

-- what is done for a call that missed this page
abbrev pub IsMissAction : {T E : Type 0} → Op → PageNo → HierarchyView T E → Action → Type 0
IsMissAction (Load at len) page h action = action ≡ Work page
IsMissAction (Store at bytes) page h action = action ≡ Work page
IsMissAction (Mark marked from count) page h action = IsMarkAction h page action
IsMissAction Verify page h action = ⊥
IsMissAction (Release released from count) page h action = ⊥

-- a page isn't resident
pub record IsAbsent {T E : Type 0} (h : HierarchyView T E) (page : ℕ) : Type 0 where
  pub in_range : page < length h.memory.table.homes
  pub absent : (lines_under h).resident page ≡ false

-- a page isn't home
pub record IsAway {T E : Type 0} (h : HierarchyView T E) (page : ℕ) : Type 0 where
  pub in_range : page < length h.memory.table.homes
  pub away : is_home h.memory page ≡ false

-- a call misses a page: a load or a store one that isn't resident, and a mark one that isn't home
abbrev pub MissesPage : {T E : Type 0} → Op → PageNo → HierarchyView T E → Type 0
MissesPage (Load at len) page h = IsAbsent h page.0
MissesPage (Store at bytes) page h = IsAbsent h page.0
MissesPage (Mark marked from count) page h = IsAway h page.0
MissesPage Verify page h = ⊥
MissesPage (Release released from count) page h = ⊥
