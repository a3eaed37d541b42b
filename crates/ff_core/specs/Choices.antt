-- What a background turn of each kind chooses to do, by the state of the hierarchy.
use Rattle.std.specs.Prelude.{ℕ, ◌<◌, ◌≤◌, ◌≡◌, ◌⊎◌, Bool, true, false, List, [], length, Option, Some, None}
use Rattle.std.specs.Option.{is_some}
use Rattle.ff_base.specs.declared.numbers.PageNo.{PageNo}
use Rattle.ff_evict.specs.Choice.{IsChosenFrame, IsNoneToRetreat}
use Rattle.ff_frames.specs.Frames.{IsNoneFree, frame_at}
use Rattle.ff_memory.specs.Begins.{CanPromote}
use Rattle.ff_model.specs.declared.counts.Kind.{Kind}
use Rattle.ff_model.specs.declared.counts.Kind.TheVariants.{Promote as PromoteKind, Evict as EvictKind, Collect as CollectKind, Drain as DrainKind}
use Rattle.ff_plb.specs.NextStep.{IsLeastNext, IsNoneNext}
use Rattle.ff_plb.specs.Plb.{IsNoneEmpty}
use Rattle.ff_plb.specs.declared.slot.NextStep.TheVariants.{Finish, Land, Lift}
use Rattle.ff_plb.specs.declared.slot.Slot.{Slot}
use Rattle.ff_plb.specs.declared.slot.Way.{Way}
use Rattle.ff_plb.specs.declared.slot.Way.TheVariants.{Coming, Leaving}
use Rattle.ff_policy.specs.Counters.{is_among}
use Rattle.ff_policy.specs.Policy.{IsHot}
use Rattle.ff_store.specs.Calls.{WantsCollect}
use Rattle.ff_core.specs.Hierarchy.{HierarchyView, lines_under}
use Rattle.ff_core.specs.declared.action.Action.{Action}
use Rattle.ff_core.specs.declared.action.Action.TheVariants.{Advance, Work, Promote, Evict, Collect, Drain}

-- the slot whose page makes the next step of those that go this way: the least that finishes, else the least of which a
-- line lands, else the least of which a line is lifted
pub data IsNextSlot (way : Way) (slots : List (Option Slot)) (slot : ℕ) : Type 0 where
  finishes : IsLeastNext slots way Finish slot → IsNextSlot way slots slot
  lands : IsNoneNext slots way Finish → IsLeastNext slots way Land slot → IsNextSlot way slots slot
  lifts : IsNoneNext slots way Finish → IsNoneNext slots way Land → IsLeastNext slots way Lift slot
      → IsNextSlot way slots slot

-- no page goes this way
pub record IsNoneMoving (way : Way) (slots : List (Option Slot)) : Type 0 where
  pub none_finishes : IsNoneNext slots way Finish
  pub none_lands : IsNoneNext slots way Land
  pub none_lifts : IsNoneNext slots way Lift

-- the page may come in, and is hot
pub record IsPromotable {T E : Type 0} (h : HierarchyView T E) (page : ℕ) : Type 0 where
  pub may : CanPromote h.memory (lines_under h) page
  pub hot : IsHot h.policy page

-- the least page that may come in and is hot
pub record IsLeastPromotable {T E : Type 0} (h : HierarchyView T E) (page : ℕ) : Type 0 where
  pub is : IsPromotable h page
  pub least : (other : ℕ) → IsPromotable h other → page ≤ other

-- the least of these pages that may come in and is hot, or there is none
abbrev pub IsLeastAmong : {T E : Type 0} → HierarchyView T E → List PageNo → Option PageNo → Type 0
IsLeastAmong h pages None = (page : ℕ) → is_among pages page ≡ true → IsPromotable h page → ⊥
IsLeastAmong h pages (Some least) =
    IsPromotable h least.0
    × ((page : ℕ) → is_among pages page ≡ true → IsPromotable h page → least.0 ≤ page)

-- one more page is looked at: it is none to be chosen, or the least before is no greater, or it is the least now
pub data IsLesser {T E : Type 0} (h : HierarchyView T E) (least : Option PageNo) (page : PageNo)
    (result : Option PageNo) : Type 0 where
  passes : (IsPromotable h page.0 → ⊥) → result ≡ least → IsLesser h least page result
  keeps : (other : PageNo) → least ≡ Some other → other.0 ≤ page.0 → result ≡ least
      → IsLesser h least page result
  takes : IsPromotable h page.0 → ((other : PageNo) → least ≡ Some other → page.0 ≤ other.0)
      → result ≡ Some page → IsLesser h least page result

abbrev pub PromoteChoice : {T E : Type 0} → HierarchyView T E → Option Action → Type 0
PromoteChoice h None =
    IsNoneMoving Coming h.memory.slots × ((page : ℕ) → IsPromotable h page → ⊥)
PromoteChoice h (Some (Advance slot)) = IsNextSlot Coming h.memory.slots slot
PromoteChoice h (Some (Promote page)) =
    IsNoneMoving Coming h.memory.slots × IsLeastPromotable h page.0
PromoteChoice h (Some action) = ⊥

-- a page should go back: no frame is free, and a slot is
pub record WantsEvict {T E : Type 0} (h : HierarchyView T E) : Type 0 where
  pub none_free : IsNoneFree h.memory.frames
  pub some_slot : IsNoneEmpty h.memory.slots → ⊥

-- the evictor chose this frame, which holds this page
pub record IsEvicted {T E : Type 0} (score : E → Bool → ℕ → ℕ) (h : HierarchyView T E)
    (frame : ℕ) (page : PageNo) : Type 0 where
  pub wants : WantsEvict h
  pub chosen : IsChosenFrame (score h.evictor.picker.pick) h.memory.frames h.memory.slots
      h.evictor.hand frame
  pub holds : (frame_at h.memory.frames frame).page ≡ Some page

-- no page goes back
abbrev pub IsNoneEvicted : {T E : Type 0} → HierarchyView T E → Type 0
IsNoneEvicted h = WantsEvict h → IsNoneToRetreat h.memory.frames h.memory.slots

abbrev pub EvictChoice : {T E : Type 0} → (E → Bool → ℕ → ℕ) → HierarchyView T E → Option Action
    → Type 0
EvictChoice score h None = IsNoneMoving Leaving h.memory.slots × IsNoneEvicted h
EvictChoice score h (Some (Advance slot)) = IsNextSlot Leaving h.memory.slots slot
EvictChoice score h (Some (Evict frame)) =
    IsNoneMoving Leaving h.memory.slots
    × ((page : PageNo) × IsEvicted score h frame page
    × ((lines_under h).resident page.0 ≡ true))
EvictChoice score h (Some (Work page)) =
    IsNoneMoving Leaving h.memory.slots
    × ((frame : ℕ) × IsEvicted score h frame page
    × ((lines_under h).resident page.0 ≡ false))
EvictChoice score h (Some action) = ⊥

-- a flush waits, or a collection runs or is due
abbrev pub CanCollect : {T E : Type 0} → HierarchyView T E → Type 0
CanCollect h = (is_some h.device.store.waits ≡ true) ⊎ WantsCollect h.device.store

abbrev pub CollectChoice : {T E : Type 0} → HierarchyView T E → Option Action → Type 0
CollectChoice h None = CanCollect h → ⊥
CollectChoice h (Some Collect) = CanCollect h
CollectChoice h (Some action) = ⊥

abbrev pub DrainChoice : {T E : Type 0} → HierarchyView T E → Option Action → Type 0
DrainChoice h None = h.device.window.posts ≡ []
DrainChoice h (Some Drain) = 0 < length h.device.window.posts
DrainChoice h (Some action) = ⊥

-- the one action that a background turn of a kind makes, or none. Frames are scored by the picker
abbrev pub IsChoice : {T E : Type 0} → (E → Bool → ℕ → ℕ) → Kind → HierarchyView T E
    → Option Action → Type 0
IsChoice score PromoteKind h action = PromoteChoice h action
IsChoice score EvictKind h action = EvictChoice score h action
IsChoice score CollectKind h action = CollectChoice h action
IsChoice score DrainKind h action = DrainChoice h action
