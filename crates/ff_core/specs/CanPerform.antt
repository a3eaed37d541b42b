-- What each action needs.
use Rattle.std.specs.Prelude.{ℕ, ◌<◌, ◌≡◌, true, length, Some}
use Rattle.ff_base.specs.declared.numbers.PageNo.{PageNo}
use Rattle.ff_evict.specs.Evictor.{IsHandInside}
use Rattle.ff_flash.specs.FlashState.{HasOperationsLeft}
use Rattle.ff_frames.specs.Frames.{frame_at}
use Rattle.ff_memory.specs.Begins.{CanRetreat, IsComingSlot}
use Rattle.ff_memory.specs.Located.{IsLocated}
use Rattle.ff_plb.specs.Plb.{IsInUse}
use Rattle.ff_core.specs.Choices.{CanCollect, IsPromotable}
use Rattle.ff_core.specs.Hierarchy.{HierarchyView, flash_under, lines_under}
use Rattle.ff_core.specs.Misses.{IsAbsent}
use Rattle.ff_core.specs.declared.action.Action.{Action}
use Rattle.ff_core.specs.declared.action.Action.TheVariants.{Advance, TurnBack, Work, Promote, Retreat, Evict, Collect, Drain}

-- what stands before each event with the power on
pub record IsGiven {T E : Type 0} (h : HierarchyView T E) : Type 0 where
  pub located : IsLocated h.memory (lines_under h)
  pub on : (flash_under h).on ≡ true
  pub life : HasOperationsLeft (flash_under h)
  pub counters : length h.policy.counters ≡ length h.memory.table.homes
  pub hand : IsHandInside h.evictor.hand h.memory.frames

-- the page of the frame may go back
pub record IsEvictable {T E : Type 0} (h : HierarchyView T E) (frame : ℕ) : Type 0 where
  pub page : PageNo
  pub in_range : frame < length h.memory.frames
  pub holds : (frame_at h.memory.frames frame).page ≡ Some page
  pub may : CanRetreat h.memory (lines_under h) page.0

abbrev pub CanPerform : {T E : Type 0} → Action → HierarchyView T E → Type 0
CanPerform (Advance slot) h = IsInUse h.memory.slots slot
CanPerform (TurnBack slot) h = IsComingSlot h.memory slot
CanPerform (Work page) h = IsAbsent h page.0
CanPerform (Promote page) h = IsPromotable h page.0
CanPerform (Retreat page) h = CanRetreat h.memory (lines_under h) page.0
CanPerform (Evict frame) h = IsEvictable h frame
CanPerform Collect h = CanCollect h
CanPerform Drain h = 0 < length h.device.window.posts
