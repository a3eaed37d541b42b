-- What each action makes of a hierarchy.
use Rattle.std.specs.Prelude.{ℕ, ◌+◌, ◌%◌, ◌≡◌, Bool, true, false, length, Some}
use Rattle.std.specs.Option.{is_some}
use Rattle.ff_base.specs.declared.numbers.PageNo.{PageNo}
use Rattle.ff_frames.specs.Frames.{frame_at}
use Rattle.ff_lines.specs.Works.{KeepsLines, Works}
use Rattle.ff_lines.specs.declared.device.Work.{Work}
use Rattle.ff_lines.specs.declared.device.Work.TheVariants.{Failed as WorkFailed, Off as WorkOff, Pinned}
use Rattle.ff_memory.specs.Advances.{Advances}
use Rattle.ff_memory.specs.Begins.{IsPromoted, IsRetreated, turned_at}
use Rattle.ff_memory.specs.Located.{IsLocated}
use Rattle.ff_memory.specs.Marking.{IsUnreferred, is_passed}
use Rattle.ff_memory.specs.Memory.{MemoryView}
use Rattle.ff_memory.specs.LineBytes.{SameLineBytes}
use Rattle.ff_memory.specs.declared.access.What.{What}
use Rattle.ff_memory.specs.declared.access.What.TheVariants.{Started, Worked, Drained, Sealed, Collected}
use Rattle.ff_plb.specs.Plb.{IsFound, slot_at}
use Rattle.ff_policy.specs.Policy.{promoted}
use Rattle.ff_device.specs.Draining.{DrainsFirst}
use Rattle.ff_device.specs.CollectTurn.{IsCollectTurn}
use Rattle.ff_device.specs.Device.{own_of, parts_of}
use Rattle.ff_device.specs.Parts.{SameShape}
use Rattle.ff_device.specs.StoreSteps.{CallsOnce}
use Rattle.ff_device.specs.WorkRows.{IsPinnedSet, IsWorkStep, stop_of_work}
use Rattle.ff_core.specs.Hierarchy.{HierarchyView, lines_under}
use Rattle.ff_core.specs.declared.action.Action.{Action}
use Rattle.ff_core.specs.declared.action.Action.TheVariants.{Advance, TurnBack, Work as WorkFor, Promote, Retreat, Evict, Collect, Drain}
use Rattle.ff_core.specs.declared.action.Progress.{Progress}
use Rattle.ff_core.specs.declared.action.Progress.TheVariants.{Did, Failed, Off}

-- memory and device were changed: the facts that tie them hold, no line has other bytes, no flash operation was made, and
-- each slot of the cache holds the page that it held
pub record IsMoved {T E : Type 0} (h h' : HierarchyView T E) : Type 0 where
  pub located : IsLocated h'.memory (lines_under h')
  pub lines : SameLineBytes h.memory (lines_under h) h'.memory (lines_under h')
  pub own : own_of h'.device ≡ own_of h.device

-- the page in flight in a slot made its step
pub record IsAdvanced {T E : Type 0} (slot : ℕ) (h : HierarchyView T E) (progress : Progress)
    (h' : HierarchyView T E) : Type 0 where
  pub what : What
  pub did : progress ≡ Did what
  pub step : Advances slot (slot_at h.memory.slots slot) h.memory (lines_under h) what
      h'.memory (lines_under h')
  pub moved : IsMoved h h'
  pub rest : h' ≡ record h { memory = h'.memory; device = h'.device }

-- the page that comes in by a slot turned back
pub record IsTurnedBack {T E : Type 0} (slot : ℕ) (h : HierarchyView T E) (progress : Progress)
    (h' : HierarchyView T E) : Type 0 where
  pub did : progress ≡ Did Started
  pub moved : IsMoved h h'
  pub rest : h' ≡ record h { memory = turned_at slot h.memory }

-- what a step of work came to
abbrev pub progress_of : Work → Progress
progress_of WorkFailed = Failed
progress_of WorkOff = Off
progress_of work = Did Worked

-- the device made a step towards a page's being resident
pub record IsDeviceStep {T E : Type 0} (page : ℕ) (work : Work) (h : HierarchyView T E)
    (h' : HierarchyView T E) : Type 0 where
  pub works : Works page work (lines_under h) (lines_under h')
  pub kept : KeepsLines (lines_under h) (lines_under h')
  pub row : IsWorkStep page (parts_of h.device) work (parts_of h'.device)
  pub calls : CallsOnce h.device.store (stop_of_work work) h'.device.store
  pub shape : SameShape (parts_of h.device) (parts_of h'.device)
  pub rest : h' ≡ record h { device = h'.device }

-- a step of work for a page: the device's, or that of the page in the set's least way, where each way is pinned
pub data IsWorkedFor {T E : Type 0} (page : ℕ) (h : HierarchyView T E) (progress : Progress)
    (h' : HierarchyView T E) : Type 0 where
  steps : (work : Work) → progress ≡ progress_of work → IsDeviceStep page work h h'
      → ((other : PageNo) → work ≡ Pinned other → ⊥) → IsWorkedFor page h progress h'
  yields : (other : PageNo) (slot : ℕ) → IsPinnedSet page other (parts_of h.device)
      → IsFound h.memory.slots other.0 slot → IsAdvanced slot h progress h'
      → IsWorkedFor page h progress h'

-- a page began to come in, and its counter paid for it
pub record HasPromoted {T E : Type 0} (page : ℕ) (h : HierarchyView T E) (progress : Progress)
    (h' : HierarchyView T E) : Type 0 where
  pub did : progress ≡ Did Started
  pub step : IsPromoted page h.memory (lines_under h) h'.memory (lines_under h')
  pub moved : IsMoved h h'
  pub rest : h' ≡ record h {
    memory = h'.memory;
    device = h'.device;
    policy = promoted page h.policy;
  }

-- a page began to go back
pub record HasRetreated {T E : Type 0} (page : ℕ) (h : HierarchyView T E) (progress : Progress)
    (h' : HierarchyView T E) : Type 0 where
  pub did : progress ≡ Did Started
  pub step : IsRetreated page h.memory (lines_under h) h'.memory (lines_under h')
  pub moved : IsMoved h h'
  pub rest : h' ≡ record h { memory = h'.memory; device = h'.device }

-- the page of the evictor's frame began to go back: the referred flags of the frames that the hand passed are cleared,
-- and the hand is at the frame after it
pub record HasEvicted {T E : Type 0} (frame : ℕ) (h : HierarchyView T E) (progress : Progress)
    (h' : HierarchyView T E) : Type 0 where
  pub did : progress ≡ Did Started
  pub page : PageNo
  pub holds : (frame_at h.memory.frames frame).page ≡ Some page
  pub between : MemoryView
  pub step : IsRetreated page.0 h.memory (lines_under h) between (lines_under h')
  pub passed : IsUnreferred (is_passed h.evictor.hand frame) between h'.memory
  pub moved : IsMoved h h'
  pub rest : h' ≡ record h {
    memory = h'.memory;
    device = h'.device;
    evictor = record h.evictor { hand = (frame + 1) % length h.memory.frames };
  }

-- what a turn of the collector did, by whether a flush waits
abbrev pub collected_what : Bool → What
collected_what true = Sealed
collected_what false = Collected

abbrev pub collect_progress : Bool → Work → Progress
collect_progress waits WorkFailed = Failed
collect_progress waits WorkOff = Off
collect_progress waits work = Did (collected_what waits)

-- the flush that waits was sealed, or the collector made a step
pub record MakesCollectTurn {T E : Type 0} (h : HierarchyView T E) (progress : Progress)
    (h' : HierarchyView T E) : Type 0 where
  pub work : Work
  pub turn : IsCollectTurn h.device work h'.device
  pub came_to : progress ≡ collect_progress (is_some h.device.store.waits) work
  pub kept : KeepsLines (lines_under h) (lines_under h')
  pub calls : CallsOnce h.device.store (stop_of_work work) h'.device.store
  pub shape : SameShape (parts_of h.device) (parts_of h'.device)
  pub rest : h' ≡ record h { device = h'.device }

-- the oldest post was drained
pub record DrainsOldest {T E : Type 0} (h : HierarchyView T E) (progress : Progress)
    (h' : HierarchyView T E) : Type 0 where
  pub did : progress ≡ Did Drained
  pub drained : DrainsFirst 1 (lines_under h) (lines_under h')
  pub own : own_of h'.device ≡ own_of h.device
  pub rest : h' ≡ record h { device = h'.device }

abbrev pub Performs : {T E : Type 0} → Action → HierarchyView T E → Progress → HierarchyView T E
    → Type 0
Performs (Advance slot) h progress h' = IsAdvanced slot h progress h'
Performs (TurnBack slot) h progress h' = IsTurnedBack slot h progress h'
Performs (WorkFor page) h progress h' = IsWorkedFor page.0 h progress h'
Performs (Promote page) h progress h' = HasPromoted page.0 h progress h'
Performs (Retreat page) h progress h' = HasRetreated page.0 h progress h'
Performs (Evict frame) h progress h' = HasEvicted frame h progress h'
Performs Collect h progress h' = MakesCollectTurn h progress h'
Performs Drain h progress h' = DrainsOldest h progress h'
