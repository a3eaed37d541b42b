-- How many events a call may still take until it is answered.
use Rattle.std.specs.Prelude.{ℕ, ◌+◌, ◌*◌, Bool, true, false, not, List, length, Option, Some, None, if◌then◌else◌}
use Rattle.std.specs.Option.{is_some}
use Rattle.ff_base.specs.declared.numbers.TheConstants.{PAGE_LINES}
use Rattle.ff_base.specs.declared.numbers.PageNo.{PageNo}
use Rattle.ff_cache.specs.Cache.{all_below, way_at, CacheView}
use Rattle.ff_device.specs.Device.{parts_of}
use Rattle.ff_lines.specs.DeviceState.{DeviceState}
use Rattle.ff_lines.specs.LineMask.{has_line}
use Rattle.ff_lines.specs.PageSets.{count_below}
use Rattle.ff_lines.specs.declared.line_mask.LineMask.{LineMask}
use Rattle.ff_memory.specs.Memory.{entry_at}
use Rattle.ff_memory.specs.LineBytes.{is_home, page_of}
use Rattle.ff_model.specs.declared.op.Op.{Op}
use Rattle.ff_model.specs.declared.op.Op.TheVariants.{Load, Store, Verify, Mark, Release}
use Rattle.ff_plb.specs.Plb.{entry_of, slot_at}
use Rattle.ff_plb.specs.Slot.{after_landing}
use Rattle.ff_plb.specs.declared.slot.Slot.{Slot}
use Rattle.ff_plb.specs.declared.slot.Way.{Way}
use Rattle.ff_plb.specs.declared.slot.Way.TheVariants.{Coming, Leaving}
use Rattle.ff_core.specs.Hierarchy.{HierarchyView, lines_under}

-- how many lines aren't in the set
unfoldable pub clear_lines : LineMask → ℕ
clear_lines mask = count_below (λ line. not (has_line mask line)) PAGE_LINES

-- the steps of a page in flight: the end of its flight, two for each line that isn't copied then, and the last
abbrev pub entry_steps : Slot → ℕ
entry_steps entry =
    (if is_some entry.flight then 2 else 1) + 2 * clear_lines (after_landing entry).bits

abbrev pub slot_steps : Option Slot → ℕ
slot_steps None = 0
slot_steps (Some entry) = entry_steps entry

-- the most that these can be
abbrev pub most_slot_steps : ℕ
most_slot_steps = 130

abbrev pub is_pinned_page : DeviceState → Option PageNo → Bool
is_pinned_page d None = false
is_pinned_page d (Some page) = d.pinned page.0

-- each way of the page's set holds a pinned page
abbrev pub is_kept_set : CacheView → DeviceState → ℕ → Bool
is_kept_set cache d page =
    all_below (λ way. is_pinned_page d (way_at cache page way).page) cache.ways

-- the entry of a page, where there is one
abbrev pub entry_of_some : List (Option Slot) → Option PageNo → Option Slot
entry_of_some slots None = None
entry_of_some slots (Some page) = entry_of slots page.0

-- the steps of the page in the least way of a page's set
abbrev pub keeper_steps : {T E : Type 0} → HierarchyView T E → ℕ → ℕ
keeper_steps h page =
    slot_steps (entry_of_some h.memory.slots (way_at h.device.cache page 0).page)

-- whether a flush is to be sealed, as a number
abbrev pub seals_left : {T E : Type 0} → HierarchyView T E → ℕ
seals_left h = if is_some (parts_of h.device).store.pending then 1 else 0

-- the events until a page is resident: where its set is kept by pinned pages, the one in the least way is let go first
abbrev pub events_by : {T E : Type 0} → Bool → HierarchyView T E → ℕ → ℕ
events_by true h page = keeper_steps h page + (seals_left h + (lines_under h).most_steps)
events_by false h page = (lines_under h).steps page

abbrev pub events_to : {T E : Type 0} → HierarchyView T E → ℕ → ℕ
events_to h page = events_by (is_kept_set h.device.cache (lines_under h) page) h page

-- the most that these can be
abbrev pub most_events_to : {T E : Type 0} → HierarchyView T E → ℕ
most_events_to h = most_slot_steps + (1 + (lines_under h).most_steps)

-- every slot of the buffer has an entry
abbrev pub is_full_buffer : List (Option Slot) → Bool
is_full_buffer slots = all_below (λ slot. is_some (slot_at slots slot)) (length slots)

-- the events until a page in flight is home: one that comes in turns back first
abbrev pub flight_events : Way → Slot → ℕ
flight_events Coming entry = most_slot_steps + 1
flight_events Leaving entry = entry_steps entry

-- the events until a page at rest in a frame is home: a slot of the buffer becomes free, the page becomes resident, and it
-- goes back
abbrev pub rest_events : {T E : Type 0} → Bool → HierarchyView T E → ℕ → ℕ
rest_events true h page =
    slot_steps (slot_at h.memory.slots 0) + (most_events_to h + (most_slot_steps + 1))
rest_events false h page = events_to h page + (most_slot_steps + 1)

abbrev pub entry_events : {T E : Type 0} → Option Slot → HierarchyView T E → ℕ → ℕ
entry_events None h page = rest_events (is_full_buffer h.memory.slots) h page
entry_events (Some entry) h page = flight_events entry.way entry

-- the events until a page is home
abbrev pub home_events : {T E : Type 0} → HierarchyView T E → ℕ → ℕ
home_events h page =
    if is_home h.memory page then 0 else entry_events (entry_at h.memory page) h page

-- the events of a call before the one that answers it
abbrev pub events_left : {T E : Type 0} → Op → HierarchyView T E → ℕ
events_left (Load at len) h = events_to h (page_of at)
events_left (Store at bytes) h = events_to h (page_of at)
events_left (Mark page from count) h = home_events h page.0
events_left Verify h = 0
events_left (Release page from count) h = 0
