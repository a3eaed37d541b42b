-- How a session begins over a mounted store and cache.
use Rattle.std.specs.Prelude.{ℕ, ◌+◌, ◌≤◌, ◌≡◌, ◌^◌, [], false, true, Bool, List, None, Some, length, map, is_some}
use Rattle.ff_base.specs.Count.{last_event}
use Rattle.ff_base.specs.Geometry.{capacity_of}
use Rattle.ff_base.specs.declared.geometry.Geometry.{Geometry}
use Rattle.ff_cache.specs.Cache.{CacheView}
use Rattle.ff_cache.specs.Slots.{held}
use Rattle.ff_cache.specs.declared.slot.CacheSlot.{CacheSlot}
use Rattle.ff_device.specs.Device.{DeviceView}
use Rattle.ff_evict.specs.Picker.{PickerView}
use Rattle.ff_memory.specs.Memory.{MemoryView, fresh_memory}
use Rattle.ff_model.specs.Image.{Content}
use Rattle.ff_model.specs.Legal.{opening_of}
use Rattle.ff_mount.specs.Over.{IsCacheOver}
use Rattle.ff_policy.specs.Policy.{fresh_policy}
use Rattle.ff_policy.specs.Tuner.{TunerView}
use Rattle.ff_store.specs.PageStore.{PageStoreView}
use Rattle.ff_table.specs.Table.{TableView, fresh_table}
use Rattle.ff_core.specs.Core.{CoreView}
use Rattle.ff_core.specs.Hierarchy.{HierarchyView}
use Rattle.ff_core.specs.EventTally.{no_tally}
use Rattle.ff_core.specs.declared.core_state.Room.{Room}

-- no slot of the cache is pinned
abbrev pub IsUnpinned : CacheView → Type 0
IsUnpinned cache = (page : ℕ) (slot : CacheSlot) → held cache.slots page ≡ Some slot → slot.pinned ≡ false

-- a store, a cache and marks of this geometry, with the power on and nothing in flight, over which a session may begin at
-- an event number
pub record CanResume (geometry : Geometry) (store : PageStoreView) (cache : CacheView) (marks : List ℕ)
    (event : ℕ) : Type 0 where
  pub over : IsCacheOver geometry store cache
  pub none : store.waits ≡ None
  pub unpinned : IsUnpinned cache
  pub marked : length marks ≡ geometry.pages
  pub on : store.world.flash.on ≡ true
  pub life : store.world.flash.operations ≤ 2 ^ 62 + event
  pub not_past : event ≤ last_event

-- which pages an image holds
abbrev pub pages_held : Content → List Bool
pages_held base = map (λ held. is_some held) base.pages

-- a page table in which every page is at home on the SSD, and exactly these are born
abbrev pub resumed_table : ℕ → List ℕ → List Bool → TableView
resumed_table pages marks born = record (fresh_table pages marks) { born = born }

-- a memory in which every frame is free, every page is at home on the SSD, and exactly the held ones are born
abbrev pub resumed_memory : Geometry → List ℕ → Content → MemoryView
resumed_memory geometry marks base =
    record (fresh_memory geometry.frames geometry.pages marks geometry.plb (capacity_of geometry)) {
      table = resumed_table geometry.pages marks (pages_held base);
    }

-- a device over a store and a cache, for which no post waits
abbrev pub resumed_device : PageStoreView → CacheView → Geometry → DeviceView
resumed_device store cache geometry = record {
  store = store;
  cache = cache;
  window = record { posts = []; room = geometry.window };
}

abbrev pub resumed_hierarchy : {T E : Type 0} → PageStoreView → CacheView → List ℕ → Content → Geometry
    → TunerView T → PickerView E → HierarchyView T E
resumed_hierarchy store cache marks base geometry tuner picker = record {
  memory = resumed_memory geometry marks base;
  device = resumed_device store cache geometry;
  policy = fresh_policy geometry.pages tuner;
  evictor = record { hand = 0; picker = picker };
}

-- a later session: it starts from an image, at an event number, with what the flash has counted so far
abbrev pub resumed_core : {T E : Type 0} → PageStoreView → CacheView → List ℕ → Content → Geometry
    → TunerView T → PickerView E → Room → ℕ → CoreView T E
resumed_core store cache marks base geometry tuner picker room event = record {
  opening = opening_of base geometry event store.world.flash.faults;
  geometry = geometry;
  from_counts = store.world.counts;
  history = record { entries = []; room = room.calls };
  events = event;
  log = record { turns = []; room = room.turns };
  tally = no_tally;
  hierarchy = resumed_hierarchy store cache marks base geometry tuner picker;
}
