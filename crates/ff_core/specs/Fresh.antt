-- How a first session begins.
use Rattle.std.specs.Prelude.{◌*◌, ◌≤◌, ◌≡◌, ◌^◌, [], true, replicate}
use Rattle.ff_base.specs.Geometry.{capacity_of}
use Rattle.ff_base.specs.declared.geometry.Geometry.{Geometry}
use Rattle.ff_cache.specs.Cache.{fresh_cache}
use Rattle.ff_device.specs.Device.{DeviceView}
use Rattle.ff_evict.specs.Picker.{PickerView}
use Rattle.ff_flash.specs.Cells.{erased}
use Rattle.ff_flash.specs.FlashState.{FlashState}
use Rattle.ff_gc.specs.FlashCounts.{no_counts}
use Rattle.ff_memory.specs.Memory.{fresh_memory}
use Rattle.ff_model.specs.Image.{empty_content}
use Rattle.ff_model.specs.Legal.{opening_of}
use Rattle.ff_policy.specs.Policy.{fresh_policy}
use Rattle.ff_policy.specs.Tuner.{TunerView}
use Rattle.ff_store.specs.PageStore.{new_store}
use Rattle.ff_core.specs.Core.{CoreView}
use Rattle.ff_core.specs.Hierarchy.{HierarchyView}
use Rattle.ff_core.specs.EventTally.{no_tally}
use Rattle.ff_core.specs.declared.core_state.Room.{Room}

-- a flash of this geometry with the power on, of which every page is erased
pub record IsFreshFlash (geometry : Geometry) (flash : FlashState) : Type 0 where
  pub blocks : flash.blocks ≡ geometry.blocks
  pub per_block : flash.per_block ≡ geometry.per_block
  pub cells : flash.cells ≡ replicate (geometry.blocks * geometry.per_block) erased
  pub on : flash.on ≡ true
  pub few : flash.operations ≤ 2 ^ 62

-- a device over such a flash, of which nothing is cached and no post waits
abbrev pub fresh_device : FlashState → Geometry → DeviceView
fresh_device flash geometry = record {
  store = new_store flash geometry;
  cache = fresh_cache geometry.sets geometry.ways;
  window = record { posts = []; room = geometry.window };
}

-- a hierarchy over a flash of which every page is erased, in which nothing was stored
abbrev pub fresh_hierarchy : {T E : Type 0} → FlashState → Geometry → TunerView T → PickerView E
    → HierarchyView T E
fresh_hierarchy flash geometry tuner picker = record {
  memory = fresh_memory geometry.frames geometry.pages (replicate geometry.pages 0) geometry.plb
      (capacity_of geometry);
  device = fresh_device flash geometry;
  policy = fresh_policy geometry.pages tuner;
  evictor = record { hand = 0; picker = picker };
}

-- a first session: it starts from nothing, at event 0
abbrev pub fresh_core : {T E : Type 0} → FlashState → Geometry → TunerView T → PickerView E → Room
    → CoreView T E
fresh_core flash geometry tuner picker room = record {
  opening = opening_of (empty_content geometry.pages) geometry 0 flash.faults;
  geometry = geometry;
  from_counts = no_counts;
  history = record { entries = []; room = room.calls };
  events = 0;
  log = record { turns = []; room = room.turns };
  tally = no_tally;
  hierarchy = fresh_hierarchy flash geometry tuner picker;
}
