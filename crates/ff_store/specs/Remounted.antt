-- What a mount makes of a flash as a power loss leaves it.
use Rattle.std.specs.Prelude.{ℕ, ◌+◌, ◌≤◌, ◌≡◌, ◌==◌, if◌then◌else◌, [], length, Option, None, Some}
use Rattle.ff_base.specs.Geometry.{capacity_of}
use Rattle.ff_base.specs.declared.geometry.Geometry.{Geometry}
use Rattle.ff_base.specs.declared.numbers.Block.{Block}
use Rattle.ff_base.specs.declared.numbers.PageNo.{PageNo}
use Rattle.ff_flash.specs.FlashState.{FlashState, powered_up}
use Rattle.ff_flash.specs.Plans.{Planned}
use Rattle.ff_flash.specs.declared.flash.FlashStop.{FlashStop}
use Rattle.ff_flash.specs.declared.flash.FlashStop.TheVariants.{Failed as FlashFailed, Off as FlashOff}
use Rattle.ff_space.specs.BlockTable.{BlockTableView, block_at}
use Rattle.ff_map.specs.PageMap.{PageMapView}
use Rattle.ff_scan.specs.Found.{IsScan}
use Rattle.ff_scan.specs.Probes.{probes_of}
use Rattle.ff_scan.specs.Probing.{IsProbeStopped, first_stop}
use Rattle.ff_gc.specs.Cells.{AreSealed, HasCovered}
use Rattle.ff_gc.specs.Collector.{mounted_phase, new_collector}
use Rattle.ff_gc.specs.World.{World, page_bytes}
use Rattle.ff_store.specs.Best.{best, bytes_or_zeros, sealed_count}
use Rattle.ff_store.specs.PageStore.{PageStoreView, new_store}
use Rattle.ff_store.specs.declared.remount.StoreStop.{StoreStop}
use Rattle.ff_store.specs.declared.remount.StoreStop.TheVariants.{NoMemory, Failed, Off}

-- a flash as a power loss leaves it
pub record IsRemountable (g : Geometry) (flash : FlashState) : Type 0 where
  pub blocks : flash.blocks ≡ g.blocks
  pub per_block : flash.per_block ≡ g.per_block
  pub sealed_cells : AreSealed g.pages flash.operations flash.cells
  pub covered : HasCovered g.blocks g.per_block flash.cells
  pub few : sealed_count g.pages flash.cells ≤ capacity_of g

-- table, collector and map have the sizes of this geometry
pub record IsOfGeometry (g : Geometry) (w : World) : Type 0 where
  pub blocks : length w.table.blocks ≡ g.blocks
  pub per_block : w.gc.per_block ≡ g.per_block
  pub pages : length w.places.pages ≡ g.pages

-- the spare block, where it isn't erased
abbrev pub block_to_erase : BlockTableView → ℕ → Option Block
block_to_erase table spare =
    if (block_at table spare).next == 0 then None else Some (record { 0 = spare })

-- a store of this table and this map, whose collector begins with the erase of the spare block, where that isn't erased
abbrev pub found_store : FlashState → Geometry → ℕ → BlockTableView → PageMapView → PageStoreView
found_store flash g spare table places = record (new_store flash g) {
  world = record (new_store flash g).world {
    gc = record (new_collector g) {
      phase = mounted_phase (block_to_erase table spare);
      moves = [];
    };
    table = table;
    places = places;
  };
}

-- the store that the probes of all places tell of: each page has the bytes of its best version, or zeros
pub record IsRemounted (g : Geometry) (s : PageStoreView) : Type 0 where
  pub spare : ℕ
  pub scan : IsScan g (probes_of s.world.flash.cells) spare s.world.table s.world.places
  pub store : s ≡ found_store s.world.flash g spare s.world.table s.world.places
  pub bytes : (page : PageNo)
      → page_bytes s.world page ≡ bytes_or_zeros (best s.world.flash.cells page)

-- the flash with its power on, after so many operations more
abbrev pub probed_flash : FlashState → ℕ → FlashState
probed_flash flash count =
    record (powered_up flash) { operations = flash.operations + count }

-- how a store could not be made where a probe stopped so
abbrev pub store_stop : FlashStop → StoreStop
store_stop FlashFailed = Failed
store_stop FlashOff = Off

-- a flash that is handed back: its power was turned on, and the probes up to one that stopped so were made, or none
abbrev pub IsHandedBack : FlashState → StoreStop → FlashState → Type 0
IsHandedBack old NoMemory new = new ≡ powered_up old
IsHandedBack old Failed new = IsProbeStopped (powered_up old) FlashFailed new
IsHandedBack old Off new = IsProbeStopped (powered_up old) FlashOff new

-- the first operation that the plan stops, of so many, stops so. Want of memory comes before all of them
abbrev pub IsPlannedStop : Planned → ℕ → ℕ → StoreStop → Type 0
IsPlannedStop plan made count NoMemory = Unit {0}
IsPlannedStop plan made count Failed = first_stop plan made count ≡ Some FlashFailed
IsPlannedStop plan made count Off = first_stop plan made count ≡ Some FlashOff
