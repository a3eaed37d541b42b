-- The page map while the places are looked at.
use Rattle.std.specs.Prelude.{ℕ, ◌*◌, ◌-◌, ◌<◌, ◌≤◌, ◌≡◌, ◌≢◌, List, length, None, Some}
use Rattle.ff_base.specs.declared.geometry.Geometry.{Geometry}
use Rattle.ff_base.specs.declared.numbers.PageNo.{PageNo}
use Rattle.ff_flash.specs.declared.flash.Probe.{Probe}
use Rattle.ff_flash.specs.declared.spare.Spare.{Spare}
use Rattle.ff_space.specs.BlockTable.{BlockTableView, block_at}
use Rattle.ff_map.specs.PageMap.{PageMapView, mapping_of}
use Rattle.ff_map.specs.declared.places.Mapping.{Mapping}
use Rattle.ff_scan.specs.Found.{IsFoundBlock, IsNewestMapping, IsOutside}
use Rattle.ff_map.specs.MappedPages.{mapped_in}
use Rattle.ff_scan.specs.Tops.{newest_outside}

-- the place holds the newest version of a page outside the spare block
pub record IsTop (per_block : ℕ) (probes : List Probe) (spare at : ℕ) (found : Spare) : Type 0 where
  pub there : IsOutside per_block probes spare at found
  pub newest : found.version ≡ newest_outside per_block probes spare found.page.0 (length probes)

-- of so many places, the newest ones are mapped and counted
pub record AreTopsMapped (g : Geometry) (probes : List Probe) (spare count : ℕ) (table : BlockTableView)
    (places : PageMapView) : Type 0 where
  pub per_block : table.per_block ≡ g.per_block
  pub block_count : length table.blocks ≡ g.blocks
  pub blocks : (block : ℕ) → block < g.blocks
      → IsFoundBlock g.per_block probes spare block (block_at table block)
  pub counted : (block : ℕ) → block < g.blocks
      → (block_at table block).mapped ≡ mapped_in g.per_block places block
  pub room : (block : ℕ) → block < g.blocks
      → (block_at table block).mapped ≤ count - block * g.per_block
  pub page_count : length places.pages ≡ g.pages
  pub place_count : places.places ≡ g.blocks * g.per_block
  pub below : (page : PageNo) (m : Mapping) → mapping_of places page ≡ Some m → m.at.0 < count
  pub mapped : (page : PageNo) (m : Mapping) → mapping_of places page ≡ Some m
      → IsNewestMapping g.per_block probes spare page m
  pub unmapped : (at : ℕ) (found : Spare) → at < count → IsTop g.per_block probes spare at found
      → mapping_of places found.page ≢ None
