-- What a mount finds by the probes of all places: the spare block, the block table, the page map.
use Rattle.std.specs.Prelude.{ℕ, ◌+◌, ◌-◌, ◌*◌, ◌/◌, ◌<◌, ◌≤◌, ◌≡◌, ◌≢◌, ◌==◌, if◌then◌else◌, Bool, true, false, List, length, Option, None, Some}
use Rattle.ff_base.specs.declared.geometry.Geometry.{Geometry}
use Rattle.ff_base.specs.declared.numbers.PageNo.{PageNo}
use Rattle.ff_flash.specs.declared.flash.Probe.{Probe}
use Rattle.ff_flash.specs.declared.flash.Probe.TheVariants.{Erased, Sealed}
use Rattle.ff_flash.specs.declared.spare.Spare.{Spare}
use Rattle.ff_space.specs.BlockTable.{BlockTableView, block_at}
use Rattle.ff_space.specs.Blocks.{state_by_next}
use Rattle.ff_space.specs.Choices.{IsLeast}
use Rattle.ff_space.specs.declared.block.BlockEntry.{BlockEntry}
use Rattle.ff_space.specs.declared.block.BlockState.{BlockState}
use Rattle.ff_space.specs.declared.block.BlockState.TheVariants.{Erased as ErasedBlock, Waiting}
use Rattle.ff_map.specs.MappedPages.{mapped_in}
use Rattle.ff_map.specs.PageMap.{PageMapView, mapping_of}
use Rattle.ff_map.specs.declared.places.Mapping.{Mapping}
use Rattle.ff_scan.specs.Covered.{IsCoveredBlock}
use Rattle.ff_scan.specs.Probes.{probe_at}

-- of so many pages of a block, the write place is one past the last that isn't erased
pub record IsUsed (per_block : ℕ) (probes : List Probe) (block count next : ℕ) : Type 0 where
  pub within : next ≤ count
  pub blank : (i : ℕ) → next ≤ i → i < count → probe_at probes (block * per_block + i) ≡ Erased
  pub last : 0 < next → probe_at probes (block * per_block + (next - 1)) ≢ Erased

-- the spare block waits to be erased, if it isn't; every other block is erased, open or full by its write place
abbrev pub found_state : ℕ → Bool → ℕ → BlockState
found_state per_block true next = if next == 0 then ErasedBlock else Waiting
found_state per_block false next = state_by_next per_block next

-- a block of the table
pub record IsFoundBlock (per_block : ℕ) (probes : List Probe) (spare block : ℕ) (entry : BlockEntry)
    : Type 0 where
  pub next : IsUsed per_block probes block per_block entry.next
  pub state : entry.state ≡ found_state per_block (spare == block) entry.next

-- a sealed page outside the spare block
pub record IsOutside (per_block : ℕ) (probes : List Probe) (spare at : ℕ) (found : Spare)
    : Type 0 where
  pub is : probe_at probes at ≡ Sealed found
  pub outside : at / per_block ≢ spare

-- a page's mapping: outside the spare block no version of the page is newer, and none that is as new is at a place
-- before this one
pub record IsNewestMapping (per_block : ℕ) (probes : List Probe) (spare : ℕ) (page : PageNo)
    (m : Mapping) : Type 0 where
  pub there : IsOutside per_block probes spare m.at.0 (record { page = page; version = m.version })
  pub newest : (at : ℕ) (found : Spare) → IsOutside per_block probes spare at found
      → found.page ≡ page → found.version ≤ m.version
  pub first : (at : ℕ) → at < m.at.0
      → IsOutside per_block probes spare at (record { page = page; version = m.version }) → ⊥

-- a page that isn't mapped has no sealed page outside the spare block
abbrev pub IsFoundPage : ℕ → List Probe → ℕ → PageNo → Option Mapping → Type 0
IsFoundPage per_block probes spare page None = (at : ℕ) (found : Spare)
    → IsOutside per_block probes spare at found → found.page ≢ page
IsFoundPage per_block probes spare page (Some m) = IsNewestMapping per_block probes spare page m

-- a version is one less than this
pub record IsOneAbove (probes : List Probe) (next : ℕ) : Type 0 where
  pub at : ℕ
  pub spare : Spare
  pub is : probe_at probes at ≡ Sealed spare
  pub above : next ≡ spare.version + 1

-- over so many places, the next version is one more than the greatest, or 1
pub record IsNextVersion (probes : List Probe) (count next : ℕ) : Type 0 where
  pub least : 1 ≤ next
  pub above : (at : ℕ) (spare : Spare) → at < count → probe_at probes at ≡ Sealed spare
      → spare.version < next
  pub drawn : 1 < next → IsOneAbove probes next

-- the spare block is the least covered one, and table and map are those of the probes
pub record IsScan (g : Geometry) (probes : List Probe) (spare : ℕ) (table : BlockTableView)
    (places : PageMapView) : Type 0 where
  pub spare_is : IsLeast (IsCoveredBlock g probes) spare
  pub per_block : table.per_block ≡ g.per_block
  pub block_count : length table.blocks ≡ g.blocks
  pub blocks : (block : ℕ) → block < g.blocks
      → IsFoundBlock g.per_block probes spare block (block_at table block)
  pub mapped : (block : ℕ) → block < g.blocks
      → (block_at table block).mapped ≡ mapped_in g.per_block places block
  pub page_count : length places.pages ≡ g.pages
  pub place_count : places.places ≡ g.blocks * g.per_block
  pub pages : (page : PageNo)
      → IsFoundPage g.per_block probes spare page (mapping_of places page)
  pub next : IsNextVersion probes (length probes) places.next_version
