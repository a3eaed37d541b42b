-- The block table while the write places are recorded.
use Rattle.std.specs.Prelude.{ℕ, ◌<◌, ◌≤◌, ◌≡◌, Bool, List, length}
use Rattle.ff_base.specs.declared.geometry.Geometry.{Geometry}
use Rattle.ff_flash.specs.declared.flash.Probe.{Probe}
use Rattle.ff_space.specs.BlockTable.{BlockTableView, block_at}
use Rattle.ff_space.specs.Blocks.{erased_block}
use Rattle.ff_space.specs.declared.block.BlockEntry.{BlockEntry}
use Rattle.ff_scan.specs.Found.{IsFoundBlock, found_state}

-- a block with this write place, without mapped pages
abbrev pub found_entry : ℕ → Bool → ℕ → BlockEntry
found_entry per_block is_spare next =
    record { state = found_state per_block is_spare next; next = next; mapped = 0 }

-- the write places of so many blocks are recorded, and no page is counted
pub record AreBlocksPlaced (g : Geometry) (probes : List Probe) (spare count : ℕ)
    (table : BlockTableView) : Type 0 where
  pub per_block : table.per_block ≡ g.per_block
  pub block_count : length table.blocks ≡ g.blocks
  pub placed : (block : ℕ) → block < count
      → IsFoundBlock g.per_block probes spare block (block_at table block)
  pub unmapped : (block : ℕ) → block < count → (block_at table block).mapped ≡ 0
  pub rest : (block : ℕ) → count ≤ block → block < g.blocks → block_at table block ≡ erased_block
