-- What a contract sees of a block table, what the table keeps, and what a call changes of it.
use Rattle.std.specs.Prelude.{
  ℕ,
  ◌+◌,
  ◌<◌,
  ◌≤◌,
  ◌≡◌,
  List,
  length,
  replicate,
  count_by,
  slice_index_or,
  slice_set,
}
use Rattle.ff_base.specs.Geometry.{IsAllowed}
use Rattle.ff_base.specs.declared.geometry.Geometry.{Geometry}
use Rattle.ff_base.specs.declared.limits.LimitName.TheVariants.{Blocks, PerBlock}
use Rattle.ff_space.specs.Blocks.{IsBlockSound, emptied, erased_block, filled, is_collectable, is_erased, waiting}
use Rattle.ff_space.specs.declared.block.BlockEntry.{BlockEntry}
use Rattle.ff_space.specs.declared.block.BlockState.{BlockState}
use Rattle.ff_space.specs.declared.block.BlockState.TheVariants.{Full, Held}

-- how many pages a block has, and the blocks in their order
pub record BlockTableView : Type 0 where
  pub per_block : ℕ
  pub blocks : List BlockEntry

-- the block with this number; there is none past the end, which reads as one that waits
abbrev pub block_in : List BlockEntry → ℕ → BlockEntry
block_in blocks block = slice_index_or blocks block (waiting erased_block)

-- a block of the table
abbrev pub block_at : BlockTableView → ℕ → BlockEntry
block_at table block = block_in table.blocks block

-- the block is one of the table's
abbrev pub IsInRange : BlockTableView → ℕ → Type 0
IsInRange table block = block < length table.blocks

-- how many of the blocks are erased
abbrev pub erased_count : List BlockEntry → ℕ
erased_count blocks = count_by (λ block. is_erased block.state) blocks

-- how many of the blocks can be collected
abbrev pub collectable_count : ℕ → List BlockEntry → ℕ
collectable_count per_block blocks = count_by (λ block. is_collectable per_block block) blocks

-- the table with one block changed by this
abbrev pub changed_at : BlockTableView → ℕ → (BlockEntry → BlockEntry) → BlockTableView
changed_at table block change =
    record table { blocks = slice_set table.blocks block (change (block_at table block)) }

-- a table of which every block is erased
abbrev pub new_table : Geometry → BlockTableView
new_table geometry =
    record { per_block = geometry.per_block; blocks = replicate geometry.blocks erased_block }

-- there is such a block, and it is in this state
pub record IsInState (blocks : List BlockEntry) (wanted : BlockState) (block : ℕ) : Type 0 where
  pub in_range : block < length blocks
  pub state : (block_in blocks block).state ≡ wanted

-- a collection from the victim into the destination may end: the destination has as many programmed pages as it will
-- have mapped ones
pub record CanEnd (table : BlockTableView) (victim into : ℕ) : Type 0 where
  pub full : IsInState table.blocks Full victim
  pub held : IsInState table.blocks Held into
  pub room : (block_at table into).mapped + (block_at table victim).mapped
      ≤ (block_at table into).next

-- the table at the end of a collection: the victim's mapped pages are the destination's, which is held no more, and
-- the victim waits, empty
abbrev pub after_collection : BlockTableView → ℕ → ℕ → BlockTableView
after_collection table victim into =
    changed_at
    (changed_at table into (filled table.per_block (block_at table victim).mapped))
    victim
    emptied

-- what a table keeps: its sizes are those of a geometry, and every block is sound
pub record IsBlockTableSound (table : BlockTableView) : Type 0 where
  pub per_block : IsAllowed PerBlock table.per_block
  pub count : IsAllowed Blocks (length table.blocks)
  pub each : (block : ℕ) → IsInRange table block
      → IsBlockSound table.per_block (block_at table block)
