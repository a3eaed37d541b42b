-- Which block is chosen: the least one with a property, looked at over all blocks.
use Rattle.std.specs.Prelude.{ℕ, ◌+◌, ◌*◌, ◌/◌, ◌<◌, ◌≤◌, ◌≡◌, List}
use Rattle.ff_space.specs.BlockTable.{IsInState, BlockTableView, block_at, block_in, erased_count}
use Rattle.ff_space.specs.declared.block.BlockEntry.{BlockEntry}
use Rattle.ff_space.specs.declared.block.BlockState.TheVariants.{Erased, Open, Full}
use Rattle.ff_space.specs.declared.table.Place.{Place}
use Rattle.ff_space.specs.declared.table.Place.TheVariants.{Free, TakeErased, Nowhere}

-- there is such a block, it is full, and not all of its pages are mapped
pub record IsCollectable (per_block : ℕ) (blocks : List BlockEntry) (block : ℕ) : Type 0 where
  pub full : IsInState blocks Full block
  pub stale : (block_in blocks block).mapped < per_block

-- the block has the property, and every block that has it is not before it
pub record IsLeast (P : ℕ → Type 0) (block : ℕ) : Type 0 where
  pub has : P block
  pub least : (other : ℕ) → P other → block ≤ other

-- no block has the property
abbrev pub NoBlock : (ℕ → Type 0) → Type 0
NoBlock P = (block : ℕ) → P block → ⊥

-- the block to collect: no other has fewer mapped pages, and those with as many are not before it
pub record IsVictimBlock (per_block : ℕ) (blocks : List BlockEntry) (block : ℕ) : Type 0 where
  pub has : IsCollectable per_block blocks block
  pub fewest : (other : ℕ) → IsCollectable per_block blocks other
      → (block_in blocks block).mapped ≤ (block_in blocks other).mapped
  pub first : (other : ℕ) → IsCollectable per_block blocks other
      → (block_in blocks other).mapped ≡ (block_in blocks block).mapped → block ≤ other

-- every full block has all its pages mapped
abbrev pub IsAllMapped : BlockTableView → Type 0
IsAllMapped table = (block : ℕ) → IsInState table.blocks Full block
    → (block_at table block).mapped ≡ table.per_block

-- the page is the write place of the least open block, and lies in it
pub record IsFreePlace (table : BlockTableView) (page : ℕ) : Type 0 where
  pub block : ℕ
  pub least : IsLeast (IsInState table.blocks Open) block
  pub page_is : page ≡ block * table.per_block + (block_at table block).next
  pub lies_in : page / table.per_block ≡ block

-- no block is open, two or more are erased, and this is the least of them
pub record IsBlockToTake (table : BlockTableView) (block : ℕ) : Type 0 where
  pub none_open : NoBlock (IsInState table.blocks Open)
  pub spare : 2 ≤ erased_count table.blocks
  pub least : IsLeast (IsInState table.blocks Erased) block

-- no block is open, and at most one is erased
pub record IsNoPlace (table : BlockTableView) : Type 0 where
  pub none_open : NoBlock (IsInState table.blocks Open)
  pub few : erased_count table.blocks < 2

-- where the next page is programmed
abbrev pub IsPlace : BlockTableView → Place → Type 0
IsPlace table (Free page) = IsFreePlace table page.0
IsPlace table (TakeErased block) = IsBlockToTake table block.0
IsPlace table Nowhere = IsNoPlace table
