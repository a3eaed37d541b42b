-- What the scan for the fewest mapped pages has found so far.
use Rattle.std.specs.Prelude.{ℕ, ◌<◌, ◌≤◌, ◌≡◌, List, Option, Some, None}
use Rattle.ff_base.specs.declared.numbers.Block.{Block}
use Rattle.ff_space.specs.BlockTable.{block_in}
use Rattle.ff_space.specs.declared.block.BlockEntry.{BlockEntry}
use Rattle.ff_space.specs.declared.block.BlockState.TheVariants.{Full}

-- the full block with the fewest mapped pages among the first blocks, where one has fewer than all
abbrev pub FewestFound : ℕ → List BlockEntry → ℕ → Option Block → ℕ → Type 0
FewestFound per_block blocks end None fewest = fewest ≡ per_block
FewestFound per_block blocks end (Some found) fewest =
    (found.0 < end) × ((block_in blocks found.0).state ≡ Full)
    × ((block_in blocks found.0).mapped ≡ fewest) × (fewest < per_block)
    × ((block : ℕ) → block < found.0 → (block_in blocks block).state ≡ Full
    → fewest < (block_in blocks block).mapped)

-- no full block among the first blocks has fewer mapped pages
abbrev pub IsFewest : List BlockEntry → ℕ → ℕ → Type 0
IsFewest blocks end fewest = (block : ℕ) → block < end → (block_in blocks block).state ≡ Full
    → fewest ≤ (block_in blocks block).mapped
