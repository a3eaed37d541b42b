-- What a scan over the blocks has found so far.
use Rattle.std.specs.Prelude.{ℕ, ◌<◌, ◌≡◌, List, Option, Some, None}
use Rattle.ff_base.specs.declared.numbers.Block.{Block}
use Rattle.ff_space.specs.BlockTable.{IsInState, block_in}
use Rattle.ff_space.specs.Choices.{IsLeast, NoBlock}
use Rattle.ff_space.specs.declared.block.BlockEntry.{BlockEntry}
use Rattle.ff_space.specs.declared.block.BlockState.{BlockState}
use Rattle.ff_space.specs.declared.block.BlockState.TheVariants.{Erased, Open}
use Rattle.ff_space.specs.declared.scans.Target.{Target}
use Rattle.ff_space.specs.declared.scans.Target.TheVariants.{Open as OpenBlock, Erased as ErasedBlock, Neither}

-- none of the first blocks is in this state
abbrev pub IsNoneBelow : List BlockEntry → BlockState → ℕ → Type 0
IsNoneBelow blocks wanted end =
    (block : ℕ) → block < end → (block_in blocks block).state ≡ wanted → ⊥

-- the first block in this state among the first blocks, where there is one
abbrev pub FirstFound : List BlockEntry → BlockState → ℕ → Option Block → Type 0
FirstFound blocks wanted end None = IsNoneBelow blocks wanted end
FirstFound blocks wanted end (Some found) =
    (found.0 < end) × ((block_in blocks found.0).state ≡ wanted)
    × IsNoneBelow blocks wanted found.0

-- the block that stands for the next page
abbrev pub IsTarget : List BlockEntry → Target → Type 0
IsTarget blocks (OpenBlock block) = IsLeast (IsInState blocks Open) block.0
IsTarget blocks (ErasedBlock block) =
    NoBlock (IsInState blocks Open) × IsLeast (IsInState blocks Erased) block.0
IsTarget blocks Neither = NoBlock (IsInState blocks Open) × NoBlock (IsInState blocks Erased)
