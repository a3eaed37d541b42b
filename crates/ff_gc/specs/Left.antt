-- How many steps a collection still has, and whether it ends with a page to program where none of them fails.
use Rattle.std.specs.Prelude.{ℕ, ◌+◌, ◌-◌, ◌*◌, ◌%◌, ◌<◌, ◌≡◌, Bool, true, false, List, length, count_by}
use Rattle.ff_space.specs.BlockTable.{BlockTableView, block_at, erased_count}
use Rattle.ff_space.specs.declared.block.BlockEntry.{BlockEntry}
use Rattle.ff_space.specs.declared.block.BlockState.{BlockState}
use Rattle.ff_space.specs.declared.block.BlockState.TheVariants.{Erased, Open, Full, Held, Waiting}
use Rattle.ff_map.specs.declared.places.Move.{Move}
use Rattle.ff_gc.specs.Collector.{CollectorView}
use Rattle.ff_gc.specs.declared.phase.Phase.{Phase}
use Rattle.ff_gc.specs.declared.phase.Phase.TheVariants.{Idle, Reading, Programming, Sealing, Commit, Erasing, Aborting}

-- at most so many steps are left of a collection, where none fails
abbrev pub left_in : ℕ → Phase → ℕ
left_in per_block Idle = 0
left_in per_block (Reading job) = 3 * (per_block - job.seen) + 2
left_in per_block (Programming job original) = 3 * (per_block - original.from.0 % per_block) + 1
left_in per_block (Sealing job original at) = 3 * (per_block - original.from.0 % per_block)
left_in per_block (Commit job) = 2
left_in per_block (Erasing block) = 1
left_in per_block (Aborting block) = 1

-- the same, with the whole of a collection that isn't begun yet
abbrev pub left_from : ℕ → Phase → ℕ
left_from per_block Idle = 3 * per_block + 3
left_from per_block (Reading job) = left_in per_block (Reading job)
left_from per_block (Programming job original) = left_in per_block (Programming job original)
left_from per_block (Sealing job original at) = left_in per_block (Sealing job original at)
left_from per_block (Commit job) = left_in per_block (Commit job)
left_from per_block (Erasing block) = left_in per_block (Erasing block)
left_from per_block (Aborting block) = left_in per_block (Aborting block)

-- whether a block in this state is open
abbrev pub is_open : BlockState → Bool
is_open Erased = false
is_open Open = true
is_open Full = false
is_open Held = false
is_open Waiting = false

-- how many of the blocks are open
abbrev pub open_count : List BlockEntry → ℕ
open_count blocks = count_by (λ block. is_open block.state) blocks

-- the collection ends with a page to program, in an open block or in an erased one that isn't the last: no page of its
-- destination is lost so far, or its end is near and such a block is there
abbrev pub IsEndingAt : List Move → BlockTableView → Phase → Type 0
IsEndingAt moves table Idle = 0 < open_count table.blocks + (erased_count table.blocks - 1)
IsEndingAt moves table (Reading job) = (block_at table job.into.0).next ≡ length moves
IsEndingAt moves table (Programming job original) = (block_at table job.into.0).next ≡ length moves
IsEndingAt moves table (Sealing job original at) =
    (block_at table job.into.0).next ≡ length moves + 1
IsEndingAt moves table (Commit job) = (block_at table job.into.0).next ≡ length moves
IsEndingAt moves table (Erasing block) = 0 < open_count table.blocks + erased_count table.blocks
IsEndingAt moves table (Aborting block) = 0 < open_count table.blocks + erased_count table.blocks

abbrev pub IsEnding : CollectorView → BlockTableView → Type 0
IsEnding gc table = IsEndingAt gc.moves table gc.phase
