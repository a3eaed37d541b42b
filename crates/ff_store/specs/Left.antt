-- How many collection steps a flush may still have to make before it programs.
use Rattle.std.specs.Prelude.{ℕ, ◌+◌, ◌-◌, ◌*◌, ◌==◌, Bool, not, if◌then◌else◌, List, length}
use Rattle.ff_space.specs.BlockTable.{BlockTableView, block_at, erased_count}
use Rattle.ff_map.specs.declared.places.Move.{Move}
use Rattle.ff_gc.specs.Left.{left_in, open_count}
use Rattle.ff_gc.specs.World.{World}
use Rattle.ff_gc.specs.declared.phase.Phase.{Phase}
use Rattle.ff_gc.specs.declared.phase.Phase.TheVariants.{Idle, Reading, Programming, Sealing, Commit, Erasing, Aborting}

-- whether the collection ends with a page to program where none of its steps fails
abbrev pub is_ending : List Move → BlockTableView → Phase → Bool
is_ending moves table Idle = not (open_count table.blocks + (erased_count table.blocks - 1) == 0)
is_ending moves table (Reading job) = (block_at table job.into.0).next == length moves
is_ending moves table (Programming job original) = (block_at table job.into.0).next == length moves
is_ending moves table (Sealing job original at) =
    (block_at table job.into.0).next == length moves + 1
is_ending moves table (Commit job) = (block_at table job.into.0).next == length moves
is_ending moves table (Erasing block) =
    not (open_count table.blocks + erased_count table.blocks == 0)
is_ending moves table (Aborting block) =
    not (open_count table.blocks + erased_count table.blocks == 0)

-- at most so many steps are left until no collection runs and there is a page to program, where no step fails: those of
-- this collection, and of one more where this one doesn't end with such a page
abbrev pub left_of : World → ℕ
left_of w = left_in w.gc.per_block w.gc.phase
    + (if is_ending w.gc.moves w.table w.gc.phase then 0 else 3 * w.gc.per_block + 3)
