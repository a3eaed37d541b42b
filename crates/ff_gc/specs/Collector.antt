-- What a contract sees of a collector.
use Rattle.std.specs.Prelude.{ℕ, Bool, true, false, List, [], Option, None, Some}
use Rattle.ff_base.specs.Page.{blank_page}
use Rattle.ff_base.specs.declared.geometry.Geometry.{Geometry}
use Rattle.ff_base.specs.declared.numbers.Block.{Block}
use Rattle.ff_map.specs.declared.places.Move.{Move}
use Rattle.ff_gc.specs.declared.phase.Phase.{Phase}
use Rattle.ff_gc.specs.declared.phase.Phase.TheVariants.{Idle, Reading, Programming, Sealing, Commit, Erasing, Aborting}

-- the pages of a block, what the collector does next, the copies that are sealed, and the bytes that it read last
pub record CollectorView : Type 0 where
  pub per_block : ℕ
  pub phase : Phase
  pub moves : List Move
  pub bytes : List ℕ

-- a collector that has nothing to do
abbrev pub new_collector : Geometry → CollectorView
new_collector geometry =
    record { per_block = geometry.per_block; phase = Idle; moves = []; bytes = blank_page }

-- a collection runs
abbrev pub is_busy : Phase → Bool
is_busy Idle = false
is_busy (Reading job) = true
is_busy (Programming job original) = true
is_busy (Sealing job original at) = true
is_busy (Commit job) = true
is_busy (Erasing block) = true
is_busy (Aborting block) = true

-- how a collector begins after a mount: with the erase of the block that it left, if there is one
abbrev pub mounted_phase : Option Block → Phase
mounted_phase (Some block) = Erasing block
mounted_phase None = Idle
