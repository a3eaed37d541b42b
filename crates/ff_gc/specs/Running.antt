-- What holds between collector, cells, block table and page map while the power is on.
use Rattle.std.specs.Prelude.{ℕ, ◌+◌, ◌*◌, ◌/◌, ◌%◌, ◌<◌, ◌≤◌, ◌≡◌, ◌≢◌, List, length, All, AllPairs, Any, Some}
use Rattle.ff_base.specs.declared.numbers.Block.{Block}
use Rattle.ff_base.specs.declared.numbers.PageNo.{PageNo}
use Rattle.ff_base.specs.declared.numbers.Ppn.{Ppn}
use Rattle.ff_flash.specs.Cells.{Cell, erased, closed, sealed, cell_at}
use Rattle.ff_flash.specs.declared.spare.Spare.{Spare}
use Rattle.ff_space.specs.BlockTable.{BlockTableView, IsInState, block_at}
use Rattle.ff_space.specs.Choices.{NoBlock}
use Rattle.ff_space.specs.declared.block.BlockState.{BlockState}
use Rattle.ff_space.specs.declared.block.BlockState.TheVariants.{Erased, Full, Held, Waiting}
use Rattle.ff_map.specs.MappedPages.{mapped_in}
use Rattle.ff_map.specs.PageMap.{PageMapView, mapping_of}
use Rattle.ff_map.specs.declared.places.Mapping.{Mapping}
use Rattle.ff_map.specs.declared.places.Move.{Move}
use Rattle.ff_gc.specs.Collector.{CollectorView}
use Rattle.ff_gc.specs.Originals.{IsAllSeen, spare_in}
use Rattle.ff_gc.specs.declared.phase.Job.{Job}
use Rattle.ff_gc.specs.declared.phase.Original.{Original}
use Rattle.ff_gc.specs.declared.phase.Phase.{Phase}
use Rattle.ff_gc.specs.declared.phase.Phase.TheVariants.{Idle, Reading, Programming, Sealing, Commit, Erasing, Aborting}

-- the table against the map and the cells: mapped pages are counted by block, and the pages of a block from its write
-- place on are erased
pub record IsTabled (per_block : ℕ) (table : BlockTableView) (cells : List Cell) (places : PageMapView)
    : Type 0 where
  pub counted : (block : ℕ) → block < length table.blocks
      → (block_at table block).mapped ≡ mapped_in per_block places block
  pub blank : (a : ℕ) → a < length cells → (block_at table (a / per_block)).state ≢ Waiting
      → (block_at table (a / per_block)).next ≤ a % per_block → cell_at cells a ≡ erased

-- the block alone is in this state
pub record IsOnlyBlock (table : BlockTableView) (state : BlockState) (block : ℕ) : Type 0 where
  pub is : IsInState table.blocks state block
  pub only : (other : ℕ) → IsInState table.blocks state other → other ≡ block

-- a block in this state
pub record HasBlock (table : BlockTableView) (state : BlockState) : Type 0 where
  pub block : ℕ
  pub is : IsInState table.blocks state block

-- a page that is mapped in the block is there at this place
abbrev pub IsStill : ℕ → PageMapView → ℕ → PageNo → Ppn → Type 0
IsStill per_block places block page from = (m : Mapping) → mapping_of places page ≡ Some m
    → m.at.0 / per_block ≡ block → m.at ≡ from

-- a sealed copy: the same bytes and spare stand sealed in the victim and in the destination
pub record IsCopy (per_block : ℕ) (cells : List Cell) (places : PageMapView) (job : Job) (one : Move)
    : Type 0 where
  pub bytes : List ℕ
  pub spare : Spare
  pub page : spare.page ≡ one.page
  pub from : cell_at cells one.from.0 ≡ sealed bytes spare
  pub to : cell_at cells one.to.0 ≡ sealed bytes spare
  pub from_in : one.from.0 / per_block ≡ job.victim.0
  pub to_in : one.to.0 / per_block ≡ job.into.0
  pub behind : one.from.0 < job.victim.0 * per_block + job.seen
  pub still : IsStill per_block places job.victim.0 one.page one.from

-- the two blocks of a collection
pub record AreBlocks (table : BlockTableView) (job : Job) : Type 0 where
  pub full : IsInState table.blocks Full job.victim.0
  pub held : IsOnlyBlock table Held job.into.0
  pub none_waits : NoBlock (IsInState table.blocks Waiting)
  pub unmapped : (block_at table job.into.0).mapped ≡ 0

-- the copies are of distinct pages at distinct places, and are those of all pages that are mapped in the victim before
-- what is seen of it
pub record AreCopies (per_block : ℕ) (moves : List Move) (cells : List Cell) (places : PageMapView)
    (job : Job) : Type 0 where
  pub copies : All (λ one. IsCopy per_block cells places job one) moves
  pub pages_apart : AllPairs (λ one other. one.page.0 ≢ other.page.0) moves
  pub places_apart : AllPairs (λ one other. one.to.0 ≢ other.to.0) moves
  pub copied : (page : PageNo) (m : Mapping) → mapping_of places page ≡ Some m
      → m.at.0 / per_block ≡ job.victim.0 → m.at.0 < job.victim.0 * per_block + job.seen
      → Any (λ one. one.page ≡ page) moves

-- a collection that copies
pub record IsCopying (per_block : ℕ) (moves : List Move) (cells : List Cell) (table : BlockTableView)
    (places : PageMapView) (job : Job) : Type 0 where
  pub blocks : AreBlocks table job
  pub copies : AreCopies per_block moves cells places job
  pub seen : job.seen ≤ per_block
  pub room : length moves ≤ (block_at table job.into.0).next

-- a page of the victim that isn't mapped, and never will be: there are fewer copies than pages before what is seen,
-- once it is seen
pub record HasStale (per_block : ℕ) (moves : List Move) (places : PageMapView) (job : Job)
    : Type 0 where
  pub place : ℕ
  pub small : place < per_block
  pub unmapped : (page : PageNo) (m : Mapping) → mapping_of places page ≡ Some m
      → m.at.0 ≢ job.victim.0 * per_block + place
  pub few : length moves ≤ job.seen
  pub fewer : place < job.seen → length moves < job.seen

-- the same, and the page in hand is another one
pub record HasStaleBeside (per_block : ℕ) (moves : List Move) (places : PageMapView) (job : Job)
    (from : Ppn) : Type 0 where
  pub place : ℕ
  pub small : place < per_block
  pub unmapped : (page : PageNo) (m : Mapping) → mapping_of places page ≡ Some m
      → m.at.0 ≢ job.victim.0 * per_block + place
  pub few : length moves ≤ job.seen
  pub fewer : place < job.seen → length moves < job.seen
  pub fresh : from.0 ≢ job.victim.0 * per_block + place

-- the page in hand: it stands sealed in the victim, behind what is seen, and none that is mapped there is before it
pub record IsInHand (per_block : ℕ) (moves : List Move) (bytes : List ℕ) (cells : List Cell)
    (places : PageMapView) (job : Job) (original : Original) : Type 0 where
  pub cell : cell_at cells original.from.0 ≡ sealed bytes (spare_in original)
  pub from_in : original.from.0 / per_block ≡ job.victim.0
  pub unseen : job.victim.0 * per_block + job.seen ≤ original.from.0
  pub still : IsStill per_block places job.victim.0 original.page original.from
  pub new : All (λ one. one.page.0 ≢ original.page.0) moves
  pub next : (page : PageNo) (m : Mapping) → mapping_of places page ≡ Some m
      → m.at.0 / per_block ≡ job.victim.0 → job.victim.0 * per_block + job.seen ≤ m.at.0
      → original.from.0 ≤ m.at.0

-- the programmed copy of the page in hand, which is to be sealed
pub record IsProgrammedCopy (per_block : ℕ) (moves : List Move) (bytes : List ℕ) (cells : List Cell)
    (table : BlockTableView) (job : Job) (original : Original) (at : Ppn) : Type 0 where
  pub cell : cell_at cells at.0 ≡ closed bytes (spare_in original)
  pub at_in : at.0 / per_block ≡ job.into.0
  pub room : length moves < (block_at table job.into.0).next

-- the block that is to be erased
pub record IsEmptying (table : BlockTableView) (block : Block) : Type 0 where
  pub waits : IsOnlyBlock table Waiting block.0
  pub unmapped : (block_at table block.0).mapped ≡ 0
  pub none_held : NoBlock (IsInState table.blocks Held)

-- no collection runs: a block is erased
pub record IsCollectorIdle (table : BlockTableView) : Type 0 where
  pub none_held : NoBlock (IsInState table.blocks Held)
  pub none_waits : NoBlock (IsInState table.blocks Waiting)
  pub spare : HasBlock table Erased

pub record IsReading (per_block : ℕ) (moves : List Move) (cells : List Cell) (table : BlockTableView)
    (places : PageMapView) (job : Job) : Type 0 where
  pub copying : IsCopying per_block moves cells table places job
  pub stale : HasStale per_block moves places job

pub record IsProgramming (per_block : ℕ) (moves : List Move) (bytes : List ℕ) (cells : List Cell)
    (table : BlockTableView) (places : PageMapView) (job : Job) (original : Original) : Type 0 where
  pub copying : IsCopying per_block moves cells table places job
  pub hand : IsInHand per_block moves bytes cells places job original
  pub stale : HasStaleBeside per_block moves places job original.from

pub record IsSealing (per_block : ℕ) (moves : List Move) (bytes : List ℕ) (cells : List Cell)
    (table : BlockTableView) (places : PageMapView) (job : Job) (original : Original) (at : Ppn)
    : Type 0 where
  pub programming : IsProgramming per_block moves bytes cells table places job original
  pub copy : IsProgrammedCopy per_block moves bytes cells table job original at

pub record IsCommitting (per_block : ℕ) (moves : List Move) (cells : List Cell) (table : BlockTableView)
    (places : PageMapView) (job : Job) : Type 0 where
  pub reading : IsReading per_block moves cells table places job
  pub all_seen : IsAllSeen per_block places job

-- what holds in the collector's phase
abbrev pub IsAt : CollectorView → List Cell → BlockTableView → PageMapView → Phase → Type 0
IsAt gc cells table places Idle = IsCollectorIdle table
IsAt gc cells table places (Reading job) = IsReading gc.per_block gc.moves cells table places job
IsAt gc cells table places (Programming job original) =
    IsProgramming gc.per_block gc.moves gc.bytes cells table places job original
IsAt gc cells table places (Sealing job original at) =
    IsSealing gc.per_block gc.moves gc.bytes cells table places job original at
IsAt gc cells table places (Commit job) =
    IsCommitting gc.per_block gc.moves cells table places job
IsAt gc cells table places (Erasing block) = IsEmptying table block
IsAt gc cells table places (Aborting block) = IsEmptying table block

-- what holds while the power is on
pub record IsLive (gc : CollectorView) (cells : List Cell) (table : BlockTableView) (places : PageMapView)
    : Type 0 where
  pub tabled : IsTabled gc.per_block table cells places
  pub phase : IsAt gc cells table places gc.phase
