-- What each call of a store makes of it.
use Rattle.std.specs.Prelude.{
  ℕ,
  ◌+◌,
  ◌*◌,
  ◌/◌,
  ◌≤◌,
  ◌≡◌,
  ◌≢◌,
  ◌&&◌,
  ◌⊎◌,
  Bool,
  true,
  List,
  length,
  Option,
  None,
  Some,
  option_map,
  Result,
  Ok,
  Err,
  IfOk,
}
use Rattle.ff_base.specs.declared.numbers.PageNo.{PageNo}
use Rattle.ff_base.specs.declared.numbers.Ppn.{Ppn}
use Rattle.ff_flash.specs.Cells.{Programs, ReadsBytes, Seals, cell_at, cell_bytes, closed}
use Rattle.ff_flash.specs.Injected.{stop_of}
use Rattle.ff_flash.specs.declared.flash.FlashStop.{FlashStop}
use Rattle.ff_flash.specs.declared.flash.FlashStop.TheVariants.{Off}
use Rattle.ff_space.specs.Blocks.{advanced, mapped_less, mapped_more}
use Rattle.ff_space.specs.BlockTable.{BlockTableView, IsInState, block_at, changed_at, erased_count}
use Rattle.ff_space.specs.Choices.{IsAllMapped, IsBlockToTake, IsLeast, IsNoPlace}
use Rattle.ff_space.specs.declared.block.BlockEntry.{BlockEntry}
use Rattle.ff_space.specs.declared.block.BlockState.TheVariants.{Open}
use Rattle.ff_map.specs.PageMap.{PageMapView, drawn_map, mapping_of, version_of, with_mapping}
use Rattle.ff_map.specs.declared.places.Mapping.{Mapping}
use Rattle.ff_gc.specs.Collector.{is_busy}
use Rattle.ff_gc.specs.Steps.{IsStep, Makes, Takes, operation_of}
use Rattle.ff_gc.specs.World.{page_bytes}
use Rattle.ff_gc.specs.declared.collector.GcStep.{GcStep}
use Rattle.ff_gc.specs.declared.counts.OperationKind.TheVariants.{Program, Read, Seal}
use Rattle.ff_store.specs.PageStore.{PageStoreView, spare_of}
use Rattle.ff_store.specs.declared.pending.Pending.{Pending}
use Rattle.ff_store.specs.declared.store.FlushStep.{FlushStep}
use Rattle.ff_store.specs.declared.store.FlushStep.TheVariants.{Collected, Programmed, Sealed}

-- what no call changes
pub record SameStore (old new : PageStoreView) : Type 0 where
  pub blocks : length new.world.table.blocks ≡ length old.world.table.blocks
  pub per_block : new.world.gc.per_block ≡ old.world.gc.per_block
  pub pages : length new.world.places.pages ≡ length old.world.places.pages
  pub plan : new.world.flash.plan ≡ old.world.flash.plan
  pub making : new.world.flash.making ≡ old.world.flash.making
  pub low : new.low ≡ old.low
  pub opened : new.opened ≡ old.opened

-- a call that begins with the power on makes one operation of the flash, or none
pub record IsCall (old : PageStoreView) (stop : Option FlashStop) (new : PageStoreView)
    : Type 0 where
  pub same : SameStore old new
  pub takes : Takes old.world stop new.world

-- no page is mapped or unmapped, and none changes its bytes or its version
pub record SameBytes (old new : PageStoreView) : Type 0 where
  pub bytes : (page : PageNo) → page_bytes new.world page ≡ page_bytes old.world page
  pub versions : (page : PageNo)
      → version_of new.world.places page ≡ version_of old.world.places page

-- the page that is to be sealed
abbrev pub waiting_page : PageStoreView → Option PageNo
waiting_page s = option_map (λ p. p.page) s.waits

-- a mapped page is read into a buffer
pub record Fetches (old : PageStoreView) (at : Ppn) (before : List ℕ)
    (result : Result (Unit {0}) FlashStop) (after : List ℕ) (new : PageStoreView) : Type 0 where
  pub operation : Makes Read old.world (stop_of result) new.world
  pub cells : ReadsBytes old.world.flash.cells at.0 before result after new.world.flash.cells
  pub store : new ≡ record old {
    world = record old.world { flash = new.world.flash; counts = new.world.counts };
  }

-- a flush makes a collection step: one is owed, or no block has a page to program
abbrev pub CollectsNow : PageStoreView → Type 0
CollectsNow s = (s.owed ≡ true) ⊎ IsNoPlace s.world.table

-- the collector makes its step. The next one is owed where this one was, until the collection ends
pub record Collects (owed : Bool) (old : PageStoreView) (step : Result GcStep FlashStop)
    (new : PageStoreView) : Type 0 where
  pub world : IsStep old.world step new.world
  pub store : new ≡ record old {
    world = new.world;
    owed = owed && is_busy new.world.gc.phase;
  }

-- the block whose write place is programmed next: the least open one, or else the least erased one, where two are
pub record IsWritePlace (table : BlockTableView) (block at : ℕ) : Type 0 where
  pub chosen : IsLeast (IsInState table.blocks Open) block ⊎ IsBlockToTake table block
  pub at_is : at ≡ block * table.per_block + (block_at table block).next

-- the table after a page was programmed at the write place of a block, which is open then or full. A page that failed
-- is spoiled, so the write place moves on then too
abbrev pub opened_block : BlockEntry → BlockEntry
opened_block entry = record entry { state = Open }

abbrev pub table_after_flush : BlockTableView → ℕ → Result FlushStep FlashStop → BlockTableView
table_after_flush table block (Err Off) = table
table_after_flush table block _ =
    changed_at table block (λ entry. advanced table.per_block (opened_block entry))

-- a flush that was programmed
abbrev pub pending_at : PageNo → Ppn → PageMapView → Pending
pending_at page at places = record { page = page; at = at; version = places.next_version }

abbrev pub waits_after : Pending → Result FlushStep FlashStop → Option Pending
waits_after p (Ok _) = Some p
waits_after p (Err _) = None

-- a page is programmed anew, with the next version
pub record ProgramsPage (old : PageStoreView) (page : PageNo) (bytes : List ℕ)
    (result : Result FlushStep FlashStop) (new : PageStoreView) : Type 0 where
  pub block : ℕ
  pub at : Ppn
  pub place : IsWritePlace old.world.table block at.0
  pub operation : Makes Program old.world (stop_of result) new.world
  pub cells : Programs old.world.flash.cells at.0 bytes
      (spare_of (pending_at page at old.world.places)) (operation_of result) new.world.flash.cells
  pub step : IfOk result (λ step. step ≡ Programmed)
  pub store : new ≡ record old {
    world = record old.world {
      flash = new.world.flash;
      counts = new.world.counts;
      table = table_after_flush old.world.table block result;
      places = drawn_map old.world.places;
    };
    waits = waits_after (pending_at page at old.world.places) result;
  }

-- what a flush answers for a collection step that it made
abbrev pub collected : Result GcStep FlashStop → Result FlushStep FlashStop
collected (Ok _) = Ok Collected
collected (Err stop) = Err stop

-- a flush makes a collection step
pub record CollectsFor (old : PageStoreView) (result : Result FlushStep FlashStop)
    (new : PageStoreView) : Type 0 where
  pub step : Result GcStep FlashStop
  pub collects : Collects true old step new
  pub answer : result ≡ collected step

-- one step of a flush
pub data Flushes (old : PageStoreView) (page : PageNo) (bytes : List ℕ)
    (result : Result FlushStep FlashStop) (new : PageStoreView) : Type 0 where
  programs_flush : (CollectsNow old → ⊥) → ProgramsPage old page bytes result new
      → Flushes old page bytes result new
  collects_flush : CollectsNow old → CollectsFor old result new → Flushes old page bytes result new

-- the page is to be sealed, with these bytes
pub record IsProgrammed (s : PageStoreView) (page : PageNo) (bytes : List ℕ) : Type 0 where
  pub pending : Pending
  pub is : s.waits ≡ Some pending
  pub page_is : pending.page ≡ page
  pub cell : cell_at s.world.flash.cells pending.at.0 ≡ closed bytes (spare_of pending)

-- the mapping of the page that is to be sealed
abbrev pub new_mapping : Pending → Mapping
new_mapping p = record { at = p.at; version = p.version }

-- the table after the old mapping of a page is counted no more
abbrev pub dropped : ℕ → BlockTableView → Option Mapping → BlockTableView
dropped per_block table None = table
dropped per_block table (Some m) = changed_at table (m.at.0 / per_block) mapped_less

-- the table after a page was mapped anew, in this block
abbrev pub placed_table : ℕ → BlockTableView → Option Mapping → ℕ → BlockTableView
placed_table per_block table old block = changed_at (dropped per_block table old) block mapped_more

-- the table, the map and what waits after a seal
abbrev pub table_after_seal : PageStoreView → Pending → Result FlushStep FlashStop → BlockTableView
table_after_seal s p (Ok _) =
    placed_table s.world.gc.per_block s.world.table (mapping_of s.world.places p.page)
    (p.at.0 / s.world.gc.per_block)
table_after_seal s p (Err _) = s.world.table

abbrev pub places_after_seal : PageStoreView → Pending → Result FlushStep FlashStop → PageMapView
places_after_seal s p (Ok _) = with_mapping s.world.places p.page (new_mapping p)
places_after_seal s p (Err _) = s.world.places

abbrev pub waits_after_seal : Pending → Result FlushStep FlashStop → Option Pending
waits_after_seal p (Err Off) = Some p
waits_after_seal p _ = None

-- the page that waits is sealed: it is mapped then, to the programmed bytes. A seal that failed ends the flush
pub record SealsPage (old : PageStoreView) (p : Pending) (result : Result FlushStep FlashStop)
    (new : PageStoreView) : Type 0 where
  pub waited : old.waits ≡ Some p
  pub operation : Makes Seal old.world (stop_of result) new.world
  pub cells : Seals old.world.flash.cells p.at.0 (operation_of result) new.world.flash.cells
  pub step : IfOk result (λ step. step ≡ Sealed p.page)
  pub store : new ≡ record old {
    world = record old.world {
      flash = new.world.flash;
      counts = new.world.counts;
      table = table_after_seal old p result;
      places = places_after_seal old p result;
    };
    waits = waits_after_seal p result;
  }

-- the page that waited has the programmed bytes, and all others are as they were
pub record IsPlaced (old : PageStoreView) (page : PageNo) (new : PageStoreView) : Type 0 where
  pub pending : Pending
  pub waited : old.waits ≡ Some pending
  pub page_is : pending.page ≡ page
  pub places : new.world.places ≡ with_mapping old.world.places page (new_mapping pending)
  pub bytes : page_bytes new.world page ≡ cell_bytes (cell_at old.world.flash.cells pending.at.0)
  pub others : (other : PageNo) → other.0 ≢ page.0
      → page_bytes new.world other ≡ page_bytes old.world other
  pub done : new.waits ≡ None

-- the page of the flush that waits is sealed
abbrev pub MatchSealed : PageStoreView → FlushStep → PageStoreView → Type 0
MatchSealed old (Sealed page) new = IsPlaced old page new
MatchSealed old Programmed new = ⊥
MatchSealed old Collected new = ⊥

-- a collection runs, or few blocks are erased and one can be collected
abbrev pub WantsCollect : PageStoreView → Type 0
WantsCollect s = (is_busy s.world.gc.phase ≡ true)
    ⊎ ((erased_count s.world.table.blocks ≤ s.low) × (IsAllMapped s.world.table → ⊥))
