-- What a contract sees of a store, and what the store keeps.
use Rattle.std.specs.Prelude.{ℕ, ◌+◌, ◌/◌, ◌%◌, ◌<◌, ◌≤◌, ◌≡◌, ◌≢◌, ◌⊎◌, Bool, true, false, List, length, Option, None, Some}
use Rattle.ff_base.specs.declared.geometry.Geometry.{Geometry}
use Rattle.ff_base.specs.declared.numbers.TheConstants.{PAGE_BYTES}
use Rattle.ff_flash.specs.Cells.{closed, sealed, cell_at}
use Rattle.ff_flash.specs.FlashState.{FlashState}
use Rattle.ff_flash.specs.declared.spare.Spare.{Spare}
use Rattle.ff_space.specs.BlockTable.{block_at, new_table}
use Rattle.ff_space.specs.declared.block.BlockState.TheVariants.{Full, Open}
use Rattle.ff_map.specs.PageMap.{empty_map}
use Rattle.ff_gc.specs.Cells.{AreMapped, IsSafe, Unmapped}
use Rattle.ff_gc.specs.Collector.{is_busy, new_collector}
use Rattle.ff_gc.specs.FlashCounts.{no_counts, total_of}
use Rattle.ff_gc.specs.Running.{IsLive}
use Rattle.ff_gc.specs.World.{Fits, World}
use Rattle.ff_gc.specs.declared.phase.Phase.{Phase}
use Rattle.ff_gc.specs.declared.phase.Phase.TheVariants.{Reading, Programming, Sealing, Commit}
use Rattle.ff_store.specs.Pages.{page_capacity, mapped_count, mapped_with}
use Rattle.ff_store.specs.declared.pending.Pending.{Pending}

-- the collector with all that it works on, the flush that is to be sealed, whether a collection step is owed, at how
-- many erased blocks the collector is wanted, and how many operations the flash had made when the store was made
pub record PageStoreView : Type 0 where
  pub world : World
  pub waits : Option Pending
  pub owed : Bool
  pub low : ℕ
  pub opened : ℕ

-- a store over a flash of which every page is erased
abbrev pub new_store : FlashState → Geometry → PageStoreView
new_store flash geometry = record {
  world = record {
    gc = new_collector geometry;
    flash = flash;
    table = new_table geometry;
    places = empty_map geometry;
    counts = no_counts;
  };
  waits = None;
  owed = false;
  low = geometry.low;
  opened = flash.operations;
}

-- the spare of the flush that is to be sealed
abbrev pub spare_of : Pending → Spare
spare_of p = record { page = p.page; version = p.version }

-- the page that the map may not know: the one that is to be sealed
abbrev pub unmapped_of : Option Pending → Option Unmapped
unmapped_of None = None
unmapped_of (Some p) = Some (record { at = p.at.0; spare = spare_of p })

-- the page that is to be sealed is in another block
abbrev pub IsElsewhere : ℕ → Option Pending → ℕ → Type 0
IsElsewhere per_block None block = Unit {0}
IsElsewhere per_block (Some p) block = p.at.0 / per_block ≢ block

-- how many pages are mapped, the one that is to be sealed with them
abbrev pub pages_with : PageStoreView → Option Pending → ℕ
pages_with s None = mapped_count s.world.places
pages_with s (Some p) = mapped_with s.world.places p.page

-- what holds always, also after a power cut. A cut in the seal of a flush may leave its page sealed, though the map
-- doesn't know it
pub record IsAlways (s : PageStoreView) : Type 0 where
  pub safe : IsSafe (unmapped_of s.waits) (length s.world.table.blocks) s.world.gc.per_block
      s.world.flash.operations s.world.flash.cells s.world.places
  pub elsewhere : IsElsewhere s.world.gc.per_block s.waits safe.spare.block
  pub room : pages_with s s.waits ≤ page_capacity s.world
  pub in_range : (p : Pending) → s.waits ≡ Some p → p.page.0 < length s.world.places.pages

-- the block isn't the victim of a collection before its end
abbrev pub IsNotVictim : Phase → ℕ → Type 0
IsNotVictim (Reading job) block = job.victim.0 ≢ block
IsNotVictim (Programming job original) block = job.victim.0 ≢ block
IsNotVictim (Sealing job original at) block = job.victim.0 ≢ block
IsNotVictim (Commit job) block = job.victim.0 ≢ block
IsNotVictim _ block = Unit {0}

-- the page that is to be sealed is programmed, newer than all that is sealed, in a block that is open or full
pub record IsPending (s : PageStoreView) (p : Pending) : Type 0 where
  pub bytes : List ℕ
  pub cell : cell_at s.world.flash.cells p.at.0 ≡ closed bytes (spare_of p)
  pub size : length bytes ≡ PAGE_BYTES
  pub newest : (a : ℕ) (x : List ℕ) (spare : Spare)
      → cell_at s.world.flash.cells a ≡ sealed x spare → spare.version < p.version
  pub least : 1 ≤ p.version
  pub drawn : p.version < s.world.places.next_version
  pub block : p.at.0 / s.world.gc.per_block < length s.world.table.blocks
  pub place : p.at.0 < s.world.places.places
  pub used : p.at.0 % s.world.gc.per_block
      < (block_at s.world.table (p.at.0 / s.world.gc.per_block)).next
  pub apart : IsNotVictim s.world.gc.phase (p.at.0 / s.world.gc.per_block)
  pub mapped : (block_at s.world.table (p.at.0 / s.world.gc.per_block)).mapped
      < (block_at s.world.table (p.at.0 / s.world.gc.per_block)).next
  pub usable : ((block_at s.world.table (p.at.0 / s.world.gc.per_block)).state ≡ Open)
      ⊎ ((block_at s.world.table (p.at.0 / s.world.gc.per_block)).state ≡ Full)

abbrev pub IsWaiting : PageStoreView → Option Pending → Type 0
IsWaiting s None = Unit {0}
IsWaiting s (Some p) = IsPending s p

-- what holds while the power is on: the map knows each sealed page
pub record IsRunning (s : PageStoreView) : Type 0 where
  pub mapped : AreMapped None s.world.flash.cells s.world.places
  pub live : IsLive s.world.gc s.world.flash.cells s.world.table s.world.places
  pub waiting : IsWaiting s s.waits

-- what a store keeps. Only a collection that runs has a step that is owed
pub record IsStoreSound (s : PageStoreView) : Type 0 where
  pub fits : Fits s.world
  pub always : IsAlways s
  pub running : s.world.flash.on ≡ true → IsRunning s
  pub owed : s.owed ≡ true → is_busy s.world.gc.phase ≡ true
  pub counted : s.opened + total_of s.world.counts ≡ s.world.flash.operations
