-- What a power loss leaves of a store in the cells of its flash, after every call and every cut.
use Rattle.std.specs.Prelude.{ℕ, ◌<◌, ◌≤◌, ◌≡◌, ◌≢◌, List, length, Option, None, Some}
use Rattle.ff_base.specs.declared.numbers.PageNo.{PageNo}
use Rattle.ff_flash.specs.Cells.{Cell, sealed, cell_at}
use Rattle.ff_flash.specs.declared.spare.Spare.{Spare}
use Rattle.ff_map.specs.PageMap.{mapping_of}
use Rattle.ff_map.specs.declared.places.Mapping.{Mapping}
use Rattle.ff_gc.specs.Cells.{HasCovered}
use Rattle.ff_store.specs.Best.{best, mapped_version, sealed_count}
use Rattle.ff_store.specs.PageStore.{PageStoreView, spare_of}
use Rattle.ff_store.specs.Pages.{page_capacity}
use Rattle.ff_store.specs.declared.pending.Pending.{Pending}

-- the page's mapping is older than its programmed cell, or there is none and no other cell of the page is sealed
abbrev pub IsOutdated : List Cell → Pending → Option Mapping → Type 0
IsOutdated cells p (Some m) = m.version < p.version
IsOutdated cells p None = (a : ℕ) (x : List ℕ) (spare : Spare) → cell_at cells a ≡ sealed x spare
    → spare.page ≡ p.page → a ≡ p.at.0

-- the best version of the page that is to be sealed: that of its mapping, or the programmed one, which a cut has sealed
pub data IsBestOfPending (cells : List Cell) (p : Pending) (mapping : Option Mapping) : Type 0 where
  mapped_is_best : best cells p.page ≡ mapped_version cells mapping
      → IsBestOfPending cells p mapping
  programmed_is_best : (bytes : List ℕ) → cell_at cells p.at.0 ≡ sealed bytes (spare_of p)
      → best cells p.page ≡ Some (record { number = p.version; bytes = bytes })
      → IsOutdated cells p mapping → IsBestOfPending cells p mapping

-- a block can be erased without loss; the best version of each page is that of its mapping, but for the page that is to
-- be sealed; and no more pages are sealed than may be mapped
pub record IsRecoverable (s : PageStoreView) : Type 0 where
  pub covered : HasCovered (length s.world.table.blocks) s.world.gc.per_block s.world.flash.cells
  pub mapped : (page : PageNo) → ((p : Pending) → s.waits ≡ Some p → p.page ≢ page)
      → best s.world.flash.cells page
      ≡ mapped_version s.world.flash.cells (mapping_of s.world.places page)
  pub waiting : (p : Pending) → s.waits ≡ Some p
      → IsBestOfPending s.world.flash.cells p (mapping_of s.world.places p.page)
  pub few : sealed_count (length s.world.places.pages) s.world.flash.cells ≤ page_capacity s.world
