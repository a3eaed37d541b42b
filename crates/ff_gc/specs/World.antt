-- A collector with all that it works on, and what is kept of them in each step.
use Rattle.std.specs.Prelude.{ℕ, ◌*◌, ◌^◌, ◌<◌, ◌≡◌, true, List, length, Option, None, Some}
use Rattle.ff_base.specs.Page.{blank_page}
use Rattle.ff_base.specs.declared.numbers.PageNo.{PageNo}
use Rattle.ff_flash.specs.Cells.{Cell, cell_at, cell_bytes}
use Rattle.ff_flash.specs.FlashState.{FlashState}
use Rattle.ff_space.specs.BlockTable.{BlockTableView}
use Rattle.ff_map.specs.PageMap.{PageMapView, mapping_of, version_of}
use Rattle.ff_map.specs.declared.places.Mapping.{Mapping}
use Rattle.ff_gc.specs.Cells.{IsSafe}
use Rattle.ff_gc.specs.Collector.{CollectorView}
use Rattle.ff_gc.specs.Running.{IsLive}
use Rattle.ff_gc.specs.declared.counts.FlashCounts.{FlashCounts}

-- a collector, its flash, block table and page map, and the counts of the operations
pub record World : Type 0 where
  pub gc : CollectorView
  pub flash : FlashState
  pub table : BlockTableView
  pub places : PageMapView
  pub counts : FlashCounts

abbrev pub world_of : CollectorView → FlashState → BlockTableView → PageMapView → FlashCounts → World
world_of gc flash table places counts =
    record { gc = gc; flash = flash; table = table; places = places; counts = counts }

-- all are of one geometry
pub record Fits (w : World) : Type 0 where
  pub per_block : w.flash.per_block ≡ w.gc.per_block
  pub blocks : w.flash.blocks ≡ length w.table.blocks
  pub table : w.table.per_block ≡ w.gc.per_block
  pub cells : length w.flash.cells ≡ length w.table.blocks * w.gc.per_block
  pub places : w.places.places ≡ length w.table.blocks * w.gc.per_block
  pub some : 0 < w.gc.per_block
  pub small : length w.table.blocks * w.gc.per_block < 2 ^ 32

-- the bytes of a mapped page, or zeros
abbrev pub mapped_bytes : List Cell → Option Mapping → List ℕ
mapped_bytes cells None = blank_page
mapped_bytes cells (Some m) = cell_bytes (cell_at cells m.at.0)

-- the bytes of a page: what is stored is a map of pages to bytes
abbrev pub page_bytes : World → PageNo → List ℕ
page_bytes w page = mapped_bytes w.flash.cells (mapping_of w.places page)

-- no page is mapped or unmapped, and none changes its bytes or its version. The sizes stay
pub record SamePages (old new : World) : Type 0 where
  pub bytes : (page : PageNo) → page_bytes new page ≡ page_bytes old page
  pub versions : (page : PageNo) → version_of new.places page ≡ version_of old.places page
  pub next : new.places.next_version ≡ old.places.next_version
  pub pages : length new.places.pages ≡ length old.places.pages
  pub blocks : length new.table.blocks ≡ length old.table.blocks
  pub per_block : new.gc.per_block ≡ old.gc.per_block

-- what holds always, of a collector and what it works on
abbrev pub IsSafeWorld : World → Type 0
IsSafeWorld w =
    IsSafe None (length w.table.blocks) w.gc.per_block w.flash.operations w.flash.cells w.places

-- what a step needs, with the power on
pub record IsCollectorReady (w : World) : Type 0 where
  pub on : w.flash.on ≡ true
  pub fits : Fits w
  pub safe : IsSafeWorld w
  pub live : IsLive w.gc w.flash.cells w.table w.places

-- what a step keeps, also one that failed or was cut
pub record Keeps (old new : World) : Type 0 where
  pub same : SamePages old new
  pub fits : Fits new
  pub safe : IsSafeWorld new
  pub live : new.flash.on ≡ true → IsLive new.gc new.flash.cells new.table new.places
