-- Battery-backed content and a flash from which a mount finds its way.
use Rattle.std.specs.Prelude.{ℕ, ◌<◌, ◌≤◌, ◌≡◌, false, length, Some}
use Rattle.ff_base.specs.Geometry.{capacity_of}
use Rattle.ff_base.specs.declared.geometry.Geometry.{Geometry}
use Rattle.ff_base.specs.declared.numbers.TheConstants.{PAGE_BYTES}
use Rattle.ff_cache.specs.Nv.{NvView, NvWay, slots_of}
use Rattle.ff_cache.specs.Slots.{ArePlaced}
use Rattle.ff_flash.specs.FlashState.{FlashState}
use Rattle.ff_gc.specs.Cells.{AreSealed, HasCovered}
use Rattle.ff_lines.specs.PageSets.{count_below}
use Rattle.ff_mount.specs.Held.{best_of, is_held, way_of_page}
use Rattle.ff_store.specs.Best.{bytes_or_zeros}

-- the ways are those of a cache: a page has one way at most, in its set, and an empty way isn't dirty. Pages are in
-- range, and each has its mask of marked lines
pub record AreWays (geometry : Geometry) (nv : NvView) : Type 0 where
  pub placed : ArePlaced geometry.sets geometry.ways (slots_of nv.slots)
  pub page : (page : ℕ) (way : NvWay) → way_of_page nv.slots page ≡ Some way
      → page < geometry.pages
  pub full : (page : ℕ) (way : NvWay) → way_of_page nv.slots page ≡ Some way
      → length way.bytes ≡ PAGE_BYTES
  pub marks : length nv.marks ≡ geometry.pages

-- equal versions of a page hold equal bytes, a block is covered, no more pages are held than fit, and a clean way
-- holds the best version, or zeros where there is none
pub record AreSound (geometry : Geometry) (nv : NvView) (flash : FlashState) : Type 0 where
  pub blocks : flash.blocks ≡ geometry.blocks
  pub per_block : flash.per_block ≡ geometry.per_block
  pub sealed_cells : AreSealed geometry.pages flash.operations flash.cells
  pub covered : HasCovered geometry.blocks geometry.per_block flash.cells
  pub few : count_below (is_held nv.slots flash.cells) geometry.pages ≤ capacity_of geometry
  pub ways : AreWays geometry nv
  pub clean : (page : ℕ) (way : NvWay) → way_of_page nv.slots page ≡ Some way → way.dirty ≡ false
      → way.bytes ≡ bytes_or_zeros (best_of flash.cells page)
