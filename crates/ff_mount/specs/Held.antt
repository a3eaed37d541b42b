-- What battery-backed content and the cells of a flash hold together.
use Rattle.std.specs.Prelude.{ℕ, ◌||◌, ◌&&◌, Bool, false, if◌then◌else◌, List, map, find, Option, None, Some, is_some}
use Rattle.std.specs.List.{range_with_len}
use Rattle.std.specs.Option.{is_none}
use Rattle.ff_cache.specs.Cache.{CacheView}
use Rattle.ff_cache.specs.Nv.{NvView, NvWay, ways_of}
use Rattle.ff_cache.specs.Slots.{is_page}
use Rattle.ff_flash.specs.Cells.{Cell}
use Rattle.ff_lines.specs.PageSets.{count_below}
use Rattle.ff_model.specs.Image.{Content}
use Rattle.ff_store.specs.Best.{Version, best, bytes_or_zeros}

-- what the battery keeps of a cache, with these marks
abbrev pub nv_of : CacheView → List ℕ → NvView
nv_of cache marks = record { slots = ways_of cache.slots; marks = marks }

-- the way that holds a page, if one does
abbrev pub way_of_page : List NvWay → ℕ → Option NvWay
way_of_page ways page = find (λ way. is_page way.page page) ways

-- the best version of a page
abbrev pub best_of : List Cell → ℕ → Option Version
best_of cells page = best cells (record { 0 = page })

abbrev pub way_bytes : Option NvWay → List ℕ → List ℕ
way_bytes None below = below
way_bytes (Some way) below = way.bytes

abbrev pub is_dirty_way : Option NvWay → Bool
is_dirty_way None = false
is_dirty_way (Some way) = way.dirty

-- what a page reads: the cached bytes, or else those of its best version, or zeros
abbrev pub held_bytes : List NvWay → List Cell → ℕ → List ℕ
held_bytes ways cells page =
    way_bytes (way_of_page ways page) (bytes_or_zeros (best_of cells page))

-- the page has a sealed page or a dirty way
abbrev pub is_held : List NvWay → List Cell → ℕ → Bool
is_held ways cells page =
    is_dirty_way (way_of_page ways page) || is_some (best_of cells page)

-- what an image has of a page
abbrev pub image_page : List NvWay → List Cell → ℕ → Option (List ℕ)
image_page ways cells page =
    if is_held ways cells page then Some (held_bytes ways cells page) else None

-- what is held, as an image of so many pages
unfoldable pub held_content : ℕ → NvView → List Cell → Content
held_content pages nv cells = record {
  pages = map (image_page nv.slots cells) (range_with_len 0 pages);
  marks = nv.marks;
}

-- an image reads the page from the flash: it is held and not cached
abbrev pub is_read : List NvWay → List Cell → ℕ → Bool
is_read ways cells page = is_none (way_of_page ways page) && is_held ways cells page

abbrev pub page_reads : List NvWay → List Cell → ℕ → ℕ
page_reads ways cells page = if is_read ways cells page then 1 else 0

-- how many reads an image of so many pages takes
abbrev pub image_reads : ℕ → List NvWay → List Cell → ℕ
image_reads pages ways cells = count_below (is_read ways cells) pages
