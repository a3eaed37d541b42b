-- The pages of a store: which are mapped, and their bytes.
use Rattle.std.specs.Prelude.{ℕ, ◌+◌, ◌-◌, ◌*◌, ◌≤◌, Bool, if◌then◌else◌, length, is_some, count_by}
use Rattle.ff_base.specs.declared.numbers.PageNo.{PageNo}
use Rattle.ff_map.specs.PageMap.{PageMapView, mapping_of}
use Rattle.ff_gc.specs.World.{World}

abbrev pub is_mapped : PageMapView → PageNo → Bool
is_mapped places page = is_some (mapping_of places page)

-- how many pages are mapped
abbrev pub mapped_count : PageMapView → ℕ
mapped_count places = count_by (λ m. is_some m) places.pages

-- how many pages are mapped, this one with them
abbrev pub mapped_with : PageMapView → PageNo → ℕ
mapped_with places page = mapped_count places + (if is_mapped places page then 0 else 1)

-- how many pages may be mapped: all of all blocks but one, less one
abbrev pub page_capacity : World → ℕ
page_capacity w = (length w.table.blocks - 1) * w.gc.per_block - 1

-- every page may be mapped
abbrev pub HasRoomForAll : World → Type 0
HasRoomForAll w = length w.places.pages ≤ page_capacity w
