-- How many pages are mapped in a block.
use Rattle.std.specs.Prelude.{ℕ, ◌/◌, ◌==◌, Bool, false, count_by, Option, None, Some}
use Rattle.ff_map.specs.PageMap.{PageMapView}
use Rattle.ff_map.specs.declared.places.Mapping.{Mapping}

-- a mapping lies in the block
abbrev pub is_in : ℕ → ℕ → Option Mapping → Bool
is_in per_block block None = false
is_in per_block block (Some m) = m.at.0 / per_block == block

-- how many pages are mapped in the block
abbrev pub mapped_in : ℕ → PageMapView → ℕ → ℕ
mapped_in per_block places block = count_by (λ m. is_in per_block block m) places.pages
