-- The newest sealed version of a logical page, over all cells: what a mount finds of it.
use Rattle.std.specs.Prelude.{ℕ, ◌==◌, if◌then◌else◌, nat_lt, List, [], ◌∷◌, Option, None, Some, is_some, count_by}
use Rattle.std.specs.List.{range_with_len}
use Rattle.ff_base.specs.Page.{blank_page}
use Rattle.ff_base.specs.declared.numbers.PageNo.{PageNo}
use Rattle.ff_flash.specs.Cells.{Cell, erased, spoiled, closed, sealed, cell_at, cell_bytes}
use Rattle.ff_map.specs.declared.places.Mapping.{Mapping}

-- a version of a page, and its bytes
pub record Version : Type 0 where
  pub number : ℕ
  pub bytes : List ℕ

-- what a cell holds sealed of a page
abbrev pub sealed_as : PageNo → Cell → Option Version
sealed_as page (sealed bytes spare) =
    if spare.page.0 == page.0 then Some (record { number = spare.version; bytes = bytes }) else None
sealed_as page erased = None
sealed_as page spoiled = None
sealed_as page (closed bytes spare) = None

-- the newer of two, and the first of two that are as new
abbrev pub newer : Option Version → Option Version → Option Version
newer None other = other
newer (Some one) None = Some one
newer (Some one) (Some other) = if nat_lt one.number other.number then Some other else Some one

-- the newest version of a page
abbrev pub best : List Cell → PageNo → Option Version
best [] page = None
best (cell ∷ later) page = newer (sealed_as page cell) (best later page)

-- its bytes, or zeros
abbrev pub bytes_or_zeros : Option Version → List ℕ
bytes_or_zeros None = blank_page
bytes_or_zeros (Some one) = one.bytes

-- the version of a mapped page
abbrev pub mapped_version : List Cell → Option Mapping → Option Version
mapped_version cells None = None
mapped_version cells (Some m) =
    Some (record { number = m.version; bytes = cell_bytes (cell_at cells m.at.0) })

-- how many of so many logical pages are sealed somewhere
abbrev pub sealed_count : ℕ → List Cell → ℕ
sealed_count pages cells =
    count_by (λ page. is_some (best cells (record { 0 = page }))) (range_with_len 0 pages)
