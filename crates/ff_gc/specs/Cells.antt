-- What holds of the cells and of the page map always, also after a power cut.
use Rattle.std.specs.Prelude.{ℕ, ◌+◌, ◌/◌, ◌<◌, ◌≤◌, ◌≡◌, ◌≢◌, ◌⊎◌, List, length, Option, None, Some}
use Rattle.ff_base.specs.declared.numbers.PageNo.{PageNo}
use Rattle.ff_base.specs.declared.numbers.TheConstants.{PAGE_BYTES}
use Rattle.ff_flash.specs.Cells.{Cell, sealed, cell_at, cell_bytes}
use Rattle.ff_flash.specs.declared.spare.Spare.{Spare}
use Rattle.ff_map.specs.PageMap.{PageMapView, mapping_of}
use Rattle.ff_map.specs.declared.places.Mapping.{Mapping}

-- equal versions of a page have equal bytes, a page's worth. Pages are in range, and versions are those of operations
-- that were made
pub record AreSealed (pages operations : ℕ) (cells : List Cell) : Type 0 where
  pub same : (a b : ℕ) (x y : List ℕ) (spare : Spare)
      → cell_at cells a ≡ sealed x spare → cell_at cells b ≡ sealed y spare → x ≡ y
  pub page : (a : ℕ) (x : List ℕ) (spare : Spare)
      → cell_at cells a ≡ sealed x spare → spare.page.0 < pages
  pub least : (a : ℕ) (x : List ℕ) (spare : Spare)
      → cell_at cells a ≡ sealed x spare → 1 ≤ spare.version
  pub most : (a : ℕ) (x : List ℕ) (spare : Spare)
      → cell_at cells a ≡ sealed x spare → spare.version ≤ operations
  pub full : (a : ℕ) (x : List ℕ) (spare : Spare)
      → cell_at cells a ≡ sealed x spare → length x ≡ PAGE_BYTES

-- a page and its spare, programmed at a place, which the map may not know yet
pub record Unmapped : Type 0 where
  pub at : ℕ
  pub spare : Spare

-- the sealed page is this one, at its own place
abbrev pub IsUnmapped : Option Unmapped → ℕ → Spare → Type 0
IsUnmapped None at spare = ⊥
IsUnmapped (Some one) at spare = (at ≡ one.at) × (spare ≡ one.spare)

-- the page of a spare is mapped, and its mapping is not older
pub record HasNewer (places : PageMapView) (spare : Spare) : Type 0 where
  pub mapping : Mapping
  pub is : mapping_of places spare.page ≡ Some mapping
  pub newer : spare.version ≤ mapping.version

-- the map against the cells: a mapped page is at a sealed cell of its page and version, and each sealed page is mapped,
-- to a version that isn't older, or is the one that the map may not know
pub record AreMapped (unmapped : Option Unmapped) (cells : List Cell) (places : PageMapView)
    : Type 0 where
  pub placed : (page : PageNo) (m : Mapping) → mapping_of places page ≡ Some m
      → cell_at cells m.at.0
      ≡ sealed (cell_bytes (cell_at cells m.at.0)) (record { page = page; version = m.version })
  pub known : (a : ℕ) (x : List ℕ) (spare : Spare) → cell_at cells a ≡ sealed x spare
      → HasNewer places spare ⊎ IsUnmapped unmapped a spare
  pub next : (a : ℕ) (x : List ℕ) (spare : Spare) → cell_at cells a ≡ sealed x spare
      → spare.version < places.next_version

-- no page is mapped in the block
abbrev pub HasNoPage : ℕ → PageMapView → ℕ → Type 0
HasNoPage per_block places block = (page : PageNo) (m : Mapping) → mapping_of places page ≡ Some m
    → m.at.0 / per_block ≢ block

-- a block in which no page is mapped, so that it may be erased
pub record HasSpare (blocks per_block : ℕ) (places : PageMapView) : Type 0 where
  pub block : ℕ
  pub in_range : block < blocks
  pub unmapped : HasNoPage per_block places block

-- what holds always
pub record IsSafe (unmapped : Option Unmapped) (blocks per_block operations : ℕ)
    (cells : List Cell) (places : PageMapView) : Type 0 where
  pub sealed_cells : AreSealed (length places.pages) operations cells
  pub mapped : AreMapped unmapped cells places
  pub first : 1 ≤ places.next_version
  pub drawn : places.next_version ≤ operations + 1
  pub spare : HasSpare blocks per_block places

-- another block has a sealed page of the same logical page that is not older
pub record IsBacked (per_block : ℕ) (cells : List Cell) (block : ℕ) (spare : Spare) : Type 0 where
  pub at : ℕ
  pub bytes : List ℕ
  pub other : Spare
  pub is : cell_at cells at ≡ sealed bytes other
  pub elsewhere : at / per_block ≢ block
  pub page : other.page ≡ spare.page
  pub newer : spare.version ≤ other.version

-- every sealed page of the block is backed, so that nothing is lost with the block
abbrev pub IsCovered : ℕ → List Cell → ℕ → Type 0
IsCovered per_block cells block = (a : ℕ) (x : List ℕ) (spare : Spare)
    → cell_at cells a ≡ sealed x spare → a / per_block ≡ block
    → IsBacked per_block cells block spare

-- a covered block
pub record HasCovered (blocks per_block : ℕ) (cells : List Cell) : Type 0 where
  pub block : ℕ
  pub in_range : block < blocks
  pub covered : IsCovered per_block cells block
