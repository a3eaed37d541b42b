-- The page store as a device sees it: bytes by page, and the flush that is to be sealed.
use Rattle.std.specs.Prelude.{ℕ, ◌+◌, ◌*◌, ◌<◌, ◌≤◌, ◌≡◌, ◌^◌, Bool, List, length, map, Option, None, Some, option_map, slice_index_or, unwrap_or}
use Rattle.std.specs.Option.{is_some}
use Rattle.ff_base.specs.declared.numbers.TheConstants.{PAGE_BYTES}
use Rattle.ff_base.specs.Page.{blank_page}
use Rattle.ff_flash.specs.Cells.{Cell, cell_at, cell_bytes}
use Rattle.ff_map.specs.declared.places.Mapping.{Mapping}
use Rattle.ff_store.specs.Left.{left_of}
use Rattle.ff_store.specs.PageStore.{PageStoreView}
use Rattle.ff_store.specs.Pages.{page_capacity}
use Rattle.ff_store.specs.declared.pending.Pending.{Pending}

-- a page whose bytes are programmed and not yet sealed
pub record PendingFlush : Type 0 where
  pub page : ℕ
  pub bytes : List ℕ

pub record StoreState : Type 0 where
  -- the bytes of each page that is mapped
  pub pages : List (Option (List ℕ))
  -- the flush that is to be sealed
  pub pending : Option PendingFlush
  -- how many collection steps a flush may have to make before its program
  pub left : ℕ
  -- the most that these can be
  pub most_left : ℕ
  -- how many pages may be mapped
  pub capacity : ℕ
  -- the power is on
  pub on : Bool
  -- how many operations were begun
  pub used : ℕ
  -- how many operations failed
  pub faults : ℕ

-- the bytes of a page by its mapping, where it has one
abbrev pub bytes_at : List Cell → Option Mapping → Option (List ℕ)
bytes_at cells m = option_map (λ x. cell_bytes (cell_at cells x.at.0)) m

-- the flush that waits, with its programmed bytes
abbrev pub flush_at : List Cell → Option Pending → Option PendingFlush
flush_at cells waits =
    option_map (λ p. record { page = p.page.0; bytes = cell_bytes (cell_at cells p.at.0) }) waits

abbrev pub seen_of : PageStoreView → StoreState
seen_of s = record {
  pages = map (λ m. bytes_at s.world.flash.cells m) s.world.places.pages;
  pending = flush_at s.world.flash.cells s.waits;
  left = left_of s.world;
  most_left = 6 * s.world.gc.per_block + 5;
  capacity = page_capacity s.world;
  on = s.world.flash.on;
  used = s.world.flash.operations;
  faults = s.world.flash.faults;
}

-- the bytes of a page, where it is mapped
abbrev pub stored_in : StoreState → ℕ → Option (List ℕ)
stored_in store page = slice_index_or store.pages page None

abbrev pub is_stored : StoreState → ℕ → Bool
is_stored store page = is_some (stored_in store page)

-- the bytes of a page, zeros where it isn't mapped
abbrev pub stored_bytes : StoreState → ℕ → List ℕ
stored_bytes store page = unwrap_or (stored_in store page) blank_page

-- what every store keeps
pub record IsStoreStateSound (store : StoreState) : Type 0 where
  pub few : store.left ≤ store.most_left
  pub pages : length store.pages < 2 ^ 32
  pub pending : (flush : PendingFlush) → store.pending ≡ Some flush
      → flush.page < length store.pages
  pub size : (page : ℕ) → length (stored_bytes store page) ≡ PAGE_BYTES
