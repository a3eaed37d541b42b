-- A cache over a store.
use Rattle.std.specs.Prelude.{ℕ, ◌||◌, ◌<◌, ◌≤◌, ◌≡◌, Bool, true, false, List, length, Option, None, Some}
use Rattle.ff_base.specs.Geometry.{capacity_of}
use Rattle.ff_base.specs.declared.geometry.Geometry.{Geometry}
use Rattle.ff_base.specs.declared.numbers.PageNo.{PageNo}
use Rattle.ff_base.specs.declared.numbers.TheConstants.{PAGE_BYTES}
use Rattle.ff_cache.specs.Cache.{CacheView}
use Rattle.ff_cache.specs.Slots.{held}
use Rattle.ff_cache.specs.declared.slot.CacheSlot.{CacheSlot}
use Rattle.ff_gc.specs.World.{page_bytes}
use Rattle.ff_lines.specs.PageSets.{count_below}
use Rattle.ff_store.specs.PageStore.{PageStoreView}
use Rattle.ff_store.specs.Pages.{is_mapped}
use Rattle.ff_store.specs.declared.pending.Pending.{Pending}

-- the bytes of a slot, or else those below it
abbrev pub slot_bytes : Option CacheSlot → List ℕ → List ℕ
slot_bytes None below = below
slot_bytes (Some slot) below = slot.bytes

abbrev pub is_dirty_slot : Option CacheSlot → Bool
is_dirty_slot None = false
is_dirty_slot (Some slot) = slot.dirty

-- the page is mapped or has a dirty slot
abbrev pub is_mapped_or_dirty : PageStoreView → CacheView → ℕ → Bool
is_mapped_or_dirty s cache page =
    is_dirty_slot (held cache.slots page) || is_mapped s.world.places (record { 0 = page })

-- a dirty slot holds the page
pub record HasDirtySlot (cache : CacheView) (page : ℕ) : Type 0 where
  pub slot : CacheSlot
  pub is : held cache.slots page ≡ Some slot
  pub dirty : slot.dirty ≡ true

-- a cache over a store, both of this geometry: a clean slot holds what the store has of its page, the page that is to
-- be sealed is dirty, and no more pages are written than fit
pub record IsCacheOver (geometry : Geometry) (s : PageStoreView) (cache : CacheView) : Type 0 where
  pub blocks : length s.world.table.blocks ≡ geometry.blocks
  pub per_block : s.world.gc.per_block ≡ geometry.per_block
  pub page_count : length s.world.places.pages ≡ geometry.pages
  pub sets : cache.sets ≡ geometry.sets
  pub ways : cache.ways ≡ geometry.ways
  pub page : (page : ℕ) (slot : CacheSlot) → held cache.slots page ≡ Some slot → page < geometry.pages
  pub full : (page : ℕ) (slot : CacheSlot) → held cache.slots page ≡ Some slot
      → length slot.bytes ≡ PAGE_BYTES
  pub clean : (page : PageNo) (slot : CacheSlot) → held cache.slots page.0 ≡ Some slot
      → slot.dirty ≡ false → slot.bytes ≡ page_bytes s.world page
  pub waiting : (p : Pending) → s.waits ≡ Some p → HasDirtySlot cache p.page.0
  pub few : count_below (is_mapped_or_dirty s cache) geometry.pages ≤ capacity_of geometry
