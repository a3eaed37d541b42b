-- A device's parts, what they make of a page, and what they keep.
use Rattle.std.specs.Prelude.{ℕ, ◌<◌, ◌≤◌, ◌≡◌, ◌||◌, Bool, true, false, List, [], length, All, Option, None, Some}
use Rattle.std.specs.Option.{is_some}
use Rattle.ff_base.specs.declared.numbers.TheConstants.{PAGE_BYTES}
use Rattle.ff_cache.specs.Cache.{CacheView}
use Rattle.ff_cache.specs.Slots.{held}
use Rattle.ff_cache.specs.declared.slot.CacheSlot.{CacheSlot}
use Rattle.ff_lines.specs.BlankLine.{line_or_blank}
use Rattle.ff_lines.specs.PageSets.{count_below}
use Rattle.ff_lines.specs.Posts.{waits_in, IsPost}
use Rattle.ff_window.specs.Window.{WindowView}
use Rattle.ff_device.specs.StoreState.{PendingFlush, StoreState, is_stored, stored_bytes}

-- the store as it is seen, the cache and the window
pub record Parts : Type 0 where
  pub store : StoreState
  pub cache : CacheView
  pub window : WindowView

-- the sizes of the cache and of the window are as before
pub record SameShape (old new : Parts) : Type 0 where
  pub sets : new.cache.sets ≡ old.cache.sets
  pub ways : new.cache.ways ≡ old.cache.ways
  pub room : new.window.room ≡ old.window.room

-- the slot that holds a page
abbrev pub cached : Parts → ℕ → Option CacheSlot
cached parts page = held parts.cache.slots page

-- the bytes of a page: those of its slot, or else those of the store
abbrev pub bytes_over : Option CacheSlot → List ℕ → List ℕ
bytes_over None below = below
bytes_over (Some slot) below = slot.bytes

abbrev pub page_below : Parts → ℕ → List ℕ
page_below parts page = bytes_over (cached parts page) (stored_bytes parts.store page)

abbrev pub line_below : Parts → ℕ → ℕ → List ℕ
line_below parts page line = line_or_blank (page_below parts page) line

-- there is a slot, and it passes a test
abbrev pub slot_passes : (CacheSlot → Bool) → Option CacheSlot → Bool
slot_passes test None = false
slot_passes test (Some slot) = test slot

abbrev pub is_resident : Parts → ℕ → Bool
is_resident parts page = is_some (cached parts page)

abbrev pub is_pinned : Parts → ℕ → Bool
is_pinned parts page = slot_passes (λ slot. slot.pinned) (cached parts page)

abbrev pub is_dirty : Parts → ℕ → Bool
is_dirty parts page = slot_passes (λ slot. slot.dirty) (cached parts page)

-- the page is mapped, is cached dirty or has a waiting post
abbrev pub is_written : Parts → ℕ → Bool
is_written parts page =
    is_stored parts.store page || (is_dirty parts page || waits_in parts.window.posts page)

-- the flush that is to be sealed is of a dirty slot, which holds the programmed bytes unless it was touched since
pub record IsFlushing (parts : Parts) (flush : PendingFlush) : Type 0 where
  pub slot : CacheSlot
  pub held : cached parts flush.page ≡ Some slot
  pub dirty : slot.dirty ≡ true
  pub same : slot.touched ≡ false → slot.bytes ≡ flush.bytes

-- the parts of a device with nothing in flight
pub record CanBegin (parts : Parts) : Type 0 where
  pub pages : (page : ℕ) → is_resident parts page ≡ true → page < length parts.store.pages
  pub size : (page : ℕ) → length (page_below parts page) ≡ PAGE_BYTES
  pub clean : (page : ℕ) (slot : CacheSlot) → cached parts page ≡ Some slot → slot.dirty ≡ false
      → slot.bytes ≡ stored_bytes parts.store page
  pub idle : parts.store.pending ≡ None
  pub empty : parts.window.posts ≡ []
  pub room : count_below (is_written parts) (length parts.store.pages) ≤ parts.store.capacity
  pub window : 0 < parts.window.room

-- what a device keeps
pub record IsDeviceSound (parts : Parts) : Type 0 where
  pub pages : (page : ℕ) → is_resident parts page ≡ true → page < length parts.store.pages
  pub size : (page : ℕ) → length (page_below parts page) ≡ PAGE_BYTES
  pub clean : (page : ℕ) (slot : CacheSlot) → cached parts page ≡ Some slot → slot.dirty ≡ false
      → slot.bytes ≡ stored_bytes parts.store page
  pub flushing : (flush : PendingFlush) → parts.store.pending ≡ Some flush → IsFlushing parts flush
  pub posts : All IsPost parts.window.posts
  pub waiting : (page : ℕ) → waits_in parts.window.posts page ≡ true → is_resident parts page ≡ true
  pub room : count_below (is_written parts) (length parts.store.pages) ≤ parts.store.capacity
  pub window : 0 < parts.window.room
