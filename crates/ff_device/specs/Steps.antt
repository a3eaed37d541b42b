-- How many steps of work a page may still take until it is resident.
use Rattle.std.specs.Prelude.{ℕ, suc, ◌+◌, ◌&&◌, ◌||◌, Bool, false, not, List, if◌then◌else◌, Option, None, Some}
use Rattle.std.specs.Option.{is_some}
use Rattle.ff_base.specs.declared.numbers.PageNo.{PageNo}
use Rattle.ff_cache.specs.Cache.{is_full_set, values_of, way_at}
use Rattle.ff_cache.specs.Slots.{holds}
use Rattle.ff_cache.specs.declared.slot.CacheSlot.{CacheSlot}
use Rattle.ff_lines.specs.Posts.{waits_in}
use Rattle.ff_lines.specs.declared.post.Post.{Post}
use Rattle.ff_device.specs.Chosen.{chosen}
use Rattle.ff_device.specs.Parts.{is_resident, Parts}
use Rattle.ff_device.specs.StoreState.{PendingFlush, StoreState}

-- a post to the slot's page waits
abbrev pub page_waits : List Post → Option PageNo → Bool
page_waits posts None = false
page_waits posts (Some page) = waits_in posts page.0

-- the slot may give way: it isn't pinned, and no post to its page waits
abbrev pub may_go : List Post → CacheSlot → Bool
may_go posts slot = not slot.pinned && not (page_waits posts slot.page)

-- a way of the page's set may give way
abbrev pub may_go_at : Parts → ℕ → ℕ → Bool
may_go_at parts page way = may_go parts.window.posts (way_at parts.cache page way)

-- the way of the page's set that replacement would choose
abbrev pub chosen_way : Parts → ℕ → Option ℕ
chosen_way parts page = chosen (may_go_at parts page) (values_of parts.cache page)

-- the slot's page is the one whose flush is to be sealed
abbrev pub is_flushed : Option PendingFlush → CacheSlot → Bool
is_flushed None slot = false
is_flushed (Some flush) slot = holds slot flush.page

-- the slot is clean, or will be when the flush is sealed
abbrev pub soon_clean : Option PendingFlush → CacheSlot → Bool
soon_clean pending slot = not slot.dirty || (is_flushed pending slot && not slot.touched)

-- the steps of a flush that begins: those of the collector, the program and the seal. While another flush is to be
-- sealed, the collector's are counted as the most that they can be
abbrev pub flush_steps : StoreState → ℕ
flush_steps store = (if is_some store.pending then store.most_left else store.left) + 2

-- the steps before a page can be fetched in the place of a slot
abbrev pub steps_of_slot : StoreState → CacheSlot → ℕ
steps_of_slot store slot = if soon_clean store.pending slot then 0 else flush_steps store

-- the steps before the page can be fetched in the place of the way that gives way; where none may, the window is drained
-- first
abbrev pub steps_of_way : Parts → ℕ → Option ℕ → ℕ
steps_of_way parts page None = suc (flush_steps parts.store)
steps_of_way parts page (Some way) = steps_of_slot parts.store (way_at parts.cache page way)

-- the steps before the page can be fetched, where no flush is to be sealed
abbrev pub steps_of_set : Parts → ℕ → ℕ
steps_of_set parts page =
    if is_full_set parts.cache page then steps_of_way parts page (chosen_way parts page) else 0

-- the steps until the page is resident: 0 exactly where it is
abbrev pub steps_to : Parts → ℕ → ℕ
steps_to parts page =
    if is_resident parts page then 0
    else suc ((if is_some parts.store.pending then 1 else 0) + steps_of_set parts page)

-- the most that it can be
abbrev pub most_steps : StoreState → ℕ
most_steps store = store.most_left + 5
