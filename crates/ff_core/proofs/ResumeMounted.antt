-- Over which mounted parts a session may begin.
use Rattle.std.proofs.Common.{◌≡◌, ◌≤◌, ◌+◌, ◌^◌, ℕ, Bool, true, false, cond, List, [], ◌∷◌, length, Option, Some, sym, ap, ◌∙◌}
use Rattle.std.proofs.lemmas.Option.{none-some, same_Some}
use Rattle.ff_base.specs.Count.{last_event}
use Rattle.ff_base.specs.declared.geometry.Geometry.{Geometry}
use Rattle.ff_cache.specs.Cache.{CacheView}
use Rattle.ff_cache.specs.Nv.{IsFromNv, NvWay, slot_of, slots_of}
use Rattle.ff_cache.specs.Slots.{held, holds}
use Rattle.ff_cache.specs.declared.slot.CacheSlot.{CacheSlot}
use Rattle.ff_mount.specs.Over.{IsCacheOver}
use Rattle.ff_mount.specs.Reading.{after_reads}
use Rattle.ff_store.specs.PageStore.{PageStoreView}
use Rattle.ff_store.specs.Remounted.{IsRemounted}
use Rattle.ff_core.specs.Resume.{CanResume, IsUnpinned}

unpinned-first : (first : Bool) (way : NvWay) (rest : Option CacheSlot) (slot : CacheSlot)
    → ((found : CacheSlot) → rest ≡ Some found → found.pinned ≡ false)
    → cond first (Some (slot_of way)) rest ≡ Some slot → slot.pinned ≡ false
unpinned-first true way rest slot later is = ap (λ (s : CacheSlot). s.pinned) (sym (same_Some (slot_of way) slot is))
unpinned-first false way rest slot later is = later slot is

unpinned-ways : (ways : List NvWay) (page : ℕ) (slot : CacheSlot) → held (slots_of ways) page ≡ Some slot → slot.pinned ≡ false
unpinned-ways [] page slot is = absurd (none-some slot is)
unpinned-ways (way ∷ later) page slot is =
    unpinned-first (holds (slot_of way) page) way (held (slots_of later) page) slot (unpinned-ways later page) is

-- the cache of what the battery kept has no pinned slot
pub mounted_unpinned : (sets ways : ℕ) (kept : List NvWay) (cache : CacheView) → IsFromNv sets ways kept cache → IsUnpinned cache
mounted_unpinned sets ways kept cache from page slot is =
    unpinned-ways kept page slot (ap (λ (slots : List CacheSlot). held slots page) (sym from.slots) ∙ is)

-- a session may begin over what a mount makes
pub resume_mounted : (g : Geometry) (s : PageStoreView) (cache : CacheView) (kept : List NvWay) (marks : List ℕ) (event : ℕ)
    → IsRemounted g s → IsFromNv g.sets g.ways kept cache → IsCacheOver g s cache → length marks ≡ g.pages
    → s.world.flash.on ≡ true → s.world.flash.operations ≤ 2 ^ 62 + event → event ≤ last_event → CanResume g s cache marks event
resume_mounted g s cache kept marks event is from over marked on life not_past = record {
  over = over;
  none = ap (λ (x : PageStoreView). x.waits) is.store;
  unpinned = mounted_unpinned g.sets g.ways kept cache from;
  marked = marked;
  on = on;
  life = life;
  not_past = not_past;
}

over-read : (g : Geometry) (s : PageStoreView) (cache : CacheView) (n : ℕ) → IsCacheOver g s cache
    → IsCacheOver g (after_reads s n) cache
over-read g s cache n over = record {
  blocks = over.blocks;
  per_block = over.per_block;
  page_count = over.page_count;
  sets = over.sets;
  ways = over.ways;
  page = over.page;
  full = over.full;
  clean = over.clean;
  waiting = over.waiting;
  few = over.few;
}

-- a session may also begin after the reads of an image, and at a later event number
pub resume_read : (g : Geometry) (s : PageStoreView) (cache : CacheView) (marks : List ℕ) (from event n : ℕ)
    → CanResume g s cache marks from → s.world.flash.operations + n ≤ 2 ^ 62 + event → event ≤ last_event
    → CanResume g (after_reads s n) cache marks event
resume_read g s cache marks from event n can life not_past = record {
  over = over-read g s cache n can.over;
  none = can.none;
  unpinned = can.unpinned;
  marked = can.marked;
  on = can.on;
  life = life;
  not_past = not_past;
}
