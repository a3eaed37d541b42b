-- A device over a mounted store and cache has nothing in flight, and reads as the image of them.
use Rattle.std.specs.Prelude.{◌||◌, is_some, option_map}
use Rattle.std.proofs.Common.{◌≡◌, ◌<◌, ◌-◌, ◌*◌, ℕ, Bool, true, false, List, [], length, Option, Some, None, refl, sym, ap, ap₂, subst, ◌∙◌, arith}
use Rattle.ff_base.specs.Geometry.{IsWithinLimits, capacity_of}
use Rattle.ff_base.specs.declared.geometry.Geometry.{Geometry}
use Rattle.ff_base.specs.declared.numbers.PageNo.{PageNo}
use Rattle.ff_cache.specs.Cache.{CacheView, IsCacheSound}
use Rattle.ff_cache.specs.Nv.{NvWay, way_of, ways_of}
use Rattle.ff_cache.specs.Slots.{held}
use Rattle.ff_cache.specs.declared.slot.CacheSlot.{CacheSlot}
use Rattle.ff_device.specs.Device.{DeviceView, parts_of}
use Rattle.ff_device.specs.Parts.{CanBegin, Parts, bytes_over, is_written, page_below, slot_passes}
use Rattle.ff_device.specs.StoreState.{bytes_at, flush_at, seen_of, stored_bytes, stored_in}
use Rattle.ff_device.proofs.SeenPages.{length-pages, seen_bytes, store_seen, stored_at}
use Rattle.ff_flash.specs.Cells.{Cell}
use Rattle.ff_lines.proofs.PageCounts.{count_below-same}
use Rattle.ff_map.specs.PageMap.{IsPageMapSound, mapping_of}
use Rattle.ff_map.specs.declared.places.Mapping.{Mapping}
use Rattle.ff_mount.proofs.Pages.{way_of_slot}
use Rattle.ff_mount.proofs.Sounding.{held_over}
use Rattle.ff_mount.specs.Held.{held_bytes, is_dirty_way, is_held, way_of_page}
use Rattle.ff_mount.specs.Over.{IsCacheOver, is_dirty_slot, is_mapped_or_dirty, slot_bytes}
use Rattle.ff_store.proofs.Mounting.{best_mapped}
use Rattle.ff_store.specs.PageStore.{IsStoreSound, PageStoreView}
use Rattle.ff_store.specs.Pages.{is_mapped, page_capacity}
use Rattle.ff_store.specs.Recoverable.{IsRecoverable}
use Rattle.ff_store.specs.declared.pending.Pending.{Pending}
use Rattle.ff_window.specs.Window.{WindowView}
use Rattle.ff_core.specs.Resume.{resumed_device}

-- what every store and every cache keep
pub record AreParts (store : PageStoreView) (cache : CacheView) : Type 0 where
  pub store_sound : IsStoreSound store
  pub recoverable : IsRecoverable store
  pub cache_sound : IsCacheSound cache

abbrev parts_over : PageStoreView → CacheView → Geometry → Parts
parts_over store cache g = parts_of (resumed_device store cache g)

slot-below : (found : Option CacheSlot) (below bytes : List ℕ) → below ≡ bytes → bytes_over found below ≡ slot_bytes found bytes
slot-below None below bytes same = same
slot-below (Some slot) below bytes same = refl

-- what a page reads, by the cache and the store
pub read-below : (store : PageStoreView) (cache : CacheView) (g : Geometry) (page : ℕ) → AreParts store cache → IsCacheOver g store cache
    → page_below (parts_over store cache g) page ≡ held_bytes (ways_of cache.slots) store.world.flash.cells page
read-below store cache g page parts over =
    let number : PageNo = record { 0 = page } in
    slot-below (held cache.slots page) (stored_bytes (seen_of store) page) _ (seen_bytes store number)
    ∙ sym (held_over g store cache number parts.store_sound over)

dirty-passes : (found : Option CacheSlot) → slot_passes (λ slot. slot.dirty) found ≡ is_dirty_slot found
dirty-passes None = refl
dirty-passes (Some slot) = refl

bytes-some : (cells : List Cell) (m : Option Mapping) → is_some (bytes_at cells m) ≡ is_some m
bytes-some cells None = refl
bytes-some cells (Some m) = refl

either-way : (a b : Bool) → (a || (b || false)) ≡ (b || a)
either-way true true = refl
either-way true false = refl
either-way false true = refl
either-way false false = refl

-- a page is written on the device where it is mapped or dirty
pub written-over : (store : PageStoreView) (cache : CacheView) (g : Geometry) (page : ℕ)
    → is_written (parts_over store cache g) page ≡ is_mapped_or_dirty store cache page
written-over store cache g page =
    let number : PageNo = record { 0 = page } in
    let stored : is_some (stored_in (seen_of store) page) ≡ is_mapped store.world.places number =
    ap (λ (o : Option (List ℕ)). is_some o) (stored_at store page) ∙ bytes-some store.world.flash.cells (mapping_of store.world.places number) in
    ap₂ (λ (a b : Bool). a || (b || false)) stored (dirty-passes (held cache.slots page))
    ∙ either-way (is_mapped store.world.places number) (is_dirty_slot (held cache.slots page))

dirty-way : (slots : List CacheSlot) (page : ℕ) (found : Option CacheSlot) → held slots page ≡ found
    → is_dirty_way (way_of_page (ways_of slots) page) ≡ is_dirty_slot found
dirty-way slots page None is =
    ap (λ (way : Option NvWay). is_dirty_way way) (way_of_slot slots page ∙ ap (λ (o : Option CacheSlot). option_map way_of o) is)
dirty-way slots page (Some slot) is =
    ap (λ (way : Option NvWay). is_dirty_way way) (way_of_slot slots page ∙ ap (λ (o : Option CacheSlot). option_map way_of o) is)

-- a page is written where the battery or the flash holds it
pub written-held : (store : PageStoreView) (cache : CacheView) (page : ℕ) → IsStoreSound store → store.waits ≡ None
    → is_mapped_or_dirty store cache page ≡ is_held (ways_of cache.slots) store.world.flash.cells page
written-held store cache page sound none =
    ap₂ (λ (a b : Bool). a || b) (sym (dirty-way cache.slots page (held cache.slots page) refl))
    (best_mapped store (record { 0 = page }) sound.always none)

none-pending : (cells : List Cell) (waits : Option Pending) → waits ≡ None → flush_at cells waits ≡ None
none-pending cells waits none = ap (λ (o : Option Pending). flush_at cells o) none

found-within : (g : Geometry) (store : PageStoreView) (cache : CacheView) (page : ℕ) (found : Option CacheSlot) → IsCacheOver g store cache
    → held cache.slots page ≡ found → is_some found ≡ true → page < g.pages
found-within g store cache page None over is some = absurd (cc)
found-within g store cache page (Some slot) over is some = over.page page slot is

sized : (g : Geometry) (store : PageStoreView) (cache : CacheView) (page : ℕ) (found : Option CacheSlot) → IsCacheOver g store cache
    → held cache.slots page ≡ found → (below : List ℕ) → length below ≡ 4096 → length (bytes_over found below) ≡ 4096
sized g store cache page None over is below full = full
sized g store cache page (Some slot) over is below full = over.full page slot is

pub pages-over : (g : Geometry) (store : PageStoreView) (cache : CacheView) → IsCacheOver g store cache
    → length (seen_of store).pages ≡ g.pages
pages-over g store cache over = length-pages store ∙ over.page_count

pub room-over : (g : Geometry) (store : PageStoreView) (cache : CacheView) → IsCacheOver g store cache
    → page_capacity store.world ≡ capacity_of g
room-over g store cache over = ap₂ (λ (blocks per_block : ℕ). (blocks - 1) * per_block - 1) over.blocks over.per_block

begun : (g : Geometry) (store : PageStoreView) (cache : CacheView) → IsWithinLimits g → IsStoreSound store
    → IsPageMapSound store.world.places → IsCacheOver g store cache → store.waits ≡ None → CanBegin (parts_over store cache g)
begun g store cache limits sound map_sound over none =
    let seen = store_seen store sound map_sound in
    let pages = pages-over g store cache over in
    let room = room-over g store cache over in
    record {
      pages = λ page resident. rw pages (found-within g store cache page (held cache.slots page) over refl resident);
      size = λ page. sized g store cache page (held cache.slots page) over refl (stored_bytes (seen_of store) page) (seen.size page);
      clean = λ page slot is clean.
          let number : PageNo = record { 0 = page } in
          over.clean number slot is clean ∙ sym (seen_bytes store number);
      idle = none-pending store.world.flash.cells store.waits none;
      empty = refl;
      room = (let same = count_below-same (is_mapped_or_dirty store cache) (is_written (parts_over store cache g)) g.pages
          (λ page. written-over store cache g page) in
          let few = over.few in
          rw (pages, room) (omega arith));
      window = (let low = limits.window.low in omega arith);
    }

-- its parts may begin
pub resumed_begins : (g : Geometry) (store : PageStoreView) (cache : CacheView) (window : WindowView) → IsWithinLimits g
    → IsStoreSound store → IsPageMapSound store.world.places → IsCacheOver g store cache → store.waits ≡ None → window ≡ record { posts = []; room = g.window }
    → CanBegin (parts_of (record { store = store; cache = cache; window = window }))
resumed_begins g store cache window limits sound map_sound over none is =
    let device : WindowView → DeviceView = λ w. record { store = store; cache = cache; window = w } in
    subst (λ (w : WindowView). CanBegin (parts_of (device w))) (sym is) (begun g store cache limits sound map_sound over none)
