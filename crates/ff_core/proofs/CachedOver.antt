-- The cache of a device that lost its power, over its store: of one geometry, and what a page reads.
use Rattle.std.proofs.Common.{◌≡◌, ◌-◌, ◌*◌, ◌<◌, ◌≤◌, ℕ, Bool, true, false, List, length, Option, Some, None, refl, sym, ap, subst, ◌∙◌, arith}
use Rattle.std.specs.Prelude.{◌||◌, is_some}
use Rattle.std.proofs.Math.Nat.{le_of_mul-le-mul_right, mul-le-mul}
use Rattle.ff_base.specs.Geometry.{capacity_of}
use Rattle.ff_base.specs.declared.geometry.Geometry.{Geometry}
use Rattle.ff_base.specs.declared.numbers.PageNo.{PageNo}
use Rattle.ff_cache.specs.Slots.{held}
use Rattle.ff_cache.specs.declared.slot.CacheSlot.{CacheSlot}
use Rattle.ff_device.proofs.SeenPages.{length-pages, seen_bytes, stored_at}
use Rattle.ff_device.specs.Device.{DeviceView, parts_of}
use Rattle.ff_device.specs.Parts.{IsDeviceSound, bytes_over, is_written as is_written_part, line_below, slot_passes}
use Rattle.ff_device.specs.StoreState.{bytes_at, flush_at, seen_of, stored_bytes}
use Rattle.ff_device.specs.declared.device.DeviceOwn.{DeviceOwn}
use Rattle.ff_flash.specs.Cells.{Cell}
use Rattle.ff_gc.specs.World.{page_bytes}
use Rattle.ff_lines.proofs.PageCounts.{count_below-part}
use Rattle.ff_lines.specs.BlankLine.{line_or_blank}
use Rattle.ff_lines.specs.PageSets.{count_below}
use Rattle.ff_lines.specs.Posts.{waits_in}
use Rattle.ff_map.specs.PageMap.{mapping_of}
use Rattle.ff_map.specs.declared.places.Mapping.{Mapping}
use Rattle.ff_mount.proofs.Sounding.{held_over}
use Rattle.ff_mount.specs.Held.{held_bytes}
use Rattle.ff_mount.specs.Over.{HasDirtySlot, IsCacheOver, is_dirty_slot, is_mapped_or_dirty, slot_bytes}
use Rattle.ff_cache.specs.Nv.{ways_of}
use Rattle.ff_store.specs.PageStore.{PageStoreView}
use Rattle.ff_store.specs.Pages.{page_capacity}
use Rattle.ff_store.specs.declared.pending.Pending.{Pending}
use Rattle.ff_core.specs.Core.{CoreView}
use Rattle.ff_core.specs.CoreSound.{IsCoreSound}
use Rattle.ff_core.specs.Losing.{IsPoweredDown}

-- as many blocks as the capacity is of
blocks_by : (blocks wanted per_block : ℕ) → 3 ≤ wanted → 2 ≤ per_block
    → (blocks - 1) * per_block - 1 ≡ (wanted - 1) * per_block - 1 → blocks ≡ wanted
blocks_by blocks wanted per_block some each same =
    let low : 2 * 2 ≤ (wanted - 1) * per_block = mul-le-mul {n₁ = 2} {m₁ = 2} {n₂ = wanted - 1} {m₂ = per_block} (omega arith) each in
    let most : (blocks - 1) * per_block ≤ (wanted - 1) * per_block = omega (arith, low, same) in
    let least : (wanted - 1) * per_block ≤ (blocks - 1) * per_block = omega (arith, low, same) in
    let up : blocks - 1 ≤ wanted - 1 = le_of_mul-le-mul_right most (omega arith) in
    let down : wanted - 1 ≤ blocks - 1 = le_of_mul-le-mul_right least (omega arith) in
    omega (arith, up, down)

-- the bytes of a slot, or else those below it
slot_over : (found : Option CacheSlot) (below : List ℕ) → slot_bytes found below ≡ bytes_over found below
slot_over None below = refl
slot_over (Some slot) below = refl

-- a line of what a page reads is the device's below its posts
pub left_lines : (g : Geometry) (arrive : ℕ) (old d : DeviceView) (page line : ℕ) → IsPoweredDown arrive old d
    → IsCacheOver g d.store d.cache
    → line_or_blank (held_bytes (ways_of d.cache.slots) d.store.world.flash.cells page) line ≡ line_below (parts_of d) page line
left_lines g arrive old d page line down over =
    let number : PageNo = record { 0 = page } in
    ap (λ (bytes : List ℕ). line_or_blank bytes line)
    (held_over g d.store d.cache number down.store over
    ∙ slot_over (held d.cache.slots page) (page_bytes d.store.world number)
    ∙ ap (λ (bytes : List ℕ). bytes_over (held d.cache.slots page) bytes) (sym (seen_bytes d.store number)))

dirty_by : (dirty waits : Bool) → (dirty || false) ≡ true → (dirty || waits) ≡ true
dirty_by true waits is = refl
dirty_by false waits is = absurd (cc)

-- a page that is mapped or has a dirty slot counts as written
written_by : (cells : List Cell) (found : Option CacheSlot) (m : Option Mapping) (waits : Bool)
    → (is_dirty_slot found || is_some m) ≡ true
    → (is_some (bytes_at cells m) || (slot_passes (λ slot. slot.dirty) found || waits)) ≡ true
written_by cells found (Some m) waits is = refl
written_by cells None None waits is = absurd (cc)
written_by cells (Some slot) None waits is = dirty_by slot.dirty waits is

written_over : (d : DeviceView) (page : ℕ) → is_mapped_or_dirty d.store d.cache page ≡ true → is_written_part (parts_of d) page ≡ true
written_over d page is =
    let number : PageNo = record { 0 = page } in
    let waits = waits_in d.window.posts page in
    let dirty = slot_passes (λ slot. slot.dirty) (held d.cache.slots page) in
    ap (λ (found : Option (List ℕ)). is_some found || (dirty || waits)) (stored_at d.store page)
    ∙ written_by d.store.world.flash.cells (held d.cache.slots page) (mapping_of d.store.world.places number) waits is

slot_resident : (found : Option CacheSlot) (slot : CacheSlot) → found ≡ Some slot → is_some found ≡ true
slot_resident None slot is = absurd (cc)
slot_resident (Some found) slot is = refl

-- the page that is to be sealed has a dirty slot
dirty_waiting : (d : DeviceView) (p : Pending) → IsDeviceSound (parts_of d) → d.store.waits ≡ Some p → HasDirtySlot d.cache p.page.0
dirty_waiting d p sound waits =
    let flush = sound.flushing _ (ap (λ (o : Option Pending). flush_at d.store.world.flash.cells o) waits) in
    record { slot = flush.slot; is = flush.held; dirty = flush.dirty }

-- the sizes of a core's store
record IsStoreOf (g : Geometry) (s : PageStoreView) : Type 0 where
  blocks : length s.world.table.blocks ≡ g.blocks
  per_block : s.world.gc.per_block ≡ g.per_block
  pages : length s.world.places.pages ≡ g.pages
  room : page_capacity s.world ≡ capacity_of g

store_of_core : {T E : Type 0} (core : CoreView T E) → IsCoreSound core → IsStoreOf core.geometry core.hierarchy.device.store
store_of_core core sound =
    let g = core.geometry in
    let s = core.hierarchy.device.store in
    let sized = sound.sized in
    let steps = sized.steps in
    let per_block : s.world.gc.per_block ≡ g.per_block = omega (arith, steps) in
    let accounts = sound.told.located.accounts in
    let room : page_capacity s.world ≡ capacity_of g = accounts.room ∙ sound.told.capacity ∙ sized.capacity in
    record {
      blocks = blocks_by (length s.world.table.blocks) g.blocks g.per_block sized.limits.blocks.low sized.limits.per_block.low
          (subst (λ n. (length s.world.table.blocks - 1) * n - 1 ≡ capacity_of g) per_block room);
      per_block = per_block;
      pages = sym (length-pages s) ∙ accounts.pages ∙ sound.told.pages ∙ sized.pages;
      room = room;
    }

-- a device that lost its power is a cache over a store
pub cache_over : {T E : Type 0} (core : CoreView T E) (arrive : ℕ) (d : DeviceView) → IsCoreSound core
    → IsPoweredDown arrive core.hierarchy.device d → IsCacheOver core.geometry d.store d.cache
cache_over core arrive d sound down =
    let g = core.geometry in
    let sizes = store_of_core core sound in
    let own = down.own in
    let pages : length d.store.world.places.pages ≡ g.pages =
    ap (λ (o : DeviceOwn PageStoreView). length o.store.world.places.pages) own ∙ sizes.pages in
    let room : page_capacity d.store.world ≡ capacity_of g =
    ap (λ (o : DeviceOwn PageStoreView). page_capacity o.store.world) own ∙ sizes.room in
    let seen = length-pages d.store ∙ pages in
    record {
      blocks = ap (λ (o : DeviceOwn PageStoreView). length o.store.world.table.blocks) own ∙ sizes.blocks;
      per_block = ap (λ (o : DeviceOwn PageStoreView). o.store.world.gc.per_block) own ∙ sizes.per_block;
      page_count = pages;
      sets = ap (λ (o : DeviceOwn PageStoreView). o.sets) own ∙ sound.sized.sets;
      ways = ap (λ (o : DeviceOwn PageStoreView). o.ways) own ∙ sound.sized.ways;
      page = λ page slot is.
          let within = down.device.pages page (slot_resident (held d.cache.slots page) slot is) in
          subst (λ n. page < n) seen within;
      full = λ page slot is.
          subst (λ (found : Option CacheSlot). length (bytes_over found (stored_bytes (seen_of d.store) page)) ≡ 4096) is
          (down.device.size page);
      clean = λ page slot is clean. down.device.clean page.0 slot is clean ∙ seen_bytes d.store page;
      waiting = λ p waits. dirty_waiting d p down.device waits;
      few =
          let part = count_below-part (is_mapped_or_dirty d.store d.cache) (is_written_part (parts_of d)) g.pages (written_over d) in
          let all : count_below (is_written_part (parts_of d)) g.pages ≤ page_capacity d.store.world =
          subst (λ n. count_below (is_written_part (parts_of d)) n ≤ page_capacity d.store.world) seen down.device.room in
          omega (arith, part, all, room);
    }
