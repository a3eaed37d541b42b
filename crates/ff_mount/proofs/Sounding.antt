-- What a cache over a store leaves at a power loss is sound, and a page reads then as it does by the cache and the store.
use Rattle.std.proofs.Common.{◌≡◌, ◌≢◌, ◌≤◌, ℕ, Bool, true, false, List, length, Option, None, Some, refl, sym, ap, subst, ◌∙◌, arith}
use Rattle.std.specs.Prelude.{◌||◌, is_some, option_map}
use Rattle.std.proofs.Math.ListN.{get_or-map as get_or-map_all}
use Rattle.std.proofs.lemmas.List.{length-map}
use Rattle.std.proofs.lemmas.Option.{none-some, same_Some}
use Rattle.ff_base.specs.Geometry.{capacity_of}
use Rattle.ff_base.specs.declared.geometry.Geometry.{Geometry}
use Rattle.ff_base.specs.declared.numbers.PageNo.{PageNo}
use Rattle.ff_cache.specs.Cache.{CacheView, IsCacheSound}
use Rattle.ff_cache.specs.Nv.{NvView, NvWay, slot_of, slots_of, way_of, ways_of}
use Rattle.ff_cache.specs.Slots.{ArePlaced, cache_slot_at, empty_slot, held}
use Rattle.ff_cache.specs.declared.slot.CacheSlot.{CacheSlot}
use Rattle.ff_flash.specs.Cells.{Cell}
use Rattle.ff_flash.specs.FlashState.{FlashState}
use Rattle.ff_gc.specs.Cells.{AreSealed, HasCovered}
use Rattle.ff_gc.specs.World.{page_bytes}
use Rattle.ff_lines.proofs.PageCounts.{count_below-part}
use Rattle.ff_lines.specs.PageSets.{count_below}
use Rattle.ff_mount.proofs.Pages.{way_of_slot}
use Rattle.ff_mount.specs.Held.{best_of, held_bytes, is_dirty_way, is_held, nv_of, way_bytes, way_of_page}
use Rattle.ff_mount.specs.Over.{IsCacheOver, is_dirty_slot, is_mapped_or_dirty, slot_bytes}
use Rattle.ff_mount.specs.Sound.{AreSound}
use Rattle.ff_store.proofs.Mounting.{best_bytes}
use Rattle.ff_store.specs.Best.{Version, best, bytes_or_zeros, mapped_version}
use Rattle.ff_store.specs.PageStore.{IsStoreSound, PageStoreView}
use Rattle.ff_store.specs.Pages.{is_mapped}
use Rattle.ff_store.specs.Recoverable.{IsRecoverable}
use Rattle.ff_store.specs.declared.pending.Pending.{Pending}
use Rattle.ff_map.specs.PageMap.{mapping_of}
use Rattle.ff_map.specs.declared.places.Mapping.{Mapping}

-- a page that has no dirty slot isn't the one that is to be sealed
not_waiting : (g : Geometry) (s : PageStoreView) (cache : CacheView) (page : PageNo) → IsCacheOver g s cache
    → is_dirty_slot (held cache.slots page.0) ≡ false → (p : Pending) → s.waits ≡ Some p → p.page ≢ page
not_waiting g s cache page over clean p waits same =
    let dirty = over.waiting p waits in
    let is : held cache.slots page.0 ≡ Some dirty.slot = ap (λ (q : PageNo). held cache.slots q.0) (sym same) ∙ dirty.is in
    let both : false ≡ true = sym clean ∙ ap (λ (o : Option CacheSlot). is_dirty_slot o) is ∙ dirty.dirty in
    absurd (cc)

-- what a page reads after a power loss, by the cache and the store
reads_by : (g : Geometry) (s : PageStoreView) (cache : CacheView) (page : PageNo) (found : Option CacheSlot) → IsStoreSound s
    → IsCacheOver g s cache → held cache.slots page.0 ≡ found
    → way_bytes (option_map way_of found) (bytes_or_zeros (best s.world.flash.cells page)) ≡ slot_bytes found (page_bytes s.world page)
reads_by g s cache page None sound over is =
    best_bytes s page sound.always
    (not_waiting g s cache page over (ap (λ (o : Option CacheSlot). is_dirty_slot o) is))
reads_by g s cache page (Some slot) sound over is = refl

pub held_over : (g : Geometry) (s : PageStoreView) (cache : CacheView) (page : PageNo) → IsStoreSound s
    → IsCacheOver g s cache
    → held_bytes (ways_of cache.slots) s.world.flash.cells page.0 ≡ slot_bytes (held cache.slots page.0) (page_bytes s.world page)
held_over g s cache page sound over =
    ap (λ (w : Option NvWay). way_bytes w (bytes_or_zeros (best s.world.flash.cells page))) (way_of_slot cache.slots page.0)
    ∙ reads_by g s cache page (held cache.slots page.0) sound over refl

-- the slot of a way
record IsSlotOfWay (found : Option CacheSlot) (way : NvWay) : Type 0 where
  slot : CacheSlot
  is : found ≡ Some slot
  same : way_of slot ≡ way

slot_of_way : (found : Option CacheSlot) (way : NvWay) → option_map way_of found ≡ Some way → IsSlotOfWay found way
slot_of_way None way is = absurd (none-some way is)
slot_of_way (Some slot) way is = record { slot = slot; is = refl; same = same_Some (way_of slot) way is }

way_slot : (slots : List CacheSlot) (page : ℕ) (way : NvWay) → way_of_page (ways_of slots) page ≡ Some way
    → IsSlotOfWay (held slots page) way
way_slot slots page way is = slot_of_way (held slots page) way (sym (way_of_slot slots page) ∙ is)

-- the slots of the ways of slots are at the same positions
kept_slot : (slots : List CacheSlot) (k : ℕ) → cache_slot_at (slots_of (ways_of slots)) k ≡ slot_of (way_of (cache_slot_at slots k))
kept_slot slots k =
    get_or-map_all slot_of (ways_of slots) k (way_of empty_slot)
    ∙ ap slot_of (get_or-map_all way_of slots k empty_slot)

pub kept_placed : (sets ways : ℕ) (slots : List CacheSlot) → ArePlaced sets ways slots → ArePlaced sets ways (slots_of (ways_of slots))
kept_placed sets ways slots placed =
    let size : length (slots_of (ways_of slots)) ≡ length slots = length-map (ways_of slots) slot_of ∙ length-map slots way_of in
    record {
      size = size ∙ placed.size;
      placed = λ k page within is. placed.placed k page (omega arith) (rw kept_slot at is);
      unique = λ k j page within also is other.
          placed.unique k j page (omega arith) (omega arith) (rw kept_slot at is) (rw kept_slot at other);
      clean = λ k empty. rw kept_slot (placed.clean k (rw kept_slot at empty));
      unpinned = λ k empty. rw kept_slot refl;
    }

version_some : (found : List Cell) (o : Option Mapping) → is_some (mapped_version found o) ≡ is_some o
version_some found None = refl
version_some found (Some m) = refl

-- a page without a dirty slot that is sealed is mapped
sealed_mapped : (g : Geometry) (s : PageStoreView) (cache : CacheView) (page : PageNo) → IsRecoverable s → IsCacheOver g s cache
    → is_dirty_slot (held cache.slots page.0) ≡ false → is_some (best s.world.flash.cells page) ≡ is_mapped s.world.places page
sealed_mapped g s cache page recoverable over clean =
    ap (λ (o : Option Version). is_some o)
    (recoverable.mapped page (λ p waits same. not_waiting g s cache page over clean p waits same))
    ∙ version_some s.world.flash.cells (mapping_of s.world.places page)

dirty_same : (found : Option CacheSlot) → is_dirty_way (option_map way_of found) ≡ is_dirty_slot found
dirty_same None = refl
dirty_same (Some slot) = refl

written_by : (dirty sealed mapped : Bool) → (dirty ≡ false → sealed ≡ mapped) → (dirty || sealed) ≡ true → (dirty || mapped) ≡ true
written_by true sealed mapped same held = refl
written_by false sealed mapped same held = sym (same refl) ∙ held

-- a held page is written
held_written : (g : Geometry) (s : PageStoreView) (cache : CacheView) (page : ℕ) → IsRecoverable s → IsCacheOver g s cache
    → is_held (ways_of cache.slots) s.world.flash.cells page ≡ true → is_mapped_or_dirty s cache page ≡ true
held_written g s cache page recoverable over holds =
    let dirty = ap (λ (w : Option NvWay). is_dirty_way w) (way_of_slot cache.slots page) ∙ dirty_same (held cache.slots page) in
    let by_slot = ap (λ (b : Bool). b || is_some (best_of s.world.flash.cells page)) (sym dirty) ∙ holds in
    written_by (is_dirty_slot (held cache.slots page)) (is_some (best_of s.world.flash.cells page))
    (is_mapped s.world.places (record { 0 = page })) (sealed_mapped g s cache (record { 0 = page }) recoverable over) by_slot

clean_way : (g : Geometry) (s : PageStoreView) (cache : CacheView) (page : ℕ) (slot : CacheSlot) → IsStoreSound s → IsCacheOver g s cache
    → held cache.slots page ≡ Some slot → slot.dirty ≡ false → slot.bytes ≡ bytes_or_zeros (best_of s.world.flash.cells page)
clean_way g s cache page slot sound over is clean =
    let number : PageNo = record { 0 = page } in
    over.clean number slot is clean
    ∙ sym (best_bytes s number sound.always
    (not_waiting g s cache number over (ap (λ (o : Option CacheSlot). is_dirty_slot o) is ∙ clean)))

-- the content and the flash are sound, at every event and after every cut
pub sound_over : (g : Geometry) (s : PageStoreView) (cache : CacheView) (marks : List ℕ) → IsStoreSound s → IsRecoverable s
    → IsCacheSound cache → IsCacheOver g s cache → length marks ≡ g.pages → AreSound g (nv_of cache marks) s.world.flash
sound_over g s cache marks sound recoverable cache_sound over marked =
    let slots : List CacheSlot = cache.slots in
    record {
      blocks = sound.fits.blocks ∙ over.blocks;
      per_block = sound.fits.per_block ∙ over.per_block;
      sealed_cells = subst (λ n. AreSealed n s.world.flash.operations s.world.flash.cells) over.page_count
          sound.always.safe.sealed_cells;
      covered = subst (λ n. HasCovered n g.per_block s.world.flash.cells) over.blocks
          (subst (λ n. HasCovered (length s.world.table.blocks) n s.world.flash.cells) over.per_block recoverable.covered);
      few = (let part = count_below-part (is_held (ways_of slots) s.world.flash.cells) (is_mapped_or_dirty s cache) g.pages
          (λ page holds. held_written g s cache page recoverable over holds) in
          let few = over.few in omega arith);
      ways = record {
        placed = subst (λ n. ArePlaced n g.ways (slots_of (ways_of slots))) over.sets
            (subst (λ n. ArePlaced cache.sets n (slots_of (ways_of slots))) over.ways
            (kept_placed cache.sets cache.ways slots cache_sound.slots));
        page = λ page way is. (let at = way_slot slots page way is in over.page page at.slot at.is);
        full = λ page way is. (let at = way_slot slots page way is in
            ap (λ (w : NvWay). length w.bytes) (sym at.same) ∙ over.full page at.slot at.is);
        marks = marked;
      };
      clean = λ page way is clean. (let at = way_slot slots page way is in
          ap (λ (w : NvWay). w.bytes) (sym at.same)
          ∙ clean_way g s cache page at.slot sound over at.is (ap (λ (w : NvWay). w.dirty) at.same ∙ clean));
    }

-- sound content and a flash are sound after the power was turned off or on, and after operations that changed no cell
pub sound_later : (g : Geometry) (nv : NvView) (old new : FlashState) → AreSound g nv old → new.blocks ≡ old.blocks
    → new.per_block ≡ old.per_block → new.cells ≡ old.cells → old.operations ≤ new.operations → AreSound g nv new
sound_later g nv old new sound blocks per_block same more = record {
  blocks = blocks ∙ sound.blocks;
  per_block = per_block ∙ sound.per_block;
  sealed_cells = subst (λ (x : List Cell). AreSealed g.pages new.operations x) (sym same) (record {
    same = sound.sealed_cells.same;
    page = sound.sealed_cells.page;
    least = sound.sealed_cells.least;
    most = λ a x spare is. (let most = sound.sealed_cells.most a x spare is in omega arith);
    full = sound.sealed_cells.full;
  });
  covered = subst (λ (x : List Cell). HasCovered g.blocks g.per_block x) (sym same) sound.covered;
  few = subst (λ (x : List Cell). count_below (is_held nv.slots x) g.pages ≤ capacity_of g) (sym same) sound.few;
  ways = sound.ways;
  clean = λ page way is clean.
      sound.clean page way is clean ∙ ap (λ (x : List Cell). bytes_or_zeros (best_of x page)) (sym same);
}
