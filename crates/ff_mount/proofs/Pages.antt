-- Which pages are held, as a cache and a store know them.
use Rattle.std.proofs.Common.{◌≡◌, ℕ, Bool, true, false, cond, List, [], ◌∷◌, Option, None, Some, refl, sym, ap, ◌∙◌}
use Rattle.std.specs.Prelude.{◌||◌, if◌then◌else◌, is_some, option_map}
use Rattle.ff_base.specs.declared.numbers.PageNo.{PageNo}
use Rattle.ff_cache.specs.Cache.{CacheView, IsSlotOf}
use Rattle.ff_cache.specs.Nv.{NvWay, way_of, ways_of}
use Rattle.ff_cache.specs.Slots.{cache_slot_at, held, holds}
use Rattle.ff_cache.specs.declared.slot.CacheSlot.{CacheSlot}
use Rattle.ff_model.specs.Image.{Content}
use Rattle.ff_mount.specs.Filled.{stored_page, stored_reads, with_found}
use Rattle.ff_mount.specs.Held.{best_of, image_page, is_dirty_way, is_read, page_reads, way_bytes, way_of_page}
use Rattle.ff_store.proofs.Mounting.{best_bytes, best_mapped}
use Rattle.ff_store.specs.Best.{bytes_or_zeros}
use Rattle.ff_store.specs.PageStore.{IsStoreSound, PageStoreView}
use Rattle.ff_store.specs.Pages.{is_mapped}
use Rattle.ff_store.specs.declared.pending.Pending.{Pending}
use Rattle.std.proofs.lemmas.Option.{none-some}

chosen : (first : Bool) (slot : CacheSlot) (rest : Option CacheSlot) (ways : Option NvWay) → ways ≡ option_map way_of rest
    → cond first (Some (way_of slot)) ways ≡ option_map way_of (cond first (Some slot) rest)
chosen true slot rest ways same = refl
chosen false slot rest ways same = same

-- the way of a page is that of its slot
pub way_of_slot : (slots : List CacheSlot) (page : ℕ) → way_of_page (ways_of slots) page ≡ option_map way_of (held slots page)
way_of_slot [] page = refl
way_of_slot (slot ∷ later) page =
    chosen (holds slot page) slot (held later page) (way_of_page (ways_of later) page) (way_of_slot later page)

way_found : (slots : List CacheSlot) (page : ℕ) (found : Option CacheSlot) → held slots page ≡ found
    → way_of_page (ways_of slots) page ≡ option_map way_of found
way_found slots page found is = way_of_slot slots page ∙ ap (λ (s : Option CacheSlot). option_map way_of s) is

-- what an image has of a cached page
pub image_cached : (s : PageStoreView) (cache : CacheView) (page : PageNo) (slot : ℕ) → IsStoreSound s → s.waits ≡ None
    → IsSlotOf cache page.0 slot
    → image_page (ways_of cache.slots) s.world.flash.cells page.0
    ≡ (if (cache_slot_at cache.slots slot).dirty || is_mapped s.world.places page
    then Some (cache_slot_at cache.slots slot).bytes else None)
image_cached s cache page slot sound none is =
    let cells = s.world.flash.cells in
    let found : CacheSlot = cache_slot_at cache.slots slot in
    let way = way_found cache.slots page.0 (Some found) is.held in
    let mapped = best_mapped s page sound.always none in
    ap (λ (w : Option NvWay).
    if is_dirty_way w || is_some (best_of cells page.0) then Some (way_bytes w (bytes_or_zeros (best_of cells page.0))) else None)
    way
    ∙ ap (λ (b : Bool). if found.dirty || b then Some found.bytes else None) (sym mapped)

-- what is put into an image for a cached page
pub found_cached : (s : PageStoreView) (cache : CacheView) (page : PageNo) (slot : ℕ) (image : Content) (hit : Bool)
    → IsStoreSound s → s.waits ≡ None → IsSlotOf cache page.0 slot
    → ((cache_slot_at cache.slots slot).dirty || is_mapped s.world.places page) ≡ hit
    → with_found image page.0 (image_page (ways_of cache.slots) s.world.flash.cells page.0)
    ≡ with_found image page.0 (if hit then Some (cache_slot_at cache.slots slot).bytes else None)
found_cached s cache page slot image hit sound none is hits =
    ap (λ (one : Option (List ℕ)). with_found image page.0 one) (image_cached s cache page slot sound none is)
    ∙ ap (λ (b : Bool). with_found image page.0 (if b then Some (cache_slot_at cache.slots slot).bytes else None)) hits

none_waits : (s : PageStoreView) (page : PageNo) → s.waits ≡ None → (p : Pending) → s.waits ≡ Some p → p.page ≡ page → ⊥
none_waits s page none p is same = none-some p (sym none ∙ is)

-- what an image has of a page that isn't cached
pub image_stored : (s : PageStoreView) (cache : CacheView) (page : PageNo) → IsStoreSound s → s.waits ≡ None
    → held cache.slots page.0 ≡ None
    → image_page (ways_of cache.slots) s.world.flash.cells page.0 ≡ stored_page s.world page
image_stored s cache page sound none absent =
    let cells = s.world.flash.cells in
    let way = way_found cache.slots page.0 None absent in
    let mapped = best_mapped s page sound.always none in
    let bytes = best_bytes s page sound.always (none_waits s page none) in
    ap (λ (w : Option NvWay).
    if is_dirty_way w || is_some (best_of cells page.0) then Some (way_bytes w (bytes_or_zeros (best_of cells page.0))) else None)
    way
    ∙ ap (λ (b : Bool). if b then Some (bytes_or_zeros (best_of cells page.0)) else None) (sym mapped)
    ∙ ap (λ (x : List ℕ). if is_mapped s.world.places page then Some x else None) bytes

-- an image reads a page that isn't cached where it is mapped
pub reads_stored : (s : PageStoreView) (cache : CacheView) (page : PageNo) → IsStoreSound s → s.waits ≡ None
    → held cache.slots page.0 ≡ None
    → page_reads (ways_of cache.slots) s.world.flash.cells page.0 ≡ stored_reads s.world page
reads_stored s cache page sound none absent =
    let way = way_found cache.slots page.0 None absent in
    let mapped = best_mapped s page sound.always none in
    let read : is_read (ways_of cache.slots) s.world.flash.cells page.0 ≡ is_mapped s.world.places page =
    rw way (sym mapped) in
    let number : Bool → ℕ = λ b. if b then 1 else 0 in
    ap number read

-- and reads no page that is cached
pub reads_cached : (s : PageStoreView) (cache : CacheView) (page slot : ℕ) → IsSlotOf cache page slot
    → page_reads (ways_of cache.slots) s.world.flash.cells page ≡ 0
reads_cached s cache page slot is =
    let way = way_found cache.slots page (Some (cache_slot_at cache.slots slot)) is.held in
    let read : is_read (ways_of cache.slots) s.world.flash.cells page ≡ false = rw way refl in
    let number : Bool → ℕ = λ b. if b then 1 else 0 in
    ap number read
