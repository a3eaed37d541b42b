-- The parts of a mount are a cache over a store, and hold what the battery and the flash held.
use Rattle.std.proofs.Common.{◌≡◌, ℕ, Bool, List, [], ◌∷◌, length, Option, None, Some, refl, sym, ap, ap₂, ◌∙◌, arith}
use Rattle.std.specs.Prelude.{◌||◌, is_some, option_map}
use Rattle.std.proofs.lemmas.Option.{none-some}
use Rattle.ff_base.specs.declared.geometry.Geometry.{Geometry}
use Rattle.ff_base.specs.declared.numbers.PageNo.{PageNo}
use Rattle.ff_cache.specs.Cache.{CacheView}
use Rattle.ff_cache.specs.Nv.{IsFromNv, NvView, NvWay, slots_of, way_of, ways_of}
use Rattle.ff_cache.specs.Slots.{held}
use Rattle.ff_cache.specs.declared.slot.CacheSlot.{CacheSlot}
use Rattle.ff_flash.specs.Cells.{Cell}
use Rattle.ff_flash.specs.FlashState.{FlashState}
use Rattle.ff_lines.proofs.PageCounts.{count_below-part}
use Rattle.ff_mount.proofs.Pages.{way_of_slot}
use Rattle.ff_mount.specs.Held.{best_of, is_dirty_way, is_held, nv_of, way_of_page}
use Rattle.ff_mount.specs.Over.{IsCacheOver, is_dirty_slot, is_mapped_or_dirty}
use Rattle.ff_mount.specs.Sound.{AreSound}
use Rattle.ff_store.proofs.Mounting.{best_bytes, best_mapped}
use Rattle.ff_store.specs.Best.{bytes_or_zeros}
use Rattle.ff_store.specs.PageStore.{IsStoreSound, PageStoreView}

ways_of_slots : (ways : List NvWay) → ways_of (slots_of ways) ≡ ways
ways_of_slots [] = refl
ways_of_slots (way ∷ later) = ap (λ (rest : List NvWay). way ∷ rest) (ways_of_slots later)

-- the battery would keep of the cache what it was made of
pub same_ways : (sets ways : ℕ) (kept : List NvWay) (cache : CacheView) → IsFromNv sets ways kept cache → ways_of cache.slots ≡ kept
same_ways sets ways kept cache from = ap (λ (slots : List CacheSlot). ways_of slots) from.slots ∙ ways_of_slots kept

pub same_content : (g : Geometry) (nv : NvView) (cache : CacheView) → IsFromNv g.sets g.ways nv.slots cache
    → nv_of cache nv.marks ≡ nv
same_content g nv cache from =
    let made : List NvWay → NvView = λ ways. record { slots = ways; marks = nv.marks } in
    ap made (same_ways g.sets g.ways nv.slots cache from)

-- a store over cells of a flash, in which no flush waits
pub record IsStoreOn (g : Geometry) (flash : FlashState) (s : PageStoreView) : Type 0 where
  pub sound : IsStoreSound s
  pub none : s.waits ≡ None
  pub cells : s.world.flash.cells ≡ flash.cells
  pub blocks : length s.world.table.blocks ≡ g.blocks
  pub per_block : s.world.gc.per_block ≡ g.per_block
  pub page_count : length s.world.places.pages ≡ g.pages

way_in : (g : Geometry) (nv : NvView) (cache : CacheView) (page : ℕ) (found : Option CacheSlot) → IsFromNv g.sets g.ways nv.slots cache
    → held cache.slots page ≡ found → way_of_page nv.slots page ≡ option_map way_of found
way_in g nv cache page found from is =
    ap (λ (ways : List NvWay). way_of_page ways page) (sym (same_ways g.sets g.ways nv.slots cache from))
    ∙ way_of_slot cache.slots page
    ∙ ap (λ (o : Option CacheSlot). option_map way_of o) is

dirty_same : (found : Option CacheSlot) → is_dirty_way (option_map way_of found) ≡ is_dirty_slot found
dirty_same None = refl
dirty_same (Some slot) = refl

-- a page is written where it is held
written_held : (g : Geometry) (nv : NvView) (flash : FlashState) (s : PageStoreView) (cache : CacheView) (page : ℕ)
    → IsStoreOn g flash s → IsFromNv g.sets g.ways nv.slots cache
    → is_mapped_or_dirty s cache page ≡ is_held nv.slots flash.cells page
written_held g nv flash s cache page on from =
    let number : PageNo = record { 0 = page } in
    let dirty = ap (λ (w : Option NvWay). is_dirty_way w) (way_in g nv cache page (held cache.slots page) from refl)
    ∙ dirty_same (held cache.slots page) in
    let mapped = best_mapped s number on.sound.always on.none
    ∙ ap (λ (x : List Cell). is_some (best_of x page)) on.cells in
    ap₂ (λ (a b : Bool). a || b) (sym dirty) mapped

-- a store that was mounted, and the cache of what the battery kept
pub over_mounted : (g : Geometry) (nv : NvView) (flash : FlashState) (s : PageStoreView) (cache : CacheView)
    → AreSound g nv flash → IsStoreOn g flash s → IsFromNv g.sets g.ways nv.slots cache → IsCacheOver g s cache
over_mounted g nv flash s cache sound on from = record {
  blocks = on.blocks;
  per_block = on.per_block;
  page_count = on.page_count;
  sets = from.set_count;
  ways = from.way_count;
  page = λ page slot is. sound.ways.page page (way_of slot) (way_in g nv cache page (Some slot) from is);
  full = λ page slot is. sound.ways.full page (way_of slot) (way_in g nv cache page (Some slot) from is);
  clean = λ page slot is clean.
      sound.clean page.0 (way_of slot) (way_in g nv cache page.0 (Some slot) from is) clean
      ∙ ap (λ (x : List Cell). bytes_or_zeros (best_of x page.0)) (sym on.cells)
      ∙ best_bytes s page on.sound.always (λ p waits same. none-some p (sym on.none ∙ waits));
  waiting = λ p waits. absurd (none-some p (sym on.none ∙ waits));
  few = (let part = count_below-part (is_mapped_or_dirty s cache) (is_held nv.slots flash.cells) g.pages
      (λ page written. sym (written_held g nv flash s cache page on from) ∙ written) in
      let few = sound.few in omega arith);
}
