-- What the next session may rely on: the mounted parts are sound and hold what was held, also after the reads of an image.
use Rattle.std.proofs.Common.{◌≡◌, ℕ, List, sym, ap, subst, ◌∙◌, arith}
use Rattle.ff_base.specs.declared.geometry.Geometry.{Geometry}
use Rattle.ff_cache.specs.Cache.{CacheView}
use Rattle.ff_cache.specs.Nv.{NvView}
use Rattle.ff_flash.specs.FlashState.{FlashState}
use Rattle.ff_mount.proofs.MountedParts.{same_content}
use Rattle.ff_mount.proofs.Sounding.{sound_later}
use Rattle.ff_mount.specs.Held.{held_content, nv_of}
use Rattle.ff_mount.specs.Mounted.{IsMounted}
use Rattle.ff_mount.specs.Over.{IsCacheOver}
use Rattle.ff_mount.specs.Reading.{after_reads}
use Rattle.ff_mount.specs.Sound.{AreSound}
use Rattle.ff_store.specs.PageStore.{PageStoreView}

-- the battery would keep of the mounted parts what was mounted
pub mounted_content : (g : Geometry) (nv : NvView) (flash : FlashState) (s : PageStoreView) (cache : CacheView) (marks : List ℕ)
    → IsMounted g nv flash s cache marks → nv_of cache marks ≡ nv
mounted_content g nv flash s cache marks mounted =
    ap (λ (m : List ℕ). nv_of cache m) mounted.marks_are ∙ same_content g nv cache mounted.cache_is

-- so their image is that of what was mounted
pub mounted_image : (g : Geometry) (nv : NvView) (flash : FlashState) (s : PageStoreView) (cache : CacheView) (marks : List ℕ)
    → IsMounted g nv flash s cache marks
    → held_content g.pages (nv_of cache marks) s.world.flash.cells ≡ held_content g.pages nv flash.cells
mounted_image g nv flash s cache marks mounted =
    ap (λ (n : NvView). held_content g.pages n s.world.flash.cells) (mounted_content g nv flash s cache marks mounted)
    ∙ ap (λ (f : FlashState). held_content g.pages nv f.cells) mounted.flash_is

-- they are sound, also after so many reads
pub mounted_sound : (g : Geometry) (nv : NvView) (flash : FlashState) (s : PageStoreView) (cache : CacheView) (marks : List ℕ)
    (count : ℕ) → AreSound g nv flash → IsMounted g nv flash s cache marks
    → AreSound g (nv_of cache marks) (after_reads s count).world.flash
mounted_sound g nv flash s cache marks count sound mounted =
    let is = mounted.flash_is in
    let operations = ap (λ (f : FlashState). f.operations) is in
    subst (λ (n : NvView). AreSound g n (after_reads s count).world.flash)
    (sym (mounted_content g nv flash s cache marks mounted))
    (sound_later g nv flash (after_reads s count).world.flash sound (ap (λ (f : FlashState). f.blocks) is)
    (ap (λ (f : FlashState). f.per_block) is) (ap (λ (f : FlashState). f.cells) is) (omega arith))

-- and the cache is over the store, also after so many reads
pub over_reads : (g : Geometry) (s : PageStoreView) (cache : CacheView) (count : ℕ) → IsCacheOver g s cache
    → IsCacheOver g (after_reads s count) cache
over_reads g s cache count over = record {
  blocks = over.blocks;
  per_block = over.per_block;
  page_count = over.page_count;
  sets = over.sets;
  ways = over.ways;
  page = over.page;
  full = over.full;
  clean = over.clean;
  waiting = over.waiting;
  few = over.few;
}
