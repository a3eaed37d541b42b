-- What a mount needs of sound content, and what it makes of it or hands back.
use Rattle.std.proofs.Common.{◌≡◌, ◌≤◌, ◌+◌, ℕ, zero, suc, Bool, true, false, List, refl, sym, ap, subst, ◌∙◌, arith}
use Rattle.std.specs.Prelude.{◌||◌, count_by, is_some, Result, Ok, Err, IfErr, IfOk}
use Rattle.std.specs.List.{range_with_len}
use Rattle.ff_base.specs.Geometry.{capacity_of}
use Rattle.ff_base.specs.declared.geometry.Geometry.{Geometry}
use Rattle.ff_cache.specs.Cache.{CacheView}
use Rattle.ff_cache.specs.Nv.{IsFromNv, NvView}
use Rattle.ff_flash.specs.FlashState.{FlashState, powered_up}
use Rattle.ff_flash.specs.Plans.{Planned}
use Rattle.ff_flash.specs.declared.flash.FlashStop.TheVariants.{Failed as FlashFailed, Off as FlashOff}
use Rattle.ff_gc.proofs.Counting.{count_cons}
use Rattle.ff_lines.proofs.PageCounts.{count_below-part}
use Rattle.ff_lines.specs.PageSets.{count_below}
use Rattle.ff_mount.proofs.MountedParts.{over_mounted, same_content}
use Rattle.ff_mount.proofs.Sounding.{sound_later}
use Rattle.ff_mount.specs.Held.{best_of, is_dirty_way, is_held, nv_of, way_of_page}
use Rattle.ff_mount.specs.Mounted.{IsMounted, IsMountRefused, mount_probes}
use Rattle.ff_mount.specs.Reading.{HasStopped}
use Rattle.ff_mount.specs.Sound.{AreSound}
use Rattle.ff_mount.specs.Stops.{StopsBy, refused_stop}
use Rattle.ff_mount.specs.declared.stop.MountStop.{MountStop}
use Rattle.ff_mount.specs.declared.stop.MountStop.TheVariants.{NoMemory, Fault, Off}
use Rattle.ff_scan.specs.Probing.{IsProbeStopped}
use Rattle.ff_store.specs.Best.{sealed_count}
use Rattle.ff_store.specs.PageStore.{IsStoreSound, PageStoreView}
use Rattle.ff_store.specs.Remounted.{IsHandedBack, IsRemountable, IsRemounted, probed_flash, IsPlannedStop}
use Rattle.ff_store.specs.declared.remount.StoreStop.{StoreStop}
use Rattle.ff_store.specs.declared.remount.StoreStop.TheVariants.{NoMemory as StoreNoMemory, Failed as StoreFailed, Off as StoreOff}

-- nothing was done
stopped_none : (flash : FlashState) → flash.on ≡ true → HasStopped flash NoMemory flash
stopped_none flash on = record {
  same = record { blocks = refl; per_block = refl; plan = refl; making = refl };
  cells = refl;
  rise = omega arith;
  no_fall = omega arith;
  failed = (λ same. absurd (cc), λ both. (let less = both.0 in absurd (omega arith)));
  off = (λ same. absurd (cc), λ down. absurd (cc));
}

stopped_failed : (old new : FlashState) → IsProbeStopped old FlashFailed new → HasStopped old Fault new
stopped_failed old new is = record {
  same = is.same;
  cells = is.cells;
  rise = is.rise;
  no_fall = is.no_fall;
  failed = (λ same. is.failed.0 refl, λ both. refl);
  off = (λ same. absurd (cc), λ down. (let both : FlashFailed ≡ FlashOff = is.off.1 down in absurd (cc)));
}

stopped_off : (old new : FlashState) → IsProbeStopped old FlashOff new → HasStopped old Off new
stopped_off old new is = record {
  same = is.same;
  cells = is.cells;
  rise = is.rise;
  no_fall = is.no_fall;
  failed = (λ same. absurd (cc), λ both. (let other : FlashOff ≡ FlashFailed = is.failed.1 both in absurd (cc)));
  off = (λ same. is.off.0 refl, λ down. refl);
}

-- what a store that could not be made hands back
pub handed_back : (old new : FlashState) (stop : StoreStop) → IsHandedBack old stop new
    → HasStopped (powered_up old) (refused_stop stop) new
handed_back old new StoreNoMemory is =
    subst (λ (x : FlashState). HasStopped (powered_up old) NoMemory x) (sym is) (stopped_none (powered_up old) refl)
handed_back old new StoreFailed is = stopped_failed (powered_up old) new is
handed_back old new StoreOff is = stopped_off (powered_up old) new is

pub stops_same : (plan : Planned) (made count : ℕ) (stop : StoreStop) → IsPlannedStop plan made count stop
    → StopsBy plan made count (refused_stop stop)
stops_same plan made count StoreNoMemory is = tt
stops_same plan made count StoreFailed is = is
stops_same plan made count StoreOff is = is

-- what is handed back is sound again
pub refused_sound : (g : Geometry) (nv : NvView) (flash new : FlashState) (stop : MountStop) → AreSound g nv flash
    → HasStopped (powered_up flash) stop new → AreSound g nv new
refused_sound g nv flash new stop sound is =
    sound_later g nv flash new sound is.same.blocks is.same.per_block is.cells is.rise

-- a count over a range, as a count of a set
count_range : (set : ℕ → Bool) (a n : ℕ)
    → count_below set a + count_by set (range_with_len a n) ≡ count_below set (a + n)
count_range set a zero = (let same : a + 0 ≡ a = omega arith in rw same (omega arith))
count_range set a (suc n) =
    let rest = count_range set (a + 1) n in
    let head = count_cons set a (range_with_len (a + 1) n) in
    let next : a + 1 ≡ suc a = omega arith in
    let here = ap (λ k. count_below set k) next in
    let last : a + 1 + n ≡ a + suc n = omega arith in
    let there = ap (λ k. count_below set k) last in
    omega arith

sealed_held : (dirty sealed : Bool) → sealed ≡ true → (dirty || sealed) ≡ true
sealed_held true sealed is = refl
sealed_held false sealed is = is

-- no more pages are sealed than are held
few_sealed : (g : Geometry) (nv : NvView) (flash : FlashState) → AreSound g nv flash
    → sealed_count g.pages flash.cells ≤ capacity_of g
few_sealed g nv flash sound =
    let sealed : ℕ → Bool = λ page. is_some (best_of flash.cells page) in
    let counted = count_range sealed 0 g.pages in
    let all : 0 + g.pages ≡ g.pages = omega arith in
    let same = ap (λ k. count_below sealed k) all in
    let part = count_below-part sealed (is_held nv.slots flash.cells) g.pages
    (λ page is. sealed_held (is_dirty_way (way_of_page nv.slots page)) (is_some (best_of flash.cells page)) is) in
    let few = sound.few in
    omega arith

-- a flash with its power on that is sound can be mounted
pub remountable : (g : Geometry) (nv : NvView) (flash : FlashState) → AreSound g nv flash → IsRemountable g (powered_up flash)
remountable g nv flash sound = record {
  blocks = sound.blocks;
  per_block = sound.per_block;
  sealed_cells = sound.sealed_cells;
  covered = sound.covered;
  few = few_sealed g nv flash sound;
}

-- a refused mount, whose cache was taken apart again
pub refused_parts : (g : Geometry) (nv : NvView) (flash up new : FlashState) (cache : CacheView) (marks : List ℕ) (back : NvView)
    (stop : MountStop) → AreSound g nv flash → IsFromNv g.sets g.ways nv.slots cache → marks ≡ nv.marks → up ≡ powered_up flash
    → back ≡ nv_of cache marks → HasStopped (powered_up up) stop new → IsMountRefused g nv flash stop back new
refused_parts g nv flash up new cache marks back stop sound from marked turned is stopped =
    let content : back ≡ nv = is ∙ ap (λ (m : List ℕ). nv_of cache m) marked ∙ same_content g nv cache from in
    let over : HasStopped (powered_up flash) stop new =
    subst (λ (f : FlashState). HasStopped (powered_up f) stop new) turned stopped in
    record {
      content = content;
      flash_is = over;
      sound = subst (λ (n : NvView). AreSound g n new) (sym content) (refused_sound g nv flash new stop sound over);
    }

-- the parts of a mount
pub mounted_parts : (g : Geometry) (nv : NvView) (flash up : FlashState) (made : CacheView) (kept : List ℕ) (s : PageStoreView)
    (cache : CacheView) (marks : List ℕ) → AreSound g nv flash → IsFromNv g.sets g.ways nv.slots made → kept ≡ nv.marks
    → up ≡ powered_up flash → IsRemounted g s → IsStoreSound s → s.world.flash ≡ probed_flash up (mount_probes g)
    → cache ≡ made → marks ≡ kept → IsMounted g nv flash s cache marks
mounted_parts g nv flash up made kept s cache marks sound from marked turned remounted store_sound probed same marks_same =
    let over : s.world.flash ≡ probed_flash flash (mount_probes g) =
    probed ∙ ap (λ (f : FlashState). probed_flash f (mount_probes g)) turned in
    let from_now : IsFromNv g.sets g.ways nv.slots cache =
    subst (λ (c : CacheView). IsFromNv g.sets g.ways nv.slots c) (sym same) from in
    record {
      store_is = remounted;
      flash_is = over;
      cache_is = from_now;
      marks_are = marks_same ∙ marked;
      over = over_mounted g nv flash s cache sound (record {
        sound = store_sound;
        none = ap (λ (x : PageStoreView). x.waits) remounted.store;
        cells = ap (λ (f : FlashState). f.cells) over;
        blocks = remounted.scan.block_count;
        per_block = ap (λ (x : PageStoreView). x.world.gc.per_block) remounted.store;
        page_count = remounted.scan.page_count;
      }) from_now;
    }

-- what an Ok and an Err are, by several facts of each
pub all_ok : {T E : Type 0} (r : Result T E) (A B C D F P : T → Type 0) → ((t : T) → A t → B t → C t → D t → F t → P t)
    → IfOk r A → IfOk r B → IfOk r C → IfOk r D → IfOk r F → IfOk r P
all_ok (Ok t) A B C D F P by a b c d f = by t a b c d f
all_ok (Err e) A B C D F P by a b c d f = tt

pub both_err : {T E : Type 0} (r : Result T E) (A B P : E → Type 0) → ((e : E) → A e → B e → P e) → IfErr r A → IfErr r B → IfErr r P
both_err (Ok t) A B P by a b = tt
both_err (Err e) A B P by a b = by e a b
