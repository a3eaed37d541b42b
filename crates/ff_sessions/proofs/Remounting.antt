-- A mount of what a session left, and the image behind it.
use Rattle.std.proofs.Common.{◌≡◌, ◌≤◌, ◌+◌, ◌^◌, ℕ, List, length, Option, None, Some, refl, sym, ap, subst, ◌∙◌, arith}
use Rattle.std.specs.Prelude.{Result, Ok, Err, IfSome}
use Rattle.ff_base.specs.Count.{last_event}
use Rattle.ff_base.specs.Geometry.{IsWithinLimits}
use Rattle.ff_base.specs.declared.geometry.Geometry.{Geometry}
use Rattle.ff_cache.specs.Cache.{CacheView}
use Rattle.ff_cache.specs.Nv.{NvView, ways_of}
use Rattle.ff_core.proofs.ResumeMounted.{resume_mounted, resume_read}
use Rattle.ff_core.specs.Resume.{CanResume}
use Rattle.ff_flash.specs.FlashState.{FlashState, powered_up}
use Rattle.ff_flash.specs.Plans.{Planned}
use Rattle.ff_lines.proofs.PageCounts.{count_below-most}
use Rattle.ff_model.specs.Image.{Content}
use Rattle.ff_mount.proofs.Planning.{planned_both, planned_stop}
use Rattle.ff_mount.proofs.Resuming.{mounted_content, mounted_image}
use Rattle.ff_mount.specs.Held.{held_content, image_reads, is_read, nv_of}
use Rattle.ff_mount.specs.Mounted.{IsMounted, mount_probes}
use Rattle.ff_mount.specs.Reading.{GoesAsTold, GoesByTold, after_reads}
use Rattle.ff_mount.specs.Sound.{AreSound}
use Rattle.ff_mount.specs.Stops.{StopsBy}
use Rattle.ff_mount.specs.declared.image.Mounted.{Mounted}
use Rattle.ff_mount.specs.declared.stop.MountStop.{MountStop}
use Rattle.ff_scan.specs.Probing.{first_stop}
use Rattle.ff_store.specs.PageStore.{PageStoreView}
use Rattle.ff_store.specs.Remounted.{probed_flash}
use Rattle.ff_sessions.specs.Remounts.{HasRemounted, IsStoppedRemount}

-- neither the mount nor the image was stopped
unplanned_both : (told : Option Planned) (made n m : ℕ) (image : Content)
    → IfSome told (λ plan. first_stop plan made n ≡ None) → GoesByTold told (made + n) m (Ok image)
    → IfSome told (λ plan. first_stop plan made (n + m) ≡ None)
unplanned_both None made n m image first second = tt
unplanned_both (Some plan) made n m image first second = planned_both (Some plan) made n m first second

-- the mount was stopped
stopped_first : (told : Option Planned) (made n m : ℕ) (stop : MountStop) → IfSome told (λ plan. StopsBy plan made n stop)
    → IfSome told (λ plan. StopsBy plan made (n + m) stop)
stopped_first None made n m stop is = tt
stopped_first (Some plan) made n m stop is =
    let here : made ≡ made + 0 = omega arith in
    planned_stop (Some plan) made 0 n (n + m) stop (omega arith) refl (subst (λ (k : ℕ). StopsBy plan k n stop) here is)

-- the image was stopped
stopped_second : (told : Option Planned) (made n m : ℕ) (stop : MountStop)
    → IfSome told (λ plan. first_stop plan made n ≡ None) → GoesByTold {T = Content} told (made + n) m (Err stop)
    → IfSome told (λ plan. StopsBy plan made (n + m) stop)
stopped_second None made n m stop first second = tt
stopped_second (Some plan) made n m stop first second = planned_stop (Some plan) made n m (n + m) stop (omega arith) first second

-- how many reads the image of mounted parts takes
mounted_reads : (g : Geometry) (nv : NvView) (flash : FlashState) (s : PageStoreView) (cache : CacheView) (marks : List ℕ)
    → IsMounted g nv flash s cache marks
    → image_reads g.pages (ways_of cache.slots) s.world.flash.cells ≡ image_reads g.pages nv.slots flash.cells
mounted_reads g nv flash s cache marks mounted =
    ap (λ (n : NvView). image_reads g.pages n.slots s.world.flash.cells) (mounted_content g nv flash s cache marks mounted)
    ∙ ap (λ (f : FlashState). image_reads g.pages nv.slots f.cells) mounted.flash_is

-- the reads of the image went by the plan of the flash that was mounted
told_after : (g : Geometry) (nv : NvView) (flash : FlashState) (s : PageStoreView) (cache : CacheView) (marks : List ℕ)
    (result : Result Content MountStop) → IsMounted g nv flash s cache marks
    → GoesAsTold s.world.flash (image_reads g.pages (ways_of cache.slots) s.world.flash.cells) result
    → GoesByTold flash.plan (flash.operations + mount_probes g) (image_reads g.pages nv.slots flash.cells) result
told_after g nv flash s cache marks result mounted goes =
    subst (λ (n : ℕ). GoesByTold flash.plan (flash.operations + mount_probes g) n result)
    (mounted_reads g nv flash s cache marks mounted)
    (subst (λ (f : FlashState). GoesByTold f.plan f.operations (image_reads g.pages (ways_of cache.slots) s.world.flash.cells) result)
    mounted.flash_is goes)

-- a mounted flash whose image took so many reads
read_flash : (flash : FlashState) (mounted : FlashState) (n m reads : ℕ) → mounted ≡ probed_flash flash n → reads ≡ m
    → record mounted { operations = mounted.operations + reads } ≡ probed_flash flash (n + m)
read_flash flash mounted n m reads is same =
    let all : flash.operations + n + reads ≡ flash.operations + (n + m) = omega arith in
    ap (λ (f : FlashState). record f { operations = f.operations + reads }) is
    ∙ ap (λ (k : ℕ). record (powered_up flash) { operations = k }) all

-- a session may begin over mounted parts after the reads of their image
resume_imaged : (g : Geometry) (nv : NvView) (flash : FlashState) (s : PageStoreView) (cache : CacheView) (marks : List ℕ)
    (reads event : ℕ) → IsWithinLimits g → flash.operations ≤ 2 ^ 61 → AreSound g nv flash → IsMounted g nv flash s cache marks
    → reads ≤ g.pages → event ≤ last_event → CanResume g (after_reads s reads) cache marks event
resume_imaged g nv flash s cache marks reads event limits few sound mounted most not_past =
    let operations = ap (λ (f : FlashState). f.operations) mounted.flash_is in
    let places = limits.flash_pages.high in
    let pages = limits.pages.high in
    resume_read g s cache marks event event reads
    (resume_mounted g s cache nv.slots marks event mounted.store_is mounted.cache_is mounted.over
    (ap length mounted.marks_are ∙ sound.ways.marks) (ap (λ (f : FlashState). f.on) mounted.flash_is) (omega arith) not_past)
    (omega arith) not_past

-- the parts of a mount, and the image of them
over_mounted : (g : Geometry) (nv : NvView) (flash : FlashState) (s t : PageStoreView) (cache : CacheView) (marks : List ℕ)
    (image : Content) → IsWithinLimits g → flash.operations ≤ 2 ^ 61 → AreSound g nv flash → IsMounted g nv flash s cache marks
    → IfSome flash.plan (λ plan. first_stop plan flash.operations (mount_probes g) ≡ None)
    → image ≡ held_content g.pages (nv_of cache marks) s.world.flash.cells
    → t ≡ after_reads s (image_reads g.pages (ways_of cache.slots) s.world.flash.cells)
    → GoesAsTold s.world.flash (image_reads g.pages (ways_of cache.slots) s.world.flash.cells) (Ok image)
    → HasRemounted g nv flash t cache marks image
over_mounted g nv flash s t cache marks image limits few sound mounted unplanned is read goes =
    let reads = image_reads g.pages (ways_of cache.slots) s.world.flash.cells in
    let same = mounted_reads g nv flash s cache marks mounted in
    let most = count_below-most (is_read (ways_of cache.slots) s.world.flash.cells) g.pages in
    record {
      image_is = is ∙ mounted_image g nv flash s cache marks mounted;
      base_is = is ∙ ap (λ (x : PageStoreView). held_content g.pages (nv_of cache marks) x.world.flash.cells) (sym read);
      flash_is = ap (λ (x : PageStoreView). x.world.flash) read
          ∙ read_flash flash s.world.flash (mount_probes g) (image_reads g.pages nv.slots flash.cells) reads mounted.flash_is same;
      resumes = λ event not_past. subst (λ (x : PageStoreView). CanResume g x cache marks event) (sym read)
          (resume_imaged g nv flash s cache marks reads event limits few sound mounted most not_past);
      unplanned = unplanned_both flash.plan flash.operations (mount_probes g) (image_reads g.pages nv.slots flash.cells) image
          unplanned (told_after g nv flash s cache marks (Ok image) mounted goes);
    }

-- the same, where the image left the cache and the marks
pub imaged : {F : Type 0} (g : Geometry) (nv : NvView) (flash : FlashState) (old new : Mounted F) (image : Content)
    → IsWithinLimits g → flash.operations ≤ 2 ^ 61 → AreSound g nv flash → IsMounted g nv flash old.store old.cache old.marks
    → IfSome flash.plan (λ plan. first_stop plan flash.operations (mount_probes g) ≡ None)
    → image ≡ held_content g.pages (nv_of old.cache old.marks) old.store.world.flash.cells
    → new.store ≡ after_reads old.store (image_reads g.pages (ways_of old.cache.slots) old.store.world.flash.cells)
    → GoesAsTold old.store.world.flash (image_reads g.pages (ways_of old.cache.slots) old.store.world.flash.cells) (Ok image)
    → new ≡ record old { store = new.store } → HasRemounted g nv flash new.store new.cache new.marks image
imaged {F} g nv flash old new image limits few sound mounted unplanned is read goes kept =
    subst (λ (m : Mounted F). HasRemounted g nv flash new.store m.cache m.marks image) (sym kept)
    (over_mounted g nv flash old.store new.store old.cache old.marks image limits few sound mounted unplanned is read goes)

-- the image was stopped
pub image_stopped : (g : Geometry) (nv : NvView) (flash : FlashState) (s : PageStoreView) (cache : CacheView) (marks : List ℕ)
    (stop : MountStop) → IsMounted g nv flash s cache marks
    → IfSome flash.plan (λ plan. first_stop plan flash.operations (mount_probes g) ≡ None)
    → GoesAsTold {T = Content} s.world.flash (image_reads g.pages (ways_of cache.slots) s.world.flash.cells) (Err stop)
    → IsStoppedRemount g nv flash stop
image_stopped g nv flash s cache marks stop mounted unplanned goes =
    stopped_second flash.plan flash.operations (mount_probes g) (image_reads g.pages nv.slots flash.cells) stop unplanned
    (told_after g nv flash s cache marks (Err stop) mounted goes)

-- the mount was stopped
pub mount_stopped : (g : Geometry) (nv : NvView) (flash : FlashState) (why stop : MountStop)
    → IfSome flash.plan (λ plan. StopsBy plan flash.operations (mount_probes g) why) → stop ≡ why → IsStoppedRemount g nv flash stop
mount_stopped g nv flash why stop stops is =
    subst (λ (x : MountStop). IsStoppedRemount g nv flash x) (sym is)
    (stopped_first flash.plan flash.operations (mount_probes g) (image_reads g.pages nv.slots flash.cells) why stops)
