-- The mount of what a session left, and the image of it.
use Rattle.std.specs.Prelude.{ℕ, ◌≤◌, ◌≡◌, List, None, IfSome}
use Rattle.ff_base.specs.Count.{last_event}
use Rattle.ff_base.specs.declared.geometry.Geometry.{Geometry}
use Rattle.ff_cache.specs.Cache.{CacheView}
use Rattle.ff_cache.specs.Nv.{NvView}
use Rattle.ff_core.specs.Resume.{CanResume}
use Rattle.ff_flash.specs.FlashState.{FlashState}
use Rattle.ff_model.specs.Image.{Content}
use Rattle.ff_mount.specs.Held.{held_content, nv_of}
use Rattle.ff_mount.specs.Stops.{StopsBy}
use Rattle.ff_mount.specs.declared.stop.MountStop.{MountStop}
use Rattle.ff_scan.specs.Probing.{first_stop}
use Rattle.ff_store.specs.PageStore.{PageStoreView}
use Rattle.ff_store.specs.Remounted.{probed_flash}
use Rattle.ff_sessions.specs.Sessions.{remount_operations}

-- the parts and the image of a remount that went well: the image is what was held, and a session may begin over the parts
-- with it
pub record HasRemounted (geometry : Geometry) (nv : NvView) (flash : FlashState) (store : PageStoreView)
    (cache : CacheView) (marks : List ℕ) (image : Content) : Type 0 where
  pub image_is : image ≡ held_content geometry.pages nv flash.cells
  pub base_is : image ≡ held_content geometry.pages (nv_of cache marks) store.world.flash.cells
  pub flash_is : store.world.flash
      ≡ probed_flash flash (remount_operations geometry nv flash)
  pub resumes : (event : ℕ) → event ≤ last_event → CanResume geometry store cache marks event
  pub unplanned : IfSome flash.plan (λ plan. first_stop plan flash.operations
      (remount_operations geometry nv flash) ≡ None)

-- a remount that was stopped, by want of memory or by the first of its operations that the plan stops
abbrev pub IsStoppedRemount : Geometry → NvView → FlashState → MountStop → Type 0
IsStoppedRemount geometry nv flash stop = IfSome flash.plan (λ plan. StopsBy plan flash.operations
    (remount_operations geometry nv flash) stop)
