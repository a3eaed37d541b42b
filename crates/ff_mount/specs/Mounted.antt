-- What a mount makes of battery-backed content and a flash, and what it hands back where it is refused.
use Rattle.std.specs.Prelude.{ℕ, ◌*◌, ◌≡◌, List}
use Rattle.ff_base.specs.declared.geometry.Geometry.{Geometry}
use Rattle.ff_cache.specs.Cache.{CacheView}
use Rattle.ff_cache.specs.Nv.{IsFromNv, NvView}
use Rattle.ff_flash.specs.FlashState.{FlashState, powered_up}
use Rattle.ff_mount.specs.Over.{IsCacheOver}
use Rattle.ff_mount.specs.Reading.{HasStopped}
use Rattle.ff_mount.specs.Sound.{AreSound}
use Rattle.ff_mount.specs.declared.stop.MountStop.{MountStop}
use Rattle.ff_store.specs.PageStore.{PageStoreView}
use Rattle.ff_store.specs.Remounted.{IsRemounted, probed_flash}

-- how many operations a mount makes: one probe of each place
abbrev pub mount_probes : Geometry → ℕ
mount_probes g = g.blocks * g.per_block

-- the cache and the marks of the content, over the store that the probes of all places tell of
pub record IsMounted (g : Geometry) (nv : NvView) (flash : FlashState) (store : PageStoreView)
    (cache : CacheView) (marks : List ℕ) : Type 0 where
  pub store_is : IsRemounted g store
  pub flash_is : store.world.flash ≡ probed_flash flash (mount_probes g)
  pub cache_is : IsFromNv g.sets g.ways nv.slots cache
  pub marks_are : marks ≡ nv.marks
  pub over : IsCacheOver g store cache

-- the same content, and a flash of the same cells whose power was turned on: both are sound
pub record IsMountRefused (g : Geometry) (nv : NvView) (flash : FlashState) (stop : MountStop)
    (new_nv : NvView) (new_flash : FlashState) : Type 0 where
  pub content : new_nv ≡ nv
  pub flash_is : HasStopped (powered_up flash) stop new_flash
  pub sound : AreSound g new_nv new_flash
