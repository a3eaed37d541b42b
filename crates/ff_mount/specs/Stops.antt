-- How a mount and an image stop, and at which operation of the flash's plan.
use Rattle.std.specs.Prelude.{ℕ, ◌≡◌, Some}
use Rattle.ff_flash.specs.Plans.{Planned}
use Rattle.ff_flash.specs.declared.flash.FlashStop.{FlashStop}
use Rattle.ff_flash.specs.declared.flash.FlashStop.TheVariants.{Failed, Off as FlashOff}
use Rattle.ff_mount.specs.declared.stop.MountStop.{MountStop}
use Rattle.ff_mount.specs.declared.stop.MountStop.TheVariants.{NoMemory, Fault, Off}
use Rattle.ff_scan.specs.Probing.{first_stop}
use Rattle.ff_store.specs.declared.remount.StoreStop.{StoreStop}
use Rattle.ff_store.specs.declared.remount.StoreStop.TheVariants.{NoMemory as StoreNoMemory, Failed as StoreFailed, Off as StoreOff}

abbrev pub mount_stop : FlashStop → MountStop
mount_stop Failed = Fault
mount_stop FlashOff = Off

-- how a mount stops where the store could not be made
abbrev pub refused_stop : StoreStop → MountStop
refused_stop StoreNoMemory = NoMemory
refused_stop StoreFailed = Fault
refused_stop StoreOff = Off

-- a stop is want of memory, or that of the first of so many operations that the plan stops
abbrev pub StopsBy : Planned → ℕ → ℕ → MountStop → Type 0
StopsBy plan made count NoMemory = Unit {0}
StopsBy plan made count Fault = first_stop plan made count ≡ Some Failed
StopsBy plan made count Off = first_stop plan made count ≡ Some FlashOff
