-- A turn of the collector: the first of its rows that applies.
use Rattle.std.specs.Prelude.{◌≡◌, true, false, None, Result, Ok, Err}
use Rattle.std.specs.Option.{is_some}
use Rattle.ff_flash.specs.declared.flash.FlashStop.{FlashStop}
use Rattle.ff_flash.specs.declared.flash.FlashStop.TheVariants.{Failed as FailedStop, Off as OffStop}
use Rattle.ff_gc.specs.declared.collector.GcStep.{GcStep}
use Rattle.ff_lines.specs.declared.device.Work.{Work}
use Rattle.ff_lines.specs.declared.device.Work.TheVariants.{Ready, Stepped, Failed, Off}
use Rattle.ff_store.specs.Calls.{Collects, WantsCollect}
use Rattle.ff_device.specs.Device.{parts_of, DeviceView}
use Rattle.ff_device.specs.WorkRows.{SealRow}

-- what a step of the collector is answered by
abbrev pub work_of : Result GcStep FlashStop → Work
work_of (Ok step) = Stepped
work_of (Err FailedStop) = Failed
work_of (Err OffStop) = Off

-- the collector made its step, and nothing else was done
pub record HasCollected (old : DeviceView) (result : Work) (new : DeviceView) : Type 0 where
  pub step : Result GcStep FlashStop
  pub collects : Collects old.store.owed old.store step new.store
  pub answer : result ≡ work_of step
  pub rest : new ≡ record old { store = new.store }

-- a flush that waits is sealed, or else a collection that runs or is due makes a step, or else nothing is done
pub data IsCollectTurn (old : DeviceView) (result : Work) (new : DeviceView) : Type 0 where
  turn_off : old.store.world.flash.on ≡ false → result ≡ Off → new ≡ old
      → IsCollectTurn old result new
  turn_seals : old.store.world.flash.on ≡ true → is_some old.store.waits ≡ true
      → SealRow result (parts_of old) (parts_of new) → IsCollectTurn old result new
  turn_collects : old.store.world.flash.on ≡ true → old.store.waits ≡ None
      → WantsCollect old.store → HasCollected old result new → IsCollectTurn old result new
  turn_idle : old.store.world.flash.on ≡ true → old.store.waits ≡ None
      → (WantsCollect old.store → ⊥) → result ≡ Ready → new ≡ old → IsCollectTurn old result new
