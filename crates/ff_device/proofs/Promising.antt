-- What a step for a page that isn't resident promises, by the row and the call that it made.
use Rattle.std.proofs.Common.{◌≡◌, ◌<◌, ℕ, true, false, length}
use Rattle.ff_cache.specs.Cache.{IsCacheSound}
use Rattle.ff_cache.specs.Slots.{held}
use Rattle.ff_lines.specs.Works.{KeepsLines, Works}
use Rattle.ff_lines.specs.declared.device.Work.{Work}
use Rattle.ff_device.specs.Device.{lines_in, parts_of, DeviceView}
use Rattle.ff_device.specs.Parts.{is_resident, IsDeviceSound}
use Rattle.ff_device.specs.StoreState.{seen_of, IsStoreStateSound}
use Rattle.ff_device.specs.StoreSteps.{CallsOnce}
use Rattle.ff_device.specs.WorkRows.{IsWorkStep, stop_of_work}
use Rattle.ff_device.proofs.StoreCalls.{limits_of, powers_of}
use Rattle.ff_device.proofs.Working.{absent_of, step_promised, Promised}

promised : (page : ℕ) (result : Work) (old new : DeviceView) → IsDeviceSound (parts_of old) → IsCacheSound old.cache
    → IsStoreStateSound (seen_of old.store) → IsStoreStateSound (seen_of new.store)
    → page < length (seen_of old.store).pages → is_resident (parts_of old) page ≡ false
    → old.store.world.flash.on ≡ true → IsWorkStep page (parts_of old) result (parts_of new)
    → CallsOnce old.store (stop_of_work result) new.store → Promised page result (parts_of old) (parts_of new)
promised page result old new device cache before after in_range absent on row calls =
    step_promised page result (parts_of old) (parts_of new) (record {
      sound = device;
      cache = cache;
      store = before;
      in_range = in_range;
      absent = absent_of (held old.cache.slots page) absent;
      on = on;
      after = after;
      same = limits_of old.store new.store (stop_of_work result) calls;
    }) row (powers_of old.store new.store (stop_of_work result) on calls)

pub works_promised : (page : ℕ) (result : Work) (old new : DeviceView) → IsDeviceSound (parts_of old)
    → IsCacheSound old.cache → IsStoreStateSound (seen_of old.store) → IsStoreStateSound (seen_of new.store)
    → page < length (seen_of old.store).pages → is_resident (parts_of old) page ≡ false
    → old.store.world.flash.on ≡ true → IsWorkStep page (parts_of old) result (parts_of new)
    → CallsOnce old.store (stop_of_work result) new.store → Works page result (lines_in old) (lines_in new)
works_promised page result old new device cache before after in_range absent on row calls =
    (promised page result old new device cache before after in_range absent on row calls).works

pub keeps_promised : (page : ℕ) (result : Work) (old new : DeviceView) → IsDeviceSound (parts_of old)
    → IsCacheSound old.cache → IsStoreStateSound (seen_of old.store) → IsStoreStateSound (seen_of new.store)
    → page < length (seen_of old.store).pages → is_resident (parts_of old) page ≡ false
    → old.store.world.flash.on ≡ true → IsWorkStep page (parts_of old) result (parts_of new)
    → CallsOnce old.store (stop_of_work result) new.store → KeepsLines (lines_in old) (lines_in new)
keeps_promised page result old new device cache before after in_range absent on row calls =
    (promised page result old new device cache before after in_range absent on row calls).keeps
