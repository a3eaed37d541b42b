-- A turn of the collector keeps the lines.
use Rattle.std.proofs.Common.{◌≡◌, true, Option, None, inl, refl, ap, ◌∙◌}
use Rattle.std.specs.Prelude.{Result, Ok, Err}
use Rattle.ff_cache.specs.Cache.{IsCacheSound}
use Rattle.ff_cache.specs.Slots.{slot_flushed}
use Rattle.ff_flash.specs.declared.flash.FlashStop.{FlashStop}
use Rattle.ff_flash.specs.Injected.{stop_of}
use Rattle.ff_flash.specs.declared.flash.FlashStop.TheVariants.{Failed as FailedStop, Off as OffStop}
use Rattle.ff_gc.specs.declared.collector.GcStep.{GcStep}
use Rattle.ff_lines.specs.Works.{KeepsLines}
use Rattle.ff_lines.specs.declared.device.Work.{Work}
use Rattle.ff_lines.specs.declared.device.Work.TheVariants.{Ready, Stepped, Pinned, Failed, Off}
use Rattle.ff_space.specs.BlockTable.{IsBlockTableSound}
use Rattle.ff_store.proofs.Basics.{collected_same}
use Rattle.ff_store.specs.Calls.{Collects, SameBytes}
use Rattle.ff_store.specs.PageStore.{IsStoreSound, PageStoreView}
use Rattle.ff_store.specs.declared.pending.Pending.{Pending}
use Rattle.ff_device.specs.CollectTurn.{HasCollected, IsCollectTurn, turn_collects, turn_idle, turn_off, turn_seals, work_of}
use Rattle.ff_device.specs.Device.{lines_in, parts_of, DeviceView}
use Rattle.ff_device.specs.Parts.{is_resident, IsDeviceSound, Parts}
use Rattle.ff_device.specs.StoreState.{flush_at, seen_of, IsStoreStateSound}
use Rattle.ff_device.specs.StoreSteps.{CallsOnce, SameLimits}
use Rattle.ff_device.specs.WorkRows.{HasSealed, IsStopped, SealRow, stop_of_work}
use Rattle.ff_lines.specs.PageSets.{SameSet}
use Rattle.ff_device.proofs.Edits.{edited_resident}
use Rattle.ff_device.proofs.Keeping.{edited_keeps, keeps_lines, same_keeps, stopped_keeps, Keeps}
use Rattle.ff_device.proofs.Sealing.{sealing_edited, sealing_slot, Sealing}
use Rattle.ff_device.proofs.SeenPages.{pages_same}
use Rattle.ff_device.proofs.Stopping.{stopped_sound}
use Rattle.ff_device.proofs.StoreCalls.{as_many_pages, limits_of, powers_of}

-- the device after a step of the collector
pub collecting_sound : (old : DeviceView) (new : PageStoreView) (stop : Option FlashStop) (step : Result GcStep FlashStop)
    → IsDeviceSound (parts_of old) → old.store.waits ≡ None → Collects old.store.owed old.store step new
    → CallsOnce old.store stop new → SameBytes old.store new
    → IsDeviceSound (parts_of (record old { store = new }))
collecting_sound old new stop step sound idle collects calls same =
    let none : new.waits ≡ None = ap (λ (s : PageStoreView). s.waits) collects.store ∙ idle in
    stopped_sound (parts_of old) (seen_of new) sound
    (pages_same old.store new (as_many_pages old.store new stop calls) same)
    (limits_of old.store new stop calls).capacity
    (inl (ap (λ (waits : Option Pending). flush_at new.world.flash.cells waits) none))

-- a step stops as its answer says
pub stop_same : (step : Result GcStep FlashStop) → stop_of_work (work_of step) ≡ stop_of step
stop_same (Ok step) = refl
stop_same (Err FailedStop) = refl
stop_same (Err OffStop) = refl

sealing_by : (old new : Parts) → IsDeviceSound old → IsCacheSound old.cache → IsStoreStateSound old.store
    → SameLimits old.store new.store → (s : HasSealed old new) → Sealing s.page old new
sealing_by old new sound cache store same s = record {
  sound = sound;
  cache = cache;
  store = store;
  seals = s.sealed;
  ends = s.cache;
  window = s.window;
  capacity = same.capacity;
}

-- a turn keeps the lines, and the slots hold the pages that they held
record Turned (old new : Parts) : Type 0 where
  keeps : Keeps old new
  resident : SameSet (is_resident old) (is_resident new)

stopped_turned : (old new : Parts) → IsStopped old new → Turned old new
stopped_turned old new s = record { keeps = stopped_keeps old new s; resident = λ page. rw s.cache refl }

same_turned : (old new : Parts) → new ≡ old → Turned old new
same_turned old new same = record { keeps = same_keeps old new same; resident = λ page. rw same refl }

seal_turned : (result : Work) (old new : Parts) → IsDeviceSound old → IsCacheSound old.cache → IsStoreStateSound old.store
    → SameLimits old.store new.store → SealRow result old new → Turned old new
seal_turned Stepped old new sound cache store same s =
    let sealing = sealing_by old new sound cache store same s in
    let slot = sealing_slot s.page old new sealing in
    let edited = sealing_edited s.page old new sealing in
    record {
      keeps = edited_keeps s.page slot (slot_flushed slot) old new edited refl;
      resident = edited_resident s.page slot (slot_flushed slot) old new edited;
    }
seal_turned Failed old new sound cache store same s = stopped_turned old new s.0
seal_turned Off old new sound cache store same s = stopped_turned old new s.0
seal_turned Ready old new sound cache store same s = absurd s
seal_turned (Pinned other) old new sound cache store same s = absurd s

collect_turned : (result : Work) (old new : DeviceView) → IsStoreSound old.store → IsBlockTableSound old.store.world.table
    → CallsOnce old.store (stop_of_work result) new.store → old.store.world.flash.on ≡ true → HasCollected old result new
    → Turned (parts_of old) (parts_of new)
collect_turned result old new store table calls on c =
    let same = collected_same old.store new.store old.store.owed c.step store on table c.collects in
    stopped_turned (parts_of old) (parts_of new) (record {
      cache = ap (λ (d : DeviceView). d.cache) c.rest;
      window = ap (λ (d : DeviceView). d.window) c.rest;
      pages = pages_same old.store new.store (as_many_pages old.store new.store (stop_of_work result) calls) same;
    })

turned : (result : Work) (old new : DeviceView) → IsDeviceSound (parts_of old) → IsCacheSound old.cache
    → IsStoreStateSound (seen_of old.store) → IsStoreSound old.store → IsBlockTableSound old.store.world.table
    → CallsOnce old.store (stop_of_work result) new.store → IsCollectTurn old result new
    → Turned (parts_of old) (parts_of new)
turned result old new device cache seen store table calls (turn_off down is same) =
    same_turned (parts_of old) (parts_of new) (ap parts_of same)
turned result old new device cache seen store table calls (turn_seals on waits row) =
    seal_turned result (parts_of old) (parts_of new) device cache seen
    (limits_of old.store new.store (stop_of_work result) calls) row
turned result old new device cache seen store table calls (turn_collects on idle wants row) =
    collect_turned result old new store table calls on row
turned result old new device cache seen store table calls (turn_idle on idle wants is same) =
    same_turned (parts_of old) (parts_of new) (ap parts_of same)

pub turn_lines : (result : Work) (old new : DeviceView) → IsDeviceSound (parts_of old) → IsCacheSound old.cache
    → IsStoreStateSound (seen_of old.store) → IsStoreSound old.store → IsBlockTableSound old.store.world.table
    → CallsOnce old.store (stop_of_work result) new.store → IsCollectTurn old result new
    → old.store.world.flash.on ≡ true → KeepsLines (lines_in old) (lines_in new)
turn_lines result old new device cache seen store table calls turn on =
    keeps_lines result (parts_of old) (parts_of new)
    (turned result old new device cache seen store table calls turn).keeps
    (limits_of old.store new.store (stop_of_work result) calls)
    (powers_of old.store new.store (stop_of_work result) on calls)

pub turn_resident : (result : Work) (old new : DeviceView) → IsDeviceSound (parts_of old) → IsCacheSound old.cache
    → IsStoreStateSound (seen_of old.store) → IsStoreSound old.store → IsBlockTableSound old.store.world.table
    → CallsOnce old.store (stop_of_work result) new.store → IsCollectTurn old result new
    → SameSet (is_resident (parts_of old)) (is_resident (parts_of new))
turn_resident result old new device cache seen store table calls turn =
    (turned result old new device cache seen store table calls turn).resident

seal_window : (result : Work) (old new : Parts) → SealRow result old new → new.window ≡ old.window
seal_window Stepped old new s = s.window
seal_window Failed old new s = s.0.window
seal_window Off old new s = s.0.window
seal_window Ready old new s = absurd s
seal_window (Pinned other) old new s = absurd s

pub turn_window : (result : Work) (old new : DeviceView) → IsCollectTurn old result new → new.window ≡ old.window
turn_window result old new (turn_off down is same) = rw same refl
turn_window result old new (turn_seals on waits row) = seal_window result (parts_of old) (parts_of new) row
turn_window result old new (turn_collects on idle wants row) = rw row.rest refl
turn_window result old new (turn_idle on idle wants is same) = rw same refl
