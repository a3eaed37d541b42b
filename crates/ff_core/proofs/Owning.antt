-- What a device keeps whose own value is as before.
use Rattle.std.proofs.Common.{◌≡◌, ap}
use Rattle.ff_device.specs.Device.{DeviceView, own_of, parts_of}
use Rattle.ff_device.specs.Parts.{SameShape}
use Rattle.ff_device.specs.declared.device.DeviceOwn.{DeviceOwn}
use Rattle.ff_store.specs.PageStore.{PageStoreView}

pub own_store : (old new : DeviceView) → own_of new ≡ own_of old → new.store ≡ old.store
own_store old new own = ap (λ (o : DeviceOwn PageStoreView). o.store) own

pub own_shape : (old new : DeviceView) → own_of new ≡ own_of old → SameShape (parts_of old) (parts_of new)
own_shape old new own = record {
  sets = ap (λ (o : DeviceOwn PageStoreView). o.sets) own;
  ways = ap (λ (o : DeviceOwn PageStoreView). o.ways) own;
  room = ap (λ (o : DeviceOwn PageStoreView). o.room) own;
}
