-- What a contract sees of a device: its parts, and the device as one of lines.
use Rattle.std.specs.Prelude.{List, Option, length, map}
use Rattle.ff_base.specs.declared.numbers.PageNo.{PageNo}
use Rattle.ff_cache.specs.Cache.{CacheView}
use Rattle.ff_lines.specs.DeviceState.{DeviceState}
use Rattle.ff_store.specs.PageStore.{PageStoreView}
use Rattle.ff_window.specs.Window.{WindowView}
use Rattle.ff_device.specs.Parts.{is_pinned, is_resident, is_written, line_below, Parts}
use Rattle.ff_device.specs.declared.device.DeviceOwn.{DeviceOwn}
use Rattle.ff_device.specs.Steps.{most_steps, steps_to}
use Rattle.ff_device.specs.StoreState.{seen_of}

-- the store, the cache and the window
pub record DeviceView : Type 0 where
  pub store : PageStoreView
  pub cache : CacheView
  pub window : WindowView

-- the page in each slot of a cache
abbrev pub pages_in : CacheView → List (Option PageNo)
pages_in cache = map (λ slot. slot.page) cache.slots

-- what the calls on lines leave
abbrev pub own_of : DeviceView → DeviceOwn PageStoreView
own_of device = record {
  store = device.store;
  sets = device.cache.sets;
  ways = device.cache.ways;
  room = device.window.room;
  pages = pages_in device.cache;
}

-- the parts, with the store as it is seen
abbrev pub parts_of : DeviceView → Parts
parts_of device =
    record { store = seen_of device.store; cache = device.cache; window = device.window }

abbrev pub lines_of : Parts → DeviceState
lines_of parts = record {
  pages = length parts.store.pages;
  posts = parts.window.posts;
  below = line_below parts;
  resident = is_resident parts;
  pinned = is_pinned parts;
  written = is_written parts;
  room = parts.store.capacity;
  on = parts.store.on;
  used = parts.store.used;
  faults = parts.store.faults;
  steps = steps_to parts;
  most_steps = most_steps parts.store;
  most_posts = parts.window.room;
}

-- a device as one of lines
abbrev pub lines_in : DeviceView → DeviceState
lines_in device = lines_of (parts_of device)
