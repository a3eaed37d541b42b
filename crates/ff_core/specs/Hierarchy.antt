-- What a contract sees of a hierarchy: the memory over its device, and what chooses the pages that move.
use Rattle.ff_device.specs.Device.{DeviceView, lines_in}
use Rattle.ff_evict.specs.Evictor.{EvictorView}
use Rattle.ff_flash.specs.FlashState.{FlashState}
use Rattle.ff_lines.specs.DeviceState.{DeviceState}
use Rattle.ff_memory.specs.Memory.{MemoryView}
use Rattle.ff_policy.specs.Policy.{PolicyView}

pub record HierarchyView (T E : Type 0) : Type 0 where
  pub memory : MemoryView
  pub device : DeviceView
  pub policy : PolicyView T
  pub evictor : EvictorView E

-- the device as one of lines
abbrev pub lines_under : {T E : Type 0} → HierarchyView T E → DeviceState
lines_under h = lines_in h.device

-- the flash under all
abbrev pub flash_under : {T E : Type 0} → HierarchyView T E → FlashState
flash_under h = h.device.store.world.flash
