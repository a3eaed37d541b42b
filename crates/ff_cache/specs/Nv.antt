-- What a contract sees of what the battery keeps, and the cache that is made of it.
use Rattle.std.specs.Prelude.{ℕ, ◌+◌, ◌*◌, ◌<◌, ◌≡◌, Bool, false, List, map, Option, slice_index, if◌then◌else◌}
use Rattle.ff_base.specs.declared.numbers.PageNo.{PageNo}
use Rattle.ff_cache.specs.Cache.{values_at, AreValues, CacheView}
use Rattle.ff_cache.specs.Slots.{is_empty, cache_slot_at}
use Rattle.ff_cache.specs.declared.slot.CacheSlot.{CacheSlot}
use Rattle.ff_rrip.specs.Ways.{distant_value, long_value}

-- a way of the battery-backed cache
pub record NvWay : Type 0 where
  pub page : Option PageNo
  pub dirty : Bool
  pub bytes : List ℕ

pub record NvView : Type 0 where
  -- the ways of each set one after another
  pub slots : List NvWay
  -- the marked lines of each page
  pub marks : List ℕ

-- what the battery keeps of a slot
abbrev pub way_of : CacheSlot → NvWay
way_of slot = record { page = slot.page; dirty = slot.dirty; bytes = slot.bytes }

abbrev pub ways_of : List CacheSlot → List NvWay
ways_of slots = map way_of slots

-- the slot of a way after a mount, neither touched nor pinned
abbrev pub slot_of : NvWay → CacheSlot
slot_of way =
    record {
      page = way.page;
      dirty = way.dirty;
      touched = false;
      pinned = false;
      bytes = way.bytes;
    }

abbrev pub slots_of : List NvWay → List CacheSlot
slots_of ways = map slot_of ways

-- the value of a way after a mount
abbrev pub mounted_value : CacheSlot → ℕ
mounted_value slot = if is_empty slot then distant_value else long_value

-- each way has the value that a mount gives it
pub record AreMounted (sets ways : ℕ) (slots : List CacheSlot) (values : List (List ℕ)) : Type 0 where
  pub sizes : AreValues sets ways values
  pub each : (set way : ℕ) → set < sets → way < ways
      → slice_index (values_at values set) way
      ≡ mounted_value (cache_slot_at slots (set * ways + way))

-- the cache of what the battery kept
pub record IsFromNv (sets ways : ℕ) (kept : List NvWay) (cache : CacheView) : Type 0 where
  pub slots : cache.slots ≡ slots_of kept
  pub values : AreMounted sets ways cache.slots cache.values
  pub set_count : cache.sets ≡ sets
  pub way_count : cache.ways ≡ ways
