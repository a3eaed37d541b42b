-- The rows of a step of work, the first of which that applies is made.
use Rattle.std.specs.Prelude.{ℕ, ◌<◌, ◌≡◌, ◌⊎◌, true, false, Option, None, Some, slice_set}
use Rattle.std.specs.Option.{is_some}
use Rattle.ff_base.specs.declared.numbers.PageNo.{PageNo}
use Rattle.ff_cache.specs.Cache.{is_full_set, way_at, with_value, IsChosen, IsEmptyWay}
use Rattle.ff_cache.specs.Slots.{cache_slot_at, slot_filled, slot_flushed, slot_flushing}
use Rattle.ff_flash.specs.declared.flash.FlashStop.{FlashStop}
use Rattle.ff_flash.specs.declared.flash.FlashStop.TheVariants.{Failed as FailedStop, Off as OffStop}
use Rattle.ff_lines.specs.DeviceState.{IsDrained}
use Rattle.ff_lines.specs.declared.device.Work.{Work}
use Rattle.ff_lines.specs.declared.device.Work.TheVariants.{Ready, Stepped, Pinned, Failed, Off}
use Rattle.ff_rrip.specs.Ways.{is_allowed, long_value}
use Rattle.ff_device.specs.Changes.{Changes}
use Rattle.ff_device.specs.Device.{lines_of}
use Rattle.ff_device.specs.Draining.{SameFrames}
use Rattle.ff_device.specs.Parts.{Parts}
use Rattle.ff_device.specs.Steps.{chosen_way, may_go_at}
use Rattle.ff_device.specs.StoreState.{is_stored, stored_bytes}
use Rattle.ff_device.specs.StoreSteps.{StoresPage}

-- how an answer stopped, if it did
abbrev pub stop_of_work : Work → Option FlashStop
stop_of_work Failed = Some FailedStop
stop_of_work Off = Some OffStop
stop_of_work _ = None

-- the cache and the window are as before, and so are the pages of the store
pub record IsStopped (old new : Parts) : Type 0 where
  pub cache : new.cache ≡ old.cache
  pub window : new.window ≡ old.window
  pub pages : new.store.pages ≡ old.store.pages

-- the flush that waited was sealed: the slot of its page is clean, unless it was touched since the program
pub record HasSealed (old new : Parts) : Type 0 where
  pub page : ℕ
  pub sealed : StoresPage page old.store new.store
  pub cache : Changes page slot_flushed old.cache new.cache
  pub window : new.window ≡ old.window

-- a page was fetched into a slot, without a call of the flash where it isn't mapped
pub record IsFetched (page slot : ℕ) (old new : Parts) : Type 0 where
  pub cache : new.cache ≡ record old.cache {
    slots = slice_set old.cache.slots slot (slot_filled page (stored_bytes old.store page));
    values = with_value old.cache slot long_value;
  }
  pub window : new.window ≡ old.window
  pub pages : new.store.pages ≡ old.store.pages
  pub pending : new.store.pending ≡ old.store.pending
  pub unmapped : is_stored old.store page ≡ false → new.store ≡ old.store

-- the bytes of a slot were programmed
pub record HasProgrammed (slot : ℕ) (old new : Parts) : Type 0 where
  pub page : PageNo
  pub held : (cache_slot_at old.cache.slots slot).page ≡ Some page
  pub cache : Changes page.0 slot_flushing old.cache new.cache
  pub window : new.window ≡ old.window
  pub pages : new.store.pages ≡ old.store.pages
  pub pending : new.store.pending ≡ Some
      (record { page = page.0; bytes = (cache_slot_at old.cache.slots slot).bytes })

-- the store made a collection step
pub record IsCollected (old new : Parts) : Type 0 where
  pub same : IsStopped old new
  pub pending : new.store.pending ≡ None
  pub fewer : new.store.left < old.store.left

-- each way of the page's set is pinned, and this page is in the least
pub record IsPinnedSet (page : ℕ) (named : PageNo) (old : Parts) : Type 0 where
  pub pinned : (way : ℕ) → way < old.cache.ways → (way_at old.cache page way).pinned ≡ true
  pub least : (way_at old.cache page 0).page ≡ Some named

-- a way of the page's set isn't pinned
pub record HasUnpinned (page : ℕ) (old : Parts) : Type 0 where
  pub way : ℕ
  pub within : way < old.cache.ways
  pub unpinned : (way_at old.cache page way).pinned ≡ false

-- a way isn't pinned, and the window was drained
pub record HasDrained (page : ℕ) (old new : Parts) : Type 0 where
  pub unpinned : HasUnpinned page old
  pub drained : IsDrained (lines_of old) (lines_of new)
  pub frames : SameFrames old.cache new.cache
  pub room : new.window.room ≡ old.window.room
  pub store : new.store ≡ old.store

-- the way that gives way was chosen among those that may, and the values of the set alone may have been raised for it
pub record IsRaised (page slot : ℕ) (old new : Parts) : Type 0 where
  pub allowed : ℕ
  pub ways : (way : ℕ) → way < old.cache.ways → is_allowed allowed way ≡ may_go_at old page way
  pub chosen : IsChosen allowed page old.cache new.cache slot
  pub is : new ≡ record old { cache = record old.cache { values = new.cache.values } }

-- a seal of the flush that waits
abbrev pub SealRow : Work → Parts → Parts → Type 0
SealRow Stepped old new = HasSealed old new
SealRow Failed old new = IsStopped old new × (new.store.pending ≡ None)
SealRow Off old new = IsStopped old new × (new.store.pending ≡ old.store.pending)
SealRow Ready old new = ⊥
SealRow (Pinned other) old new = ⊥

-- a fetch of a page into a slot
abbrev pub FetchRow : ℕ → ℕ → Work → Parts → Parts → Type 0
FetchRow page slot Stepped old new = IsFetched page slot old new
FetchRow page slot Failed old new = IsStopped old new × (new.store.pending ≡ old.store.pending)
FetchRow page slot Off old new = IsStopped old new × (new.store.pending ≡ old.store.pending)
FetchRow page slot Ready old new = ⊥
FetchRow page slot (Pinned other) old new = ⊥

-- a step of the flush of a slot
abbrev pub FlushRow : ℕ → Work → Parts → Parts → Type 0
FlushRow slot Stepped old new = HasProgrammed slot old new ⊎ IsCollected old new
FlushRow slot Failed old new = IsStopped old new × (new.store.pending ≡ None)
FlushRow slot Off old new = IsStopped old new × (new.store.pending ≡ None)
FlushRow slot Ready old new = ⊥
FlushRow slot (Pinned other) old new = ⊥

-- no way of the page's set may give way
abbrev pub NoWayRow : ℕ → Work → Parts → Parts → Type 0
NoWayRow page Stepped old new = HasDrained page old new
NoWayRow page (Pinned named) old new = IsPinnedSet page named old × (new ≡ old)
NoWayRow page Ready old new = ⊥
NoWayRow page Failed old new = ⊥
NoWayRow page Off old new = ⊥

-- a step for a page that isn't resident: the first row that applies. A chosen way that is clean gives way, and one that is
-- dirty is flushed
pub data IsWorkStep (page : ℕ) (old : Parts) (result : Work) (new : Parts) : Type 0 where
  seals : is_some old.store.pending ≡ true → SealRow result old new → IsWorkStep page old result new
  fills : old.store.pending ≡ None → (slot : ℕ) → IsEmptyWay old.cache page slot
      → FetchRow page slot result old new
      → IsWorkStep page old result new
  no_way : old.store.pending ≡ None → is_full_set old.cache page ≡ true → chosen_way old page ≡ None
      → NoWayRow page result old new → IsWorkStep page old result new
  replaces : old.store.pending ≡ None → is_full_set old.cache page ≡ true → (slot : ℕ) (mid : Parts)
      → IsRaised page slot old mid → (cache_slot_at old.cache.slots slot).dirty ≡ false
      → FetchRow page slot result mid new
      → IsWorkStep page old result new
  flushes : old.store.pending ≡ None → is_full_set old.cache page ≡ true → (slot : ℕ) (mid : Parts)
      → IsRaised page slot old mid → (cache_slot_at old.cache.slots slot).dirty ≡ true
      → FlushRow slot result mid new
      → IsWorkStep page old result new
