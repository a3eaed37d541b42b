-- What the steps of a store make of it, as a device sees it.
use Rattle.std.specs.Prelude.{ℕ, ◌+◌, ◌<◌, ◌≤◌, ◌≡◌, true, false, List, Option, None, Some, Result, Ok, Err, slice_set}
use Rattle.ff_flash.specs.declared.flash.FlashStop.{FlashStop}
use Rattle.ff_flash.specs.declared.flash.FlashStop.TheVariants.{Failed, Off}
use Rattle.ff_store.specs.Calls.{IsCall}
use Rattle.ff_store.specs.PageStore.{PageStoreView}
use Rattle.ff_store.specs.declared.store.FlushStep.{FlushStep}
use Rattle.ff_store.specs.declared.store.FlushStep.TheVariants.{Collected, Programmed, Sealed}
use Rattle.ff_device.specs.StoreState.{PendingFlush, StoreState}

-- one call of the store was made, which stopped so, or didn't stop; or the store is as it was
pub record CallsOnce (old : PageStoreView) (stop : Option FlashStop) (new : PageStoreView)
    : Type 0 where
  pub with_power : old.world.flash.on ≡ true → IsCall old stop new
  pub without_power : old.world.flash.on ≡ false → new ≡ old

-- at most one operation was begun, and it went well
pub record WentOn (old new : StoreState) : Type 0 where
  pub on : new.on ≡ old.on
  pub faults : new.faults ≡ old.faults
  pub no_fall : old.used ≤ new.used
  pub one_more : new.used ≤ old.used + 1

-- an operation failed, and the power stayed on
pub record DidFail (old new : StoreState) : Type 0 where
  pub was : old.on ≡ true
  pub on : new.on ≡ true
  pub faults : new.faults ≡ old.faults + 1
  pub used : new.used ≡ old.used + 1

-- the power is off: it was before, or an operation was cut
pub record WentOff (old new : StoreState) : Type 0 where
  pub on : new.on ≡ false
  pub cut : old.on ≡ true → new.used ≡ old.used + 1
  pub no_fall : old.used ≤ new.used
  pub one_more : new.used ≤ old.used + 1

-- what a call that stops so, or doesn't stop, makes of power, operations and faults
abbrev pub Powers : Option FlashStop → StoreState → StoreState → Type 0
Powers None old new = WentOn old new
Powers (Some Failed) old new = DidFail old new
Powers (Some Off) old new = WentOff old new

-- what no call of a store changes
pub record SameLimits (old new : StoreState) : Type 0 where
  pub most_left : new.most_left ≡ old.most_left
  pub capacity : new.capacity ≡ old.capacity

-- a step of the flush of a page
abbrev pub MakesFlushStep : ℕ → List ℕ → Result FlushStep FlashStop → StoreState → StoreState
    → Type 0
MakesFlushStep page bytes (Ok Programmed) old new =
    new.pending ≡ Some (record { page = page; bytes = bytes })
MakesFlushStep page bytes (Ok Collected) old new = (new.pending ≡ None) × (new.left < old.left)
MakesFlushStep page bytes (Ok (Sealed other)) old new = ⊥
MakesFlushStep page bytes (Err stop) old new = new.pending ≡ None

-- the flush of this page is sealed, and the page has its bytes
pub record StoresPage (page : ℕ) (old new : StoreState) : Type 0 where
  pub flush : PendingFlush
  pub waited : old.pending ≡ Some flush
  pub page_is : flush.page ≡ page
  pub pages : new.pages ≡ slice_set old.pages page (Some flush.bytes)
  pub done : new.pending ≡ None

-- a seal of the flush that waits
abbrev pub SealsFlush : Result FlushStep FlashStop → StoreState → StoreState → Type 0
SealsFlush (Ok (Sealed page)) old new = StoresPage page.0 old new
SealsFlush (Ok _) old new = ⊥
SealsFlush (Err Failed) old new = (new.pages ≡ old.pages) × (new.pending ≡ None)
SealsFlush (Err Off) old new = (new.pages ≡ old.pages) × (new.pending ≡ old.pending)
