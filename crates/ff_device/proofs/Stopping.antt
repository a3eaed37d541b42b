-- A device whose store stopped, and the pages as they were.
use Rattle.std.proofs.Common.{◌≡◌, inl, inr, ◌⊎◌, Bool, true, false, List, map, cond, refl, sym, ap, ◌∙◌, Option, Some, None}
use Rattle.ff_flash.specs.Cells.{Cell}
use Rattle.ff_flash.specs.FlashState.{FlashState, powered_off}
use Rattle.ff_store.specs.PageStore.{PageStoreView}
use Rattle.ff_map.specs.declared.places.Mapping.{Mapping}
use Rattle.ff_device.specs.Device.{parts_of, DeviceView}
use Rattle.ff_device.specs.Parts.{IsDeviceSound, Parts}
use Rattle.ff_device.specs.StoreState.{PendingFlush, StoreState, bytes_at, flush_at, seen_of}

pending_before : (old new : Option PendingFlush) (flush : PendingFlush) → (new ≡ None) ⊎ (new ≡ old) → new ≡ Some flush → old ≡ Some flush
pending_before old new flush same is = elim same [
  | inl none ↦ let both : Some flush ≡ None = sym is ∙ none in absurd (cc)
  | inr kept ↦ sym kept ∙ is
]

pub stopped_sound : (old : Parts) (store : StoreState) → IsDeviceSound old → store.pages ≡ old.store.pages
    → store.capacity ≡ old.store.capacity → (store.pending ≡ None) ⊎ (store.pending ≡ old.store.pending)
    → IsDeviceSound (record old { store = store })
stopped_sound old store sound pages capacity pending = record {
  pages = λ p is. rw pages (sound.pages p is);
  size = λ p. rw pages (sound.size p);
  clean = λ p slot held clean. rw pages (sound.clean p slot held clean);
  flushing = λ flush is.
      let f = sound.flushing flush (pending_before old.store.pending store.pending flush pending is) in
      record { slot = f.slot; held = f.held; dirty = f.dirty; same = f.same };
  posts = sound.posts;
  waiting = sound.waiting;
  room = rw (pages, capacity) sound.room;
  window = sound.window;
}

off_by : (flash : FlashState) (on : Bool) → (cond on (record flash { on = false; cut = false }) flash).cells ≡ flash.cells
off_by flash true = refl
off_by flash false = refl

-- the store, with its power off
abbrev pub store_off : PageStoreView → PageStoreView
store_off s = record s { world = record s.world { flash = powered_off s.world.flash } }

pub powered_off_sound : (old : DeviceView) → IsDeviceSound (parts_of old)
    → IsDeviceSound (parts_of (record old { store = store_off old.store }))
powered_off_sound old sound =
    let cells : (powered_off old.store.world.flash).cells ≡ old.store.world.flash.cells =
    off_by old.store.world.flash old.store.world.flash.on in
    stopped_sound (parts_of old) (seen_of (store_off old.store)) sound
    (ap (λ (c : List Cell). map (λ (m : Option Mapping). bytes_at c m) old.store.world.places.pages) cells)
    refl
    (inr (ap (λ (c : List Cell). flush_at c old.store.waits) cells))
