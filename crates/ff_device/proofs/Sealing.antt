-- The flush that waited was sealed.
use Rattle.std.proofs.Common.{◌≡◌, ◌<◌, ℕ, ◌||◌, Bool, true, false, length, refl, sym, ap, ◌∙◌, Option, Some, None, length-set, get_or-set_same, get_or-set_other}
use Rattle.std.specs.Option.{is_some}
use Rattle.std.specs.Prelude.{IsSome}
use Rattle.ff_cache.specs.Cache.{IsCacheSound}
use Rattle.ff_cache.specs.Slots.{held, cache_slot_at, slot_flushed}
use Rattle.ff_cache.specs.declared.slot.CacheSlot.{CacheSlot}
use Rattle.ff_lines.specs.Posts.{waits_in}
use Rattle.ff_device.specs.Changes.{Changes}
use Rattle.ff_device.specs.Parts.{cached, is_written, IsDeviceSound, Parts}
use Rattle.ff_device.specs.StoreState.{stored_in, IsStoreStateSound, StoreState}
use Rattle.ff_device.specs.StoreSteps.{StoresPage}
use Rattle.ff_device.proofs.Edits.{edited_sound, Edited}
use Rattle.ff_device.proofs.Holding.{changed_by}

some_held : (o : Option CacheSlot) (slot : CacheSlot) → o ≡ Some slot → IsSome o
some_held None slot is = absurd (cc)
some_held (Some found) slot is = refl

-- the page of the flush is cached
pub sealed_held : (old : Parts) (page : ℕ) (new : StoreState) → IsDeviceSound old → StoresPage page old.store new
    → IsSome (held old.cache.slots page)
sealed_held old page new sound seals =
    let f = sound.flushing seals.flush seals.waited in
    some_held (held old.cache.slots page) f.slot (ap (λ q. cached old q) (sym seals.page_is) ∙ f.held)

pub record Sealing (page : ℕ) (old new : Parts) : Type 0 where
  pub sound : IsDeviceSound old
  pub cache : IsCacheSound old.cache
  pub store : IsStoreStateSound old.store
  pub seals : StoresPage page old.store new.store
  pub ends : Changes page slot_flushed old.cache new.cache
  pub window : new.window ≡ old.window
  pub capacity : new.store.capacity ≡ old.store.capacity

abbrev pub sealing_slot : (page : ℕ) (old new : Parts) → Sealing page old new → CacheSlot
sealing_slot page old new s = cache_slot_at old.cache.slots s.ends.index

sealing_within : (page : ℕ) (old new : Parts) → Sealing page old new → page < length old.store.pages
sealing_within page old new s = rw (sym s.seals.page_is) (s.store.pending s.seals.flush s.seals.waited)

pub sealing_mapped : (page : ℕ) (old new : Parts) → (s : Sealing page old new) → stored_in new.store page ≡ Some s.seals.flush.bytes
sealing_mapped page old new s =
    rw s.seals.pages (get_or-set_same old.store.pages page (Some s.seals.flush.bytes) None (sealing_within page old new s))

-- the slot holds the sealed bytes unless it was touched
pub sealing_flush : (page : ℕ) (old new : Parts) → (s : Sealing page old new)
    → (sealing_slot page old new s).dirty ≡ true × ((sealing_slot page old new s).touched ≡ false → (sealing_slot page old new s).bytes ≡ s.seals.flush.bytes)
sealing_flush page old new s =
    let f = s.sound.flushing s.seals.flush s.seals.waited in
    let both : Some (sealing_slot page old new s) ≡ Some f.slot = sym s.ends.held ∙ ap (λ q. cached old q) (sym s.seals.page_is) ∙ f.held in
    let one : sealing_slot page old new s ≡ f.slot = cc in
    rw one (f.dirty, f.same)

all_written : (dirty waits : Bool) → (true || (dirty || waits)) ≡ true
all_written dirty waits = refl

dirty_written : (m waits : Bool) → (m || (true || waits)) ≡ true
dirty_written true waits = refl
dirty_written false waits = refl

sealing_written : (page : ℕ) (old new : Parts) → Sealing page old new → is_written new page ≡ is_written old page
sealing_written page old new s =
    let after : is_written new page ≡ true = rw (sealing_mapped page old new s) refl in
    let dirty : (sealing_slot page old new s).dirty ≡ true = (sealing_flush page old new s).0 in
    let before : is_written old page ≡ true =
    rw (s.ends.held, dirty) (dirty_written (is_some (stored_in old.store page)) (waits_in old.window.posts page)) in
    after ∙ sym before

pub sealing_edited : (page : ℕ) (old new : Parts) → (s : Sealing page old new)
    → Edited page (sealing_slot page old new s) (slot_flushed (sealing_slot page old new s)) old new
sealing_edited page old new s = record {
  changed = changed_by page slot_flushed old.cache new.cache s.cache s.ends refl;
  bytes = refl;
  window = s.window;
  stored = λ p apart. rw s.seals.pages (get_or-set_other old.store.pages page p (Some s.seals.flush.bytes) None apart);
  pages = ap length s.seals.pages ∙ length-set old.store.pages page (Some s.seals.flush.bytes);
  capacity = s.capacity;
  written = sealing_written page old new s;
}

pub sealing_sound : (page : ℕ) (old new : Parts) → Sealing page old new → IsDeviceSound new
sealing_sound page old new s =
    let slot = sealing_slot page old new s in
    edited_sound page slot (slot_flushed slot) old new (sealing_edited page old new s) s.sound
    (λ calm. rw (sealing_mapped page old new s) ((sealing_flush page old new s).1 calm))
    (λ flush is. let both : None ≡ Some flush = sym s.seals.done ∙ is in absurd (cc))
