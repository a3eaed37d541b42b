-- The bytes of a dirty slot were programmed.
use Rattle.std.proofs.Common.{◌≡◌, ◌<◌, ◌≤◌, inl, inr, ℕ, ◌==◌, ◌||◌, Bool, true, false, length, refl, sym, ap, ◌∙◌, arith, Option, Some, None}
use Rattle.std.specs.Prelude.{IsSome}
use Rattle.std.proofs.lemmas.Bool.{eq-eqb, eqb-true, or_cases, or_left}
use Rattle.ff_base.specs.declared.numbers.PageNo.{PageNo}
use Rattle.ff_cache.specs.Cache.{IsCacheSound}
use Rattle.ff_cache.specs.Slots.{held, holds, cache_slot_at, slot_flushing}
use Rattle.ff_cache.specs.declared.slot.CacheSlot.{CacheSlot}
use Rattle.ff_cache.proofs.Sets.{slot_of_page}
use Rattle.ff_lines.specs.PageSets.{count_below, with_page}
use Rattle.ff_lines.specs.Posts.{waits_in}
use Rattle.ff_lines.proofs.PageCounts.{count_below-part}
use Rattle.ff_device.specs.Changes.{Changes}
use Rattle.ff_device.specs.Parts.{cached, is_dirty, is_written, IsDeviceSound, Parts}
use Rattle.ff_device.specs.StoreState.{is_stored, PendingFlush}
use Rattle.ff_device.proofs.Edits.{edited_sound, Edited}
use Rattle.ff_device.proofs.Holding.{changed_by}

-- a dirty slot that holds a page
pub record IsDirtySlot (slot : ℕ) (page : PageNo) (old : Parts) : Type 0 where
  pub sound : IsDeviceSound old
  pub cache : IsCacheSound old.cache
  pub within : slot < length old.cache.slots
  pub is : (cache_slot_at old.cache.slots slot).page ≡ Some page
  pub dirty : (cache_slot_at old.cache.slots slot).dirty ≡ true

dirty_holds : (slot : ℕ) (page : PageNo) (old : Parts) → IsDirtySlot slot page old → holds (cache_slot_at old.cache.slots slot) page.0 ≡ true
dirty_holds slot page old d = rw d.is (eq-eqb page.0 page.0 refl)

pub dirty_cached : (slot : ℕ) (page : PageNo) (old : Parts) → IsDirtySlot slot page old → cached old page.0 ≡ Some (cache_slot_at old.cache.slots slot)
dirty_cached slot page old d = (slot_of_page old.cache page.0 slot d.cache d.within (dirty_holds slot page old d)).held

some_held : (o : Option CacheSlot) (slot : CacheSlot) → o ≡ Some slot → IsSome o
some_held None slot is = absurd (cc)
some_held (Some found) slot is = refl

pub dirty_held : (slot : ℕ) (page : PageNo) (old : Parts) → IsDirtySlot slot page old → IsSome (held old.cache.slots page.0)
dirty_held slot page old d = some_held (held old.cache.slots page.0) (cache_slot_at old.cache.slots slot) (dirty_cached slot page old d)

pub dirty_in_range : (slot : ℕ) (page : PageNo) (old : Parts) → IsDirtySlot slot page old → page.0 < length old.store.pages
dirty_in_range slot page old d = d.sound.pages page.0 (rw (dirty_cached slot page old d) refl)

dirty_is_written : (m waits : Bool) → (m || (true || waits)) ≡ true
dirty_is_written true waits = refl
dirty_is_written false waits = refl

written_mapped : (m rest : Bool) → m ≡ true → (m || rest) ≡ true
written_mapped m rest is = or_left m rest is

-- there is room for its page
pub dirty_room : (slot : ℕ) (page : PageNo) (old : Parts) → IsDirtySlot slot page old
    → count_below (with_page page.0 (is_stored old.store)) (length old.store.pages) ≤ old.store.capacity
dirty_room slot page old d =
    let part = count_below-part (with_page page.0 (is_stored old.store)) (is_written old) (length old.store.pages) (λ q is.
    elim (or_cases (q == page.0) (is_stored old.store q) is) [
      | inl same ↦
          rw (eqb-true q page.0 same, dirty_cached slot page old d, d.dirty)
          (dirty_is_written (is_stored old.store page.0) (waits_in old.window.posts page.0))
      | inr mapped ↦ written_mapped (is_stored old.store q) (is_dirty old q || waits_in old.window.posts q) mapped
    ]) in
    let room = d.sound.room in
    omega arith

pub record Programming (slot : ℕ) (page : PageNo) (old new : Parts) : Type 0 where
  pub slot_is : IsDirtySlot slot page old
  pub begins : Changes page.0 slot_flushing old.cache new.cache
  pub window : new.window ≡ old.window
  pub pages : new.store.pages ≡ old.store.pages
  pub capacity : new.store.capacity ≡ old.store.capacity
  pub pending : new.store.pending ≡ Some (record { page = page.0; bytes = (cache_slot_at old.cache.slots slot).bytes })

-- it is the slot that was changed
programming_same : (slot : ℕ) (page : PageNo) (old new : Parts) → (p : Programming slot page old new)
    → cache_slot_at old.cache.slots p.begins.index ≡ cache_slot_at old.cache.slots slot
programming_same slot page old new p =
    let both : Some (cache_slot_at old.cache.slots p.begins.index) ≡ Some (cache_slot_at old.cache.slots slot) = sym p.begins.held ∙ dirty_cached slot page old p.slot_is in
    cc

pub programming_edited : (slot : ℕ) (page : PageNo) (old new : Parts) → Programming slot page old new
    → Edited page.0 (cache_slot_at old.cache.slots slot) (slot_flushing (cache_slot_at old.cache.slots slot)) old new
programming_edited slot page old new p =
    let c = rw (programming_same slot page old new p) at (changed_by page.0 slot_flushing old.cache new.cache p.slot_is.cache p.begins refl) in
    record {
      changed = c;
      bytes = refl;
      window = p.window;
      stored = λ q apart. rw p.pages refl;
      pages = ap length p.pages;
      capacity = p.capacity;
      written = rw (c.here, c.before, p.pages, p.window) refl;
    }

pub programming_sound : (slot : ℕ) (page : PageNo) (old new : Parts) → Programming slot page old new → IsDeviceSound new
programming_sound slot page old new p =
    let e = programming_edited slot page old new p in
    let found : CacheSlot = cache_slot_at old.cache.slots slot in
    edited_sound page.0 found (slot_flushing found) old new e p.slot_is.sound
    (λ clean. let both : true ≡ false = sym p.slot_is.dirty ∙ clean in absurd (cc))
    (λ flush is.
    let flushing : PendingFlush = record { page = page.0; bytes = found.bytes } in
    let both : Some flushing ≡ Some flush = sym p.pending ∙ is in
    let one : flushing ≡ flush = cc in
    rw (sym one) (record { slot = slot_flushing found; held = e.changed.here; dirty = p.slot_is.dirty; same = λ calm. refl }))
