-- A device of which the slot of one page was changed, whose bytes stay.
use Rattle.std.proofs.Common.{◌≡◌, ◌≢◌, inl, inr, ℕ, false, List, length, refl, sym, ap, ◌∙◌, Some}
use Rattle.std.proofs.lemmas.Bool.{cases_eq}
use Rattle.ff_cache.specs.declared.slot.CacheSlot.{CacheSlot}
use Rattle.ff_lines.specs.DeviceState.{SameLines}
use Rattle.ff_lines.proofs.PageCounts.{count_below-same}
use Rattle.ff_device.specs.Device.{lines_of}
use Rattle.ff_device.specs.Parts.{Parts, cached, is_pinned, is_resident, is_written, page_below, IsDeviceSound, IsFlushing}
use Rattle.ff_device.specs.StoreState.{PendingFlush, stored_in, stored_bytes}
use Rattle.ff_lines.specs.BlankLine.{line_or_blank}
use Rattle.ff_device.proofs.Holding.{Changed}

-- the slot of a page was changed, and of the other pages the store has what it had
pub record Edited (page : ℕ) (slot after : CacheSlot) (old new : Parts) : Type 0 where
  pub changed : Changed page slot after old.cache.slots new.cache.slots
  pub bytes : after.bytes ≡ slot.bytes
  pub window : new.window ≡ old.window
  pub stored : (p : ℕ) → p ≢ page → stored_in new.store p ≡ stored_in old.store p
  pub pages : length new.store.pages ≡ length old.store.pages
  pub capacity : new.store.capacity ≡ old.store.capacity
  pub written : is_written new page ≡ is_written old page

pub edited_resident : (page : ℕ) (slot after : CacheSlot) (old new : Parts) → Edited page slot after old new
    → (p : ℕ) → is_resident new p ≡ is_resident old p
edited_resident page slot after old new e p = elim (cases_eq p page) [
  | inl same ↦ rw (same, e.changed.here, e.changed.before) refl
  | inr apart ↦ rw (e.changed.others p apart) refl
]

pub edited_below : (page : ℕ) (slot after : CacheSlot) (old new : Parts) → Edited page slot after old new
    → (p : ℕ) → page_below new p ≡ page_below old p
edited_below page slot after old new e p = elim (cases_eq p page) [
  | inl same ↦ rw (same, e.changed.here, e.changed.before) e.bytes
  | inr apart ↦ rw (e.changed.others p apart, e.stored p apart) refl
]

pub edited_pinned : (page : ℕ) (slot after : CacheSlot) (old new : Parts) → Edited page slot after old new
    → after.pinned ≡ slot.pinned → (p : ℕ) → is_pinned new p ≡ is_pinned old p
edited_pinned page slot after old new e pins p = elim (cases_eq p page) [
  | inl same ↦ rw (same, e.changed.here, e.changed.before) pins
  | inr apart ↦ rw (e.changed.others p apart) refl
]

pub edited_written : (page : ℕ) (slot after : CacheSlot) (old new : Parts) → Edited page slot after old new
    → (p : ℕ) → is_written new p ≡ is_written old p
edited_written page slot after old new e p = elim (cases_eq p page) [
  | inl same ↦ rw same e.written
  | inr apart ↦ rw (e.changed.others p apart, e.stored p apart, e.window) refl
]

-- it keeps what a device keeps, where the changed slot and the flush do
pub edited_sound : (page : ℕ) (slot after : CacheSlot) (old new : Parts) → Edited page slot after old new → IsDeviceSound old
    → (after.dirty ≡ false → after.bytes ≡ stored_bytes new.store page)
    → ((flush : PendingFlush) → new.store.pending ≡ Some flush → IsFlushing new flush)
    → IsDeviceSound new
edited_sound page slot after old new e sound clean flushing = record {
  pages = λ p is. rw e.pages (sound.pages p (sym (edited_resident page slot after old new e p) ∙ is));
  size = λ p. ap length (edited_below page slot after old new e p) ∙ sound.size p;
  clean = λ p held is not_dirty. elim (cases_eq p page) [
    | inl same ↦
        let found : Some after ≡ Some held = sym e.changed.here ∙ ap (λ q. cached new q) (sym same) ∙ is in
        let one : after ≡ held = cc in
        rw same (rw one at (clean (ap (λ (s : CacheSlot). s.dirty) one ∙ not_dirty)))
    | inr apart ↦
        rw (e.stored p apart) (sound.clean p held (sym (e.changed.others p apart) ∙ is) not_dirty)
  ];
  flushing = flushing;
  posts = rw e.window sound.posts;
  waiting = λ p waits. edited_resident page slot after old new e p ∙ sound.waiting p (rw e.window at waits);
  room = rw (e.pages, e.capacity, count_below-same (is_written old) (is_written new) (length old.store.pages) (edited_written page slot after old new e)) sound.room;
  window = rw e.window sound.window;
}

-- no line changes
pub edited_lines : (page : ℕ) (slot after : CacheSlot) (old new : Parts) → Edited page slot after old new
    → SameLines (lines_of old) (lines_of new)
edited_lines page slot after old new e = record {
  posts = ap (λ w. w.posts) e.window;
  below = λ p line. ap (λ (bytes : List ℕ). line_or_blank bytes line) (edited_below page slot after old new e p);
}

-- a flush that waits is of the changed slot or of another
pub edited_flushing : (page : ℕ) (slot after : CacheSlot) (old new : Parts) → Edited page slot after old new → (flush : PendingFlush)
    → IsFlushing old flush → after.dirty ≡ slot.dirty → (after.touched ≡ false → slot.touched ≡ false) → IsFlushing new flush
edited_flushing page slot after old new e flush was dirty touched = elim (cases_eq flush.page page) [
  | inl same ↦
      let both : Some slot ≡ Some was.slot = sym e.changed.before ∙ ap (λ q. cached old q) (sym same) ∙ was.held in
      let one : slot ≡ was.slot = cc in
      record {
        slot = after;
        held = ap (λ q. cached new q) same ∙ e.changed.here;
        dirty = dirty ∙ ap (λ (s : CacheSlot). s.dirty) one ∙ was.dirty;
        same = λ calm. e.bytes ∙ ap (λ (s : CacheSlot). s.bytes) one
            ∙ was.same (ap (λ (s : CacheSlot). s.touched) (sym one) ∙ touched calm);
      }
  | inr apart ↦
      record { slot = was.slot; held = e.changed.others flush.page apart ∙ was.held; dirty = was.dirty; same = was.same }
]
