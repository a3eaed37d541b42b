-- The slot of a page was pinned, or let go.
use Rattle.std.proofs.Common.{◌≡◌, inl, inr, ℕ, ◌+◌, Bool, length, refl, sym, ap, ◌∙◌}
use Rattle.std.proofs.lemmas.Bool.{cases_eq, eq-eqb, ne_eqb}
use Rattle.ff_cache.specs.Cache.{IsCacheSound}
use Rattle.ff_cache.specs.Slots.{cache_slot_at, slot_pinned}
use Rattle.ff_cache.specs.declared.slot.CacheSlot.{CacheSlot}
use Rattle.ff_lines.specs.DeviceState.{IsPinned}
use Rattle.ff_device.specs.Changes.{Changes}
use Rattle.ff_device.specs.Device.{lines_of}
use Rattle.ff_device.specs.Parts.{IsDeviceSound, Parts}
use Rattle.ff_device.proofs.Edits.{edited_flushing, edited_lines, edited_resident, edited_sound, edited_written, Edited}
use Rattle.ff_device.proofs.Holding.{changed_by}

pub record Pinning (page : ℕ) (on : Bool) (old new : Parts) : Type 0 where
  pub sound : IsDeviceSound old
  pub cache : IsCacheSound old.cache
  pub pins : Changes page (slot_pinned on) old.cache new.cache
  pub store : new.store ≡ old.store
  pub window : new.window ≡ old.window

abbrev slot_of : (page : ℕ) (on : Bool) (old new : Parts) → Pinning page on old new → CacheSlot
slot_of page on old new p = cache_slot_at old.cache.slots p.pins.index

pinning_edited : (page : ℕ) (on : Bool) (old new : Parts) → (p : Pinning page on old new)
    → Edited page (slot_of page on old new p) (slot_pinned on (slot_of page on old new p)) old new
pinning_edited page on old new p =
    let c = changed_by page (slot_pinned on) old.cache new.cache p.cache p.pins refl in
    record {
      changed = c;
      bytes = refl;
      window = p.window;
      stored = λ q apart. rw p.store refl;
      pages = ap (λ s. length s.pages) p.store;
      capacity = ap (λ s. s.capacity) p.store;
      written = rw (c.here, c.before, p.store, p.window) refl;
    }

pub pinning_sound : (page : ℕ) (on : Bool) (old new : Parts) → Pinning page on old new → IsDeviceSound new
pinning_sound page on old new p =
    let e = pinning_edited page on old new p in
    edited_sound page (slot_of page on old new p) (slot_pinned on (slot_of page on old new p)) old new e p.sound
    (λ clean. rw p.store (p.sound.clean page (slot_of page on old new p) e.changed.before clean))
    (λ flush pending.
    edited_flushing page (slot_of page on old new p) (slot_pinned on (slot_of page on old new p)) old new e flush
    (p.sound.flushing flush (ap (λ s. s.pending) (sym p.store) ∙ pending)) refl (λ h. h))

pub pinning_lines : (page : ℕ) (on : Bool) (old new : Parts) → Pinning page on old new → IsPinned page on (lines_of old) (lines_of new)
pinning_lines page on old new p =
    let e = pinning_edited page on old new p in
    let slot = slot_of page on old new p in
    record {
      lines = edited_lines page slot (slot_pinned on slot) old new e;
      pinned = λ q. elim (cases_eq q page) [
        | inl same ↦ rw (eq-eqb q page same, same, e.changed.here) refl
        | inr apart ↦ rw (ne_eqb q page apart, e.changed.others q apart) refl
      ];
      written = edited_written page slot (slot_pinned on slot) old new e;
      residence = record {
        sizes = record {
          pages = e.pages;
          room = e.capacity;
          most_steps = ap (λ s. s.most_left + 5) p.store;
          most_posts = ap (λ w. w.room) e.window;
        };
        resident = edited_resident page slot (slot_pinned on slot) old new e;
        on = ap (λ s. s.on) p.store;
        used = ap (λ s. s.used) p.store;
        faults = ap (λ s. s.faults) p.store;
      };
    }
