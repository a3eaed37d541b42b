-- A device of which the values alone were changed.
use Rattle.std.proofs.Common.{◌≡◌, ◌<◌, ℕ, Bool, true, false, List, refl, sym, ap, ◌∙◌}
use Rattle.std.specs.Prelude.{if◌then◌else◌}
use Rattle.std.proofs.lemmas.Bool.{lt-ltb}
use Rattle.ff_base.specs.Page.{line_of}
use Rattle.ff_cache.specs.Cache.{with_value, CacheView, IsSlotOf}
use Rattle.ff_cache.specs.Slots.{cache_slot_at}
use Rattle.ff_lines.specs.DeviceState.{DeviceState, IsDrained, SameResidence}
use Rattle.ff_rrip.specs.Ways.{near_value}
use Rattle.ff_device.specs.Device.{lines_of}
use Rattle.ff_device.specs.Draining.{DrainsFirst, HitIf, SameFrames}
use Rattle.ff_device.specs.Parts.{line_below, IsDeviceSound, Parts}

abbrev pub with_values : List (List ℕ) → Parts → Parts
with_values values parts = record parts { cache = record parts.cache { values = values } }

residence_values : (a : DeviceState) (parts : Parts) (values : List (List ℕ)) → SameResidence a (lines_of parts)
    → SameResidence a (lines_of (with_values values parts))
residence_values a parts values r = record {
  sizes = record { pages = r.sizes.pages; room = r.sizes.room; most_steps = r.sizes.most_steps; most_posts = r.sizes.most_posts };
  resident = r.resident;
  on = r.on;
  used = r.used;
  faults = r.faults;
}

-- the lines that were drained stay so
pub drains_values : (count : ℕ) (a : DeviceState) (parts : Parts) (values : List (List ℕ)) → DrainsFirst count a (lines_of parts)
    → DrainsFirst count a (lines_of (with_values values parts))
drains_values count a parts values d = record {
  posts = d.posts;
  below = d.below;
  pinned = d.pinned;
  written = d.written;
  residence = residence_values a parts values d.residence;
}

pub drained_values : (a : DeviceState) (parts : Parts) (values : List (List ℕ)) → IsDrained a (lines_of parts)
    → IsDrained a (lines_of (with_values values parts))
drained_values a parts values d = record {
  lines = record { posts = d.lines.posts; below = d.lines.below };
  pinned = d.pinned;
  written = d.written;
  residence = residence_values a parts values d.residence;
}

-- what a hit makes of the values
pub hit_told : (hit : Bool) (page slot : ℕ) (cache : CacheView) → IsSlotOf cache page slot
    → HitIf hit page cache (if hit then with_value cache slot near_value else cache.values)
hit_told true page slot cache is = record { slot = slot; holds = is.holds; is = refl }
hit_told false page slot cache is = refl

-- a hit after posts were drained
pub hit_frames : (hit : Bool) (page : ℕ) (a b : CacheView) (values : List (List ℕ)) → SameFrames a b → HitIf hit page b values
    → HitIf hit page a values
hit_frames true page a b values frames h = record {
  slot = h.slot;
  holds = rw (sym (frames.page h.slot)) h.holds;
  is = h.is ∙ ap (λ v. with_value (record b { values = v }) h.slot near_value) frames.values
      ∙ ap (λ w. with_value (record b { values = a.values; ways = w }) h.slot near_value) frames.ways;
}
hit_frames false page a b values frames h = h ∙ frames.values

-- the line of the slot that holds the page
pub cached_line : (parts : Parts) (page slot line : ℕ) → IsSlotOf parts.cache page slot → line < 64
    → line_of (cache_slot_at parts.cache.slots slot).bytes line ≡ line_below parts page line
cached_line parts page slot line is within = rw (is.held, lt-ltb line 64 within) refl

-- it keeps what a device keeps
pub sound_values : (parts : Parts) (values : List (List ℕ)) → IsDeviceSound parts → IsDeviceSound (with_values values parts)
sound_values parts values sound = record {
  pages = sound.pages;
  size = sound.size;
  clean = sound.clean;
  flushing = λ flush pending.
      let f = sound.flushing flush pending in record { slot = f.slot; held = f.held; dirty = f.dirty; same = f.same };
  posts = sound.posts;
  waiting = sound.waiting;
  room = sound.room;
  window = sound.window;
}
