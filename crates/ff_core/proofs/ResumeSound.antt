-- A resumed session is sound.
use Rattle.std.proofs.Common.{◌≡◌, ◌<◌, ◌/◌, ◌%◌, ◌^◌, ℕ, false, List, get_or, Option, Some, None, refl, sym, ap, subst, ◌∙◌, arith}
use Rattle.std.proofs.lemmas.List.{length-replicate}
use Rattle.ff_base.specs.Geometry.{IsWithinLimits}
use Rattle.ff_base.specs.declared.geometry.Geometry.{Geometry}
use Rattle.ff_cache.specs.Cache.{CacheView}
use Rattle.ff_cache.specs.Slots.{held}
use Rattle.ff_cache.specs.declared.slot.CacheSlot.{CacheSlot}
use Rattle.ff_calls.proofs.ToldResumed.{AreHeldBorn, IsResumedDevice, told-resumed}
use Rattle.ff_device.specs.Device.{lines_in}
use Rattle.ff_device.specs.Parts.{slot_passes}
use Rattle.ff_evict.specs.Picker.{PickerView}
use Rattle.ff_frames.specs.Frame.{free_frame}
use Rattle.ff_lines.specs.BlankLine.{line_or_blank}
use Rattle.ff_model.specs.Image.{Content}
use Rattle.ff_model.specs.Legal.{Opening, opening_of}
use Rattle.ff_mount.proofs.Contents.{content_line}
use Rattle.ff_mount.proofs.Sounding.{sound_over}
use Rattle.ff_mount.specs.Held.{held_content, is_held, nv_of}
use Rattle.ff_mount.specs.Sound.{AreSound}
use Rattle.ff_policy.specs.Tuner.{TunerView}
use Rattle.ff_store.specs.PageStore.{PageStoreView}
use Rattle.ff_core.specs.Core.{CoreView}
use Rattle.ff_core.specs.CoreSound.{IsCoreSound, IsCounted, IsSized, IsTimed}
use Rattle.ff_core.specs.Resume.{CanResume, IsUnpinned, pages_held, resumed_core, resumed_device}
use Rattle.ff_core.specs.declared.core_state.Room.{Room}
use Rattle.ff_core.proofs.ResumeDevice.{AreParts, pages-over, read-below, room-over, written-held, written-over}
use Rattle.ff_core.proofs.ResumeHeld.{content-holds, content-marks, content-size, held-count, held-each}

-- the image of mounted parts, and the opening of a session over it
abbrev base_of : Geometry → PageStoreView → CacheView → List ℕ → Content
base_of g store cache marks = held_content g.pages (nv_of cache marks) store.world.flash.cells

abbrev opened : Geometry → PageStoreView → CacheView → List ℕ → ℕ → Opening
opened g store cache marks event = opening_of (base_of g store cache marks) g event store.world.flash.faults

unpinned-by : (cache : CacheView) (page : ℕ) (found : Option CacheSlot) → IsUnpinned cache → held cache.slots page ≡ found
    → slot_passes (λ slot. slot.pinned) found ≡ false
unpinned-by cache page None unpinned is = refl
unpinned-by cache page (Some slot) unpinned is = unpinned page slot is

sound-parts : (g : Geometry) (store : PageStoreView) (cache : CacheView) (marks : List ℕ) (event : ℕ) → AreParts store cache
    → CanResume g store cache marks event → AreSound g (nv_of cache marks) store.world.flash
sound-parts g store cache marks event parts can =
    sound_over g store cache marks parts.store_sound parts.recoverable parts.cache_sound can.over can.marked

resumed-lines : (g : Geometry) (store : PageStoreView) (cache : CacheView) (marks : List ℕ) (event : ℕ) → AreParts store cache
    → CanResume g store cache marks event → IsResumedDevice (opened g store cache marks event) (lines_in (resumed_device store cache g))
resumed-lines g store cache marks event parts can =
    let sound = sound-parts g store cache marks event parts can in
    record {
      posts = refl;
      below = λ address.
          ap (λ (bytes : List ℕ). get_or (line_or_blank bytes (address % 4096 / 64)) (address % 64) 0)
          (read-below store cache g (address / 4096) parts can.over)
          ∙ sym (content_line g (nv_of cache marks) store.world.flash address sound);
      pinned = λ page. unpinned-by cache page (held cache.slots page) can.unpinned refl;
      written = λ page is.
          content-holds g (nv_of cache marks) store.world.flash page sound
          ∙ sym (written-held store cache page parts.store_sound can.none)
          ∙ sym (written-over store cache g page)
          ∙ is;
      room = room-over g store cache can.over;
      pages = pages-over g store cache can.over;
    }

resumed-born : (g : Geometry) (store : PageStoreView) (cache : CacheView) (marks : List ℕ) (event : ℕ) → AreParts store cache
    → CanResume g store cache marks event → AreHeldBorn (opened g store cache marks event) (pages_held (base_of g store cache marks))
resumed-born g store cache marks event parts can =
    let sound = sound-parts g store cache marks event parts can in
    let base : Content = base_of g store cache marks in
    let count = held-count base (is_held (nv_of cache marks).slots store.world.flash.cells)
    (λ page. content-holds g (nv_of cache marks) store.world.flash page sound) in
    let size = content-size g.pages (nv_of cache marks) store.world.flash.cells in
    let few = sound.few in
    record {
      each = λ page. held-each base page;
      few = (let fits = rw size at count in omega arith);
    }

resumed-sized : {T E : Type 0} (g : Geometry) (store : PageStoreView) (cache : CacheView) (marks : List ℕ) (base : Content)
    (tuner : TunerView T) (picker : PickerView E) (room : Room) (event : ℕ) → IsWithinLimits g
    → CanResume g store cache marks event → room.calls < 2 ^ 32 → room.turns < 2 ^ 32
    → IsSized (resumed_core store cache marks base g tuner picker room event)
resumed-sized g store cache marks base tuner picker room event limits can calls turns = record {
  limits = limits;
  pages = refl;
  capacity = refl;
  window = refl;
  steps = (let per_block = can.over.per_block in omega arith);
  sets = can.over.sets;
  ways = can.over.ways;
  counters = length-replicate g.pages 0;
  frames = length-replicate g.frames free_frame;
  slots = length-replicate g.plb None;
  hand = λ some. some;
  few_calls = calls;
  few_turns = turns;
}

resumed-timed : {T E : Type 0} (g : Geometry) (store : PageStoreView) (cache : CacheView) (marks : List ℕ) (base : Content)
    (tuner : TunerView T) (picker : PickerView E) (room : Room) (event : ℕ) → AreParts store cache
    → CanResume g store cache marks event → IsTimed (resumed_core store cache marks base g tuner picker room event)
resumed-timed g store cache marks base tuner picker room event parts can =
    let counted = parts.store_sound.counted in
    let life = can.life in
    let not_past = can.not_past in
    record {
      next = omega arith;
      from_on = omega arith;
      not_past = omega arith;
      few = omega arith;
      on = λ on. omega arith;
      off = omega arith;
    }

resumed-counted : {T E : Type 0} (g : Geometry) (store : PageStoreView) (cache : CacheView) (marks : List ℕ) (base : Content)
    (tuner : TunerView T) (picker : PickerView E) (room : Room) (event : ℕ)
    → IsCounted (resumed_core store cache marks base g tuner picker room event)
resumed-counted g store cache marks base tuner picker room event = record {
  served = refl;
  promotions = refl;
  paid = refl;
  accesses = refl;
  hits = omega arith;
  moves = omega arith;
  faults = omega arith;
  planned = λ some. omega arith;
  kinds = record { reads = omega arith; programs = omega arith; seals = omega arith; erases = omega arith };
}

-- a session over mounted parts and their image
resumed-sound : {T E : Type 0} (g : Geometry) (store : PageStoreView) (cache : CacheView) (marks : List ℕ)
    (tuner : TunerView T) (picker : PickerView E) (room : Room) (event : ℕ) → IsWithinLimits g → AreParts store cache
    → CanResume g store cache marks event → room.calls < 2 ^ 32 → room.turns < 2 ^ 32
    → IsCoreSound (resumed_core store cache marks (base_of g store cache marks) g tuner picker room event)
resumed-sound g store cache marks tuner picker room event limits parts can calls turns =
    let base : Content = base_of g store cache marks in
    record {
      sized = resumed-sized g store cache marks base tuner picker room event limits can calls turns;
      told = told-resumed (opened g store cache marks event) g.frames g.plb marks (pages_held base) (lines_in (resumed_device store cache g))
          (content-marks g.pages (nv_of cache marks) store.world.flash.cells) (omega arith)
          (resumed-born g store cache marks event parts can) (resumed-lines g store cache marks event parts can);
      timed = resumed-timed g store cache marks base tuner picker room event parts can;
      counted = resumed-counted g store cache marks base tuner picker room event;
    }

-- what a resumed session is made of
pub resumed-kept : {T E : Type 0} (core : CoreView T E) (g : Geometry) (store : PageStoreView) (cache : CacheView) (marks : List ℕ)
    (base : Content) (tuner : TunerView T) (picker : PickerView E) (room : Room) (event : ℕ)
    → core ≡ resumed_core store cache marks base g tuner picker room event → base ≡ base_of g store cache marks
    → IsWithinLimits g → AreParts store cache → CanResume g store cache marks event → room.calls < 2 ^ 32 → room.turns < 2 ^ 32
    → IsCoreSound core
resumed-kept {T} {E} core g store cache marks base tuner picker room event is image limits parts can calls turns =
    subst (λ (c : CoreView T E). IsCoreSound c) (sym is)
    (subst (λ (b : Content). IsCoreSound (resumed_core store cache marks b g tuner picker room event)) (sym image)
    (resumed-sound g store cache marks tuner picker room event limits parts can calls turns))
