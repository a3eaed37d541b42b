-- Sets of the cache that pinned pages keep, and what a step of work makes of them.
use Rattle.std.proofs.Common.{◌≡◌, ◌<◌, ◌+◌, ◌-◌, ◌*◌, ◌%◌, ℕ, zero, suc, Bool, true, false, List, length, Option, Some, None, refl, sym, ap, ◌∙◌, arith}
use Rattle.std.specs.Option.{is_none}
use Rattle.std.proofs.Math.Nat.{mod-lt}
use Rattle.std.proofs.lemmas.Bool.{eq-eqb}
use Rattle.ff_base.specs.declared.numbers.PageNo.{PageNo}
use Rattle.ff_cache.specs.Cache.{CacheView, all_below, first_of, way_at, IsCacheSound, IsInSet}
use Rattle.ff_cache.specs.Slots.{cache_slot_at, slot_filled}
use Rattle.ff_cache.specs.declared.slot.CacheSlot.{CacheSlot}
use Rattle.ff_cache.proofs.Full.{all_below_false, all_below_true}
use Rattle.ff_cache.proofs.Sets.{set_fits, slot_of_page}
use Rattle.ff_lines.specs.DeviceState.{DeviceState}
use Rattle.ff_lines.specs.PageSets.{SameSet}
use Rattle.ff_device.specs.Device.{lines_of}
use Rattle.ff_device.specs.Draining.{SameFrames}
use Rattle.ff_device.specs.Parts.{Parts}
use Rattle.ff_device.specs.WorkRows.{IsPinnedSet}
use Rattle.ff_core.specs.EventsLeft.{is_kept_set, is_pinned_page}

-- a slot's pin is its page's
pinned_by : (found : Option PageNo) (parts : Parts) (k : ℕ) → IsCacheSound parts.cache → k < length parts.cache.slots
    → (cache_slot_at parts.cache.slots k).page ≡ found
    → is_pinned_page (lines_of parts) found ≡ (cache_slot_at parts.cache.slots k).pinned
pinned_by None parts k sound within is =
    sym (sound.slots.unpinned k (ap (λ (p : Option PageNo). is_none p) is))
pinned_by (Some page) parts k sound within is =
    let there = slot_of_page parts.cache page.0 k sound within (rw is (eq-eqb page.0 page.0 refl)) in
    rw there.held refl

pub slot_pinned_is : (parts : Parts) (k : ℕ) → IsCacheSound parts.cache → k < length parts.cache.slots
    → is_pinned_page (lines_of parts) (cache_slot_at parts.cache.slots k).page ≡ (cache_slot_at parts.cache.slots k).pinned
slot_pinned_is parts k sound within = pinned_by (cache_slot_at parts.cache.slots k).page parts k sound within refl

-- a way of a set is one of the slots
way_within : (cache : CacheView) (page way : ℕ) → IsCacheSound cache → way < cache.ways → first_of cache page + way < length cache.slots
way_within cache page way sound below =
    let fits = set_fits (page % cache.sets) cache.sets cache.ways (mod-lt page sound.sizes.some_sets) in
    let size = sound.slots.size in
    omega arith

-- each way is pinned
pub pinned_kept : (parts : Parts) (page : ℕ) (named : PageNo) → IsCacheSound parts.cache → IsPinnedSet page named parts
    → is_kept_set parts.cache (lines_of parts) page ≡ true
pinned_kept parts page named sound pinned =
    all_below_true (λ (way : ℕ). is_pinned_page (lines_of parts) (way_at parts.cache page way).page) parts.cache.ways
    (λ way below.
    slot_pinned_is parts (first_of parts.cache page + way) sound (way_within parts.cache page way sound below)
    ∙ pinned.pinned way below)

-- a way isn't pinned
pub unpinned_free : (parts : Parts) (page way : ℕ) → IsCacheSound parts.cache → way < parts.cache.ways
    → (way_at parts.cache page way).pinned ≡ false → is_kept_set parts.cache (lines_of parts) page ≡ false
unpinned_free parts page way sound below unpinned =
    all_below_false (λ (w : ℕ). is_pinned_page (lines_of parts) (way_at parts.cache page w).page) parts.cache.ways way below
    (slot_pinned_is parts (first_of parts.cache page + way) sound (way_within parts.cache page way sound below) ∙ unpinned)

all_below_same : (f h : ℕ → Bool) (n : ℕ) → ((k : ℕ) → h k ≡ f k) → all_below h n ≡ all_below f n
all_below_same f h zero same = refl
all_below_same f h (suc n) same = let rest = all_below_same f h n same in rw (rest, same n) refl

pin_same : (found : Option PageNo) (d d' : DeviceState) → SameSet d.pinned d'.pinned → is_pinned_page d' found ≡ is_pinned_page d found
pin_same None d d' pins = refl
pin_same (Some page) d d' pins = pins page.0

-- the slots hold the same pages, of which the same are pinned
pub kept_same : (old new : CacheView) (d d' : DeviceState) (page : ℕ) → new.sets ≡ old.sets → new.ways ≡ old.ways
    → ((k : ℕ) → (cache_slot_at new.slots k).page ≡ (cache_slot_at old.slots k).page) → SameSet d.pinned d'.pinned
    → is_kept_set new d' page ≡ is_kept_set old d page
kept_same old new d d' page sets ways pages pins =
    rw (sets, ways) (all_below_same (λ (way : ℕ). is_pinned_page d (way_at old page way).page)
    (λ (way : ℕ). is_pinned_page d' (cache_slot_at new.slots (page % old.sets * old.ways + way)).page) old.ways
    (λ way.
    ap (λ (found : Option PageNo). is_pinned_page d' found) (pages (page % old.sets * old.ways + way))
    ∙ pin_same (way_at old page way).page d d' pins))

pub kept_frames : (old new : CacheView) (d d' : DeviceState) (page : ℕ) → SameFrames old new → SameSet d.pinned d'.pinned
    → is_kept_set new d' page ≡ is_kept_set old d page
kept_frames old new d d' page frames pins = kept_same old new d d' page frames.sets frames.ways frames.page pins

-- the set of a page that was fetched isn't kept
pub fetched_free : (page slot : ℕ) (bytes : List ℕ) (old new : CacheView) (d : DeviceState) → IsInSet old page slot
    → cache_slot_at new.slots slot ≡ slot_filled page bytes
    → new.sets ≡ old.sets → new.ways ≡ old.ways → d.pinned page ≡ false → is_kept_set new d page ≡ false
fetched_free page slot bytes old new d in_set there sets ways unpinned =
    let from = in_set.way.from in
    let to = in_set.way.to in
    let way : ℕ = slot - page % old.sets * old.ways in
    let at : page % old.sets * old.ways + way ≡ slot = omega arith in
    rw (sets, ways) (all_below_false
    (λ (w : ℕ). is_pinned_page d (cache_slot_at new.slots (page % old.sets * old.ways + w)).page) old.ways way (omega arith)
    (ap (λ (k : ℕ). is_pinned_page d (cache_slot_at new.slots k).page) at
    ∙ ap (λ (s : CacheSlot). is_pinned_page d s.page) there ∙ unpinned))

-- a slot of the set isn't pinned
pub slot_free : (parts : Parts) (page slot : ℕ) → IsCacheSound parts.cache → IsInSet parts.cache page slot
    → (cache_slot_at parts.cache.slots slot).pinned ≡ false → is_kept_set parts.cache (lines_of parts) page ≡ false
slot_free parts page slot sound in_set unpinned =
    let from = in_set.way.from in
    let to = in_set.way.to in
    let way : ℕ = slot - page % parts.cache.sets * parts.cache.ways in
    let at : page % parts.cache.sets * parts.cache.ways + way ≡ slot = omega arith in
    unpinned_free parts page way sound (omega arith)
    (ap (λ (k : ℕ). (cache_slot_at parts.cache.slots k).pinned) at ∙ unpinned)
