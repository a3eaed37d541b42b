-- A step of work leaves a set that pinned pages keep, but for the seal of a flush, and keeps no other.
use Rattle.std.proofs.Common.{◌≡◌, ◌<◌, ◌%◌, ℕ, Bool, true, false, not, List, length, Option, Some, None, inl, inr, refl, sym, ap, ◌∙◌, arith, get_or-set_same}
use Rattle.std.specs.Option.{is_some}
use Rattle.std.proofs.Math.Nat.{mod-lt}
use Rattle.std.proofs.lemmas.Bool.{and_parts}
use Rattle.ff_cache.specs.Cache.{CacheView, IsCacheSound, IsInSet, way_at}
use Rattle.ff_cache.specs.Slots.{cache_slot_at, empty_slot, slot_filled, slot_flushed, slot_flushing}
use Rattle.ff_cache.specs.declared.slot.CacheSlot.{CacheSlot}
use Rattle.ff_cache.proofs.Sets.{set_fits}
use Rattle.ff_lines.specs.PageSets.{SameSet}
use Rattle.ff_lines.specs.declared.device.Work.TheVariants.{Stepped}
use Rattle.ff_lines.specs.declared.post.Post.{Post}
use Rattle.ff_device.specs.Device.{lines_of}
use Rattle.ff_device.specs.Parts.{Parts, is_resident, slot_passes}
use Rattle.ff_device.specs.Steps.{may_go, may_go_at, page_waits}
use Rattle.ff_device.specs.StoreState.{stored_bytes}
use Rattle.ff_device.specs.WorkRows.{FlushRow, HasSealed, IsFetched, IsRaised, IsWorkStep}
use Rattle.ff_device.specs.WorkRows.{seals, fills, no_way, replaces, flushes}
use Rattle.ff_device.proofs.Choices.{values_size}
use Rattle.ff_device.proofs.Frames.{frames_by}
use Rattle.ff_core.specs.EventsLeft.{is_kept_set}
use Rattle.ff_core.proofs.KeptSets.{fetched_free, kept_frames, kept_same, slot_free, unpinned_free}

-- a page that isn't resident isn't pinned
unpinned_of : (found : Option CacheSlot) → is_some found ≡ false → slot_passes (λ slot. slot.pinned) found ≡ false
unpinned_of None absent = refl
unpinned_of (Some slot) absent = absurd (cc)

chosen_within : (page slot : ℕ) (old mid : Parts) → IsCacheSound old.cache → (r : IsRaised page slot old mid)
    → r.chosen.way < old.cache.ways
chosen_within page slot old mid sound r =
    let size = values_size old.cache page sound in
    let inside = r.chosen.victim.among.in_range in
    omega arith

-- the slot that was chosen is one of the set
chosen_in : (page slot : ℕ) (old mid : Parts) → IsCacheSound old.cache → IsRaised page slot old mid → IsInSet old.cache page slot
chosen_in page slot old mid sound r =
    let inside = chosen_within page slot old mid sound r in
    let slot_is = r.chosen.slot_is in
    let fits = set_fits (page % old.cache.sets) old.cache.sets old.cache.ways (mod-lt page sound.sizes.some_sets) in
    let size = sound.slots.size in
    record { way = record { from = omega arith; to = omega arith }; within = omega arith }

not_true : (b : Bool) → not b ≡ true → b ≡ false
not_true true is = absurd (cc)
not_true false is = refl

goes_unpinned : (posts : List Post) (slot : CacheSlot) → may_go posts slot ≡ true → slot.pinned ≡ false
goes_unpinned posts slot goes =
    not_true slot.pinned (and_parts (not slot.pinned) (not (page_waits posts slot.page)) goes).0

-- the set of which a way was chosen isn't kept
chosen_free : (page slot : ℕ) (old mid : Parts) → IsCacheSound old.cache → IsRaised page slot old mid
    → is_kept_set old.cache (lines_of old) page ≡ false
chosen_free page slot old mid sound r =
    let inside = chosen_within page slot old mid sound r in
    let goes : may_go_at old page r.chosen.way ≡ true = sym (r.ways r.chosen.way inside) ∙ r.chosen.victim.among.bit in
    unpinned_free old page r.chosen.way sound inside
    (goes_unpinned old.window.posts (way_at old.cache page r.chosen.way) goes)

-- a kept set: a step that was made sealed a flush
pub kept_sealed : (page : ℕ) (old new : Parts) → IsCacheSound old.cache → IsWorkStep page old Stepped new
    → is_kept_set old.cache (lines_of old) page ≡ true → HasSealed old new
kept_sealed page old new sound (seals waits row) kept = row
kept_sealed page old new sound (fills idle slot empty row) kept =
    let free = slot_free old page slot sound empty.in_set (sound.slots.unpinned slot empty.empty) in absurd (cc)
kept_sealed page old new sound (no_way idle full none row) kept =
    let free = unpinned_free old page row.unpinned.way sound row.unpinned.within row.unpinned.unpinned in absurd (cc)
kept_sealed page old new sound (replaces idle full slot mid raised clean row) kept =
    let free = chosen_free page slot old mid sound raised in absurd (cc)
kept_sealed page old new sound (flushes idle full slot mid raised dirty row) kept =
    let free = chosen_free page slot old mid sound raised in absurd (cc)

fetched_row : (page slot : ℕ) (old mid new : Parts) → IsInSet old.cache page slot → mid.cache.slots ≡ old.cache.slots
    → mid.cache.sets ≡ old.cache.sets → mid.cache.ways ≡ old.cache.ways → (lines_of new).pinned page ≡ false
    → IsFetched page slot mid new → is_kept_set new.cache (lines_of new) page ≡ false
fetched_row page slot old mid new in_set slots sets ways unpinned row =
    let bytes : List ℕ = stored_bytes mid.store page in
    let within : slot < length mid.cache.slots = rw slots in_set.within in
    let there : cache_slot_at new.cache.slots slot ≡ slot_filled page bytes =
    ap (λ (c : CacheView). cache_slot_at c.slots slot) row.cache
    ∙ get_or-set_same mid.cache.slots slot (slot_filled page bytes) empty_slot within in
    fetched_free page slot bytes old.cache new.cache (lines_of new) in_set there
    (ap (λ (c : CacheView). c.sets) row.cache ∙ sets) (ap (λ (c : CacheView). c.ways) row.cache ∙ ways) unpinned

flushed_frames : (slot : ℕ) (mid new : Parts) → FlushRow slot Stepped mid new
    → (new.cache.sets ≡ mid.cache.sets) × (new.cache.ways ≡ mid.cache.ways)
    × ((k : ℕ) → (cache_slot_at new.cache.slots k).page ≡ (cache_slot_at mid.cache.slots k).page)
flushed_frames slot mid new (inl p) =
    let frames = frames_by p.page.0 slot_flushing mid.cache new.cache p.cache (λ s. refl) (λ s. refl) in
    (frames.sets, frames.ways, frames.page)
flushed_frames slot mid new (inr c) = (
  ap (λ (v : CacheView). v.sets) c.same.cache,
  ap (λ (v : CacheView). v.ways) c.same.cache,
  λ k. ap (λ (v : CacheView). (cache_slot_at v.slots k).page) c.same.cache,
)

-- a set that isn't kept isn't kept after a step
pub step_free : (page : ℕ) (old new : Parts) → IsCacheSound old.cache → is_resident old page ≡ false
    → SameSet (lines_of old).pinned (lines_of new).pinned → IsWorkStep page old Stepped new
    → is_kept_set old.cache (lines_of old) page ≡ false → is_kept_set new.cache (lines_of new) page ≡ false
step_free page old new sound absent pins (seals waits row) free =
    kept_frames old.cache new.cache (lines_of old) (lines_of new) page
    (frames_by row.page slot_flushed old.cache new.cache row.cache (λ s. refl) (λ s. refl)) pins ∙ free
step_free page old new sound absent pins (fills idle slot empty row) free =
    fetched_row page slot old old new empty.in_set refl refl refl (pins page ∙ unpinned_of _ absent) row
step_free page old new sound absent pins (no_way idle full none row) free =
    kept_frames old.cache new.cache (lines_of old) (lines_of new) page row.frames pins ∙ free
step_free page old new sound absent pins (replaces idle full slot mid raised clean row) free =
    fetched_row page slot old mid new (chosen_in page slot old mid sound raised) (ap (λ (p : Parts). p.cache.slots) raised.is)
    (ap (λ (p : Parts). p.cache.sets) raised.is) (ap (λ (p : Parts). p.cache.ways) raised.is) (pins page ∙ unpinned_of _ absent) row
step_free page old new sound absent pins (flushes idle full slot mid raised dirty row) free =
    let frames = flushed_frames slot mid new row in
    kept_same old.cache new.cache (lines_of old) (lines_of new) page
    (frames.0 ∙ ap (λ (p : Parts). p.cache.sets) raised.is)
    (frames.1 ∙ ap (λ (p : Parts). p.cache.ways) raised.is)
    (λ k. frames.2 k ∙ ap (λ (p : Parts). (cache_slot_at p.cache.slots k).page) raised.is) pins ∙ free
