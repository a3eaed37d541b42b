-- What depends on the slots' pages and pins alone.
use Rattle.std.proofs.Common.{◌≡◌, ◌<◌, inl, inr, ℕ, zero, suc, ◌+◌, ◌*◌, ◌%◌, Bool, true, false, not, List, refl, ap, ◌∙◌, Option, Some, None, get_or-set_same, get_or-set_other}
use Rattle.std.specs.Option.{is_none}
use Rattle.std.proofs.Math.Seq.{map-set_same}
use Rattle.std.proofs.lemmas.Bool.{cases_eq}
use Rattle.std.specs.Prelude.{option_map}
use Rattle.ff_base.specs.declared.numbers.PageNo.{PageNo}
use Rattle.ff_cache.specs.Cache.{all_below, is_full_set, values_of, way_at, CacheView}
use Rattle.ff_cache.specs.Slots.{empty_slot, is_empty, cache_slot_at}
use Rattle.ff_cache.specs.declared.slot.CacheSlot.{CacheSlot}
use Rattle.ff_cache.proofs.Full.{all_below_at}
use Rattle.ff_device.specs.Changes.{Changes}
use Rattle.ff_device.specs.Chosen.{chosen, Candidate}
use Rattle.ff_device.specs.Device.{own_of, pages_in, DeviceView}
use Rattle.ff_device.specs.Draining.{SameFrames}
use Rattle.ff_device.specs.Parts.{Parts}
use Rattle.ff_device.specs.Steps.{chosen_way, may_go_at}
use Rattle.ff_device.proofs.Oldest.{oldest_same}

-- a slot was changed, and keeps its page and its pin
pub frames_by : (page : ℕ) (change : CacheSlot → CacheSlot) (old new : CacheView) → Changes page change old new
    → ((slot : CacheSlot) → (change slot).page ≡ slot.page) → ((slot : CacheSlot) → (change slot).pinned ≡ slot.pinned) → SameFrames old new
frames_by page change old new changes pages pins =
    let slot : CacheSlot = cache_slot_at old.slots changes.index in
    record {
      values = ap (λ c. c.values) changes.is;
      sets = ap (λ c. c.sets) changes.is;
      ways = ap (λ c. c.ways) changes.is;
      page = λ k. elim (cases_eq k changes.index) [
        | inl same ↦ rw (changes.is, same, get_or-set_same old.slots changes.index (change slot) empty_slot changes.within) (pages slot)
        | inr apart ↦ rw (changes.is, get_or-set_other old.slots changes.index k (change slot) empty_slot apart) refl
      ];
      pinned = λ k. elim (cases_eq k changes.index) [
        | inl same ↦ rw (changes.is, same, get_or-set_same old.slots changes.index (change slot) empty_slot changes.within) (pins slot)
        | inr apart ↦ rw (changes.is, get_or-set_other old.slots changes.index k (change slot) empty_slot apart) refl
      ];
    }

-- a slot was changed, and keeps its page
pages_kept : (page : ℕ) (change : CacheSlot → CacheSlot) (old new : CacheView) → Changes page change old new
    → ((slot : CacheSlot) → (change slot).page ≡ slot.page) → pages_in new ≡ pages_in old
pages_kept page change old new changes pages =
    let slot : CacheSlot = cache_slot_at old.slots changes.index in
    rw changes.is (map-set_same (λ (s : CacheSlot). s.page) old.slots changes.index (change slot) empty_slot (pages slot))

-- so were the store and the sizes
pub own_kept : (page : ℕ) (change : CacheSlot → CacheSlot) (old new : DeviceView) → Changes page change old.cache new.cache
    → ((slot : CacheSlot) → (change slot).page ≡ slot.page) → new.store ≡ old.store → new.window.room ≡ old.window.room
    → own_of new ≡ own_of old
own_kept page change old new changes pages store room =
    rw (
      store,
      room,
      ap (λ c. c.sets) changes.is,
      ap (λ c. c.ways) changes.is,
      pages_kept page change old.cache new.cache changes pages,
    ) refl

all_below_same : (f h : ℕ → Bool) (n : ℕ) → ((k : ℕ) → h k ≡ f k) → all_below h n ≡ all_below f n
all_below_same f h zero same = refl
all_below_same f h (suc n) same = let rest = all_below_same f h n same in rw (rest, same n) refl

pub full_frames : (old new : CacheView) (page : ℕ) → SameFrames old new → is_full_set new page ≡ is_full_set old page
full_frames old new page frames =
    rw (frames.sets, frames.ways) (all_below_same (λ way. not (is_empty (way_at old page way)))
    (λ way. not (is_empty (cache_slot_at new.slots (page % old.sets * old.ways + way)))) old.ways
    (λ k. ap (λ (found : Option PageNo). not (is_none found)) (frames.page (page % old.sets * old.ways + k))))

pub may_go_frames : (old new : Parts) (page way : ℕ) → SameFrames old.cache new.cache → new.window.posts ≡ old.window.posts
    → may_go_at new page way ≡ may_go_at old page way
may_go_frames old new page way frames posts =
    let k : ℕ = page % old.cache.sets * old.cache.ways + way in
    rw (frames.sets, frames.ways, frames.page k, frames.pinned k, posts) refl

pub chosen_frames : (old new : Parts) (page : ℕ) → SameFrames old.cache new.cache → new.window.posts ≡ old.window.posts
    → chosen_way new page ≡ chosen_way old page
chosen_frames old new page frames posts =
    let values : values_of new.cache page ≡ values_of old.cache page = rw (frames.values, frames.sets) refl in
    ap (λ (v : List ℕ). chosen (may_go_at new page) v) values
    ∙ ap (λ (c : Option Candidate). option_map (λ d. d.way) c)
    (oldest_same (may_go_at old page) (may_go_at new page) (values_of old.cache page) (λ way. may_go_frames old new page way frames posts))

empty_not : (b : Bool) → not b ≡ true → b ≡ false
empty_not true is = absurd (cc)
empty_not false is = refl

-- a way of a full set holds a page
pub full_way : (cache : CacheView) (page way : ℕ) → is_full_set cache page ≡ true → way < cache.ways → is_empty (way_at cache page way) ≡ false
full_way cache page way full within =
    empty_not (is_empty (way_at cache page way)) (all_below_at (λ w. not (is_empty (way_at cache page w))) cache.ways way full within)

page_some : (found : Option PageNo) → is_none found ≡ false → found ≡ None → ⊥
page_some None some none = cc
page_some (Some page) some none = cc

pub full_page : (cache : CacheView) (page way : ℕ) → is_full_set cache page ≡ true → way < cache.ways
    → (way_at cache page way).page ≡ None → ⊥
full_page cache page way full within none =
    page_some (way_at cache page way).page (full_way cache page way full within) none
