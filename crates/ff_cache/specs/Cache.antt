-- What a contract sees of a cache, and what it keeps.
use Rattle.std.specs.Prelude.{ℕ, zero, suc, ◌+◌, ◌*◌, ◌<◌, ◌≤◌, ◌≡◌, ◌%◌, ◌/◌, ◌&&◌, Bool, true, false, not, List, [], length, Some, replicate, slice_index_or, slice_set}
use Rattle.ff_cache.specs.Slots.{empty_slot, held, holds, is_empty, cache_slot_at, ArePlaced, IsWayOf}
use Rattle.ff_cache.specs.declared.slot.CacheSlot.{CacheSlot}
use Rattle.ff_rrip.specs.Ways.{distant_value, IsVictimWay}

pub record CacheView : Type 0 where
  -- the slots, the ways of each set one after another
  pub slots : List CacheSlot
  -- the re-reference values of each set's ways
  pub values : List (List ℕ)
  -- how many sets there are
  pub sets : ℕ
  -- how many ways a set has
  pub ways : ℕ

-- the set of a page
abbrev pub set_of : CacheView → ℕ → ℕ
set_of cache page = page % cache.sets

-- the slot of the first way of a page's set
abbrev pub first_of : CacheView → ℕ → ℕ
first_of cache page = set_of cache page * cache.ways

-- a way of a page's set
abbrev pub way_at : CacheView → ℕ → ℕ → CacheSlot
way_at cache page way = cache_slot_at cache.slots (first_of cache page + way)

-- the values of a set
abbrev pub values_at : List (List ℕ) → ℕ → List ℕ
values_at values set = slice_index_or values set []

-- the values of a page's set
abbrev pub values_of : CacheView → ℕ → List ℕ
values_of cache page = values_at cache.values (set_of cache page)

-- each of the numbers below a bound passes
abbrev pub all_below : (ℕ → Bool) → ℕ → Bool
all_below test zero = true
all_below test (suc n) = all_below test n && test n

-- no way of the page's set is empty
abbrev pub is_full_set : CacheView → ℕ → Bool
is_full_set cache page = all_below (λ way. not (is_empty (way_at cache page way))) cache.ways

-- the slot is one of the page's set
pub record IsInSet (cache : CacheView) (page slot : ℕ) : Type 0 where
  pub way : IsWayOf cache.sets cache.ways page slot
  pub within : slot < length cache.slots

-- the slot is the one that holds the page
pub record IsSlotOf (cache : CacheView) (page slot : ℕ) : Type 0 where
  pub in_set : IsInSet cache page slot
  pub holds : holds (cache_slot_at cache.slots slot) page ≡ true
  pub held : held cache.slots page ≡ Some (cache_slot_at cache.slots slot)

-- the slot is the first of the page's set that is empty
pub record IsEmptyWay (cache : CacheView) (page slot : ℕ) : Type 0 where
  pub in_set : IsInSet cache page slot
  pub empty : is_empty (cache_slot_at cache.slots slot) ≡ true
  pub least : (other : ℕ) → first_of cache page ≤ other → other < slot
      → is_empty (cache_slot_at cache.slots other) ≡ false

-- the slot's way has this value
abbrev pub with_value : CacheView → ℕ → ℕ → List (List ℕ)
with_value cache slot value =
    let set = slot / cache.ways in
    slice_set cache.values set (slice_set (values_at cache.values set) (slot % cache.ways) value)

-- the slot is the way that gives way, and the values of the set alone were raised for the choice
pub record IsChosen (allowed page : ℕ) (old new : CacheView) (slot : ℕ) : Type 0 where
  pub way : ℕ
  pub slot_is : slot ≡ first_of old page + way
  pub victim : IsVictimWay allowed (values_of old page) (values_of new page) way
  pub others : new.values ≡ slice_set old.values (set_of old page) (values_of new page)

-- nothing but the values may have changed
pub record SameSlots (old new : CacheView) : Type 0 where
  pub slots : new.slots ≡ old.slots
  pub sets : new.sets ≡ old.sets
  pub ways : new.ways ≡ old.ways

-- as many sets of as many values each
pub record AreValues (sets ways : ℕ) (values : List (List ℕ)) : Type 0 where
  pub count : length values ≡ sets
  pub each : (set : ℕ) → set < sets → length (values_at values set) ≡ ways

-- a geometry's numbers of sets and ways
pub record AreSizes (sets ways : ℕ) : Type 0 where
  pub some_sets : 0 < sets
  pub some_ways : 0 < ways
  pub few_ways : ways ≤ 16
  pub few : sets * ways ≤ 4096

-- what a cache keeps
pub record IsCacheSound (cache : CacheView) : Type 0 where
  pub sizes : AreSizes cache.sets cache.ways
  pub slots : ArePlaced cache.sets cache.ways cache.slots
  pub values : AreValues cache.sets cache.ways cache.values

-- a cache of empty slots, each of which is expected last
abbrev pub fresh_cache : ℕ → ℕ → CacheView
fresh_cache sets ways = record {
  slots = replicate (sets * ways) empty_slot;
  values = replicate sets (replicate ways distant_value);
  sets = sets;
  ways = ways;
}
