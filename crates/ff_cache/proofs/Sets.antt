-- The slots of a page's set.
use Rattle.std.proofs.Common.{◌≡◌, ◌<◌, ◌≤◌, ℕ, ◌+◌, ◌*◌, true, length, arith, Option, Some, None}
use Rattle.std.specs.Prelude.{MatchOption}
use Rattle.std.proofs.Math.Nat.{mul-le-mul_left}
use Rattle.std.proofs.lemmas.Bool.{false_from_ne_true}
use Rattle.ff_cache.specs.Cache.{CacheView, first_of, IsCacheSound, IsSlotOf}
use Rattle.ff_cache.specs.Slots.{held, holds, cache_slot_at, IsFirstThat, NonePasses}
use Rattle.ff_cache.proofs.Held.{held_first, held_none}

-- the ways of a set are among the slots
pub set_fits : (set sets ways : ℕ) → set < sets → set * ways + ways ≤ sets * ways
set_fits set sets ways below =
    let more : ways * (set + 1) ≤ ways * sets = mul-le-mul_left ways (omega arith) in
    omega (arith, more)

-- a slot that holds a page is the one that is found
pub slot_of_page : (cache : CacheView) (page k : ℕ) → IsCacheSound cache → k < length cache.slots
    → holds (cache_slot_at cache.slots k) page ≡ true → IsSlotOf cache page k
slot_of_page cache page k sound within is = record {
  in_set = record { way = sound.slots.placed k page within is; within = within };
  holds = is;
  held = held_first cache.slots page k within is (λ j below. false_from_ne_true (holds (cache_slot_at cache.slots j) page)
      (λ also. let same : j ≡ k = sound.slots.unique j k page (omega arith) within also is in absurd (omega arith)));
}

-- a page that no slot of its set holds is held nowhere
pub held_nowhere : (cache : CacheView) (page : ℕ) → IsCacheSound cache
    → NonePasses (λ slot. holds slot page) cache.slots (first_of cache page) (first_of cache page + cache.ways)
    → held cache.slots page ≡ None
held_nowhere cache page sound none =
    held_none cache.slots page (λ j within. false_from_ne_true (holds (cache_slot_at cache.slots j) page)
    (λ is. let placed = sound.slots.placed j page within is in let not_here = none j placed.from placed.to in absurd (cc)))

-- what the search of a page's set tells
pub find_told : (cache : CacheView) (page : ℕ) (result : Option ℕ) → IsCacheSound cache
    → first_of cache page + cache.ways ≤ length cache.slots
    → MatchOption result
    (NonePasses (λ slot. holds slot page) cache.slots (first_of cache page) (first_of cache page + cache.ways))
    (IsFirstThat (λ slot. holds slot page) cache.slots (first_of cache page) (first_of cache page + cache.ways))
    → MatchOption result (held cache.slots page ≡ None) (IsSlotOf cache page)
find_told cache page None sound fits told = held_nowhere cache page sound told
find_told cache page (Some k) sound fits told =
    let before = told.before in slot_of_page cache page k sound (omega arith) told.passes
