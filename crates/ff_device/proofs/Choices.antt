-- What a choice changes, and that the chosen way is that of the definition, before and after.
use Rattle.std.proofs.Common.{◌≡◌, ◌<◌, ℕ, List, length, refl, sym, ap, ◌∙◌, arith, Option, Some, None}
use Rattle.std.proofs.Math.Nat.{mod-lt}
use Rattle.ff_cache.specs.Cache.{set_of, values_of, CacheView, IsCacheSound, IsChosen, SameSlots}
use Rattle.ff_rrip.specs.Ways.{is_allowed, NoneAllowed}
use Rattle.ff_device.specs.Parts.{Parts}
use Rattle.ff_device.specs.Chosen.{chosen}
use Rattle.ff_device.specs.Steps.{chosen_way, may_go_at}
use Rattle.ff_device.specs.WorkRows.{IsRaised}
use Rattle.std.specs.Prelude.{MatchOption}
use Rattle.ff_device.proofs.Oldest.{victim_new, victim_none, victim_old}

-- only the values may have changed
pub same_but_values : (old new : CacheView) → SameSlots old new → new ≡ record old { values = new.values }
same_but_values old new same = rw (sym same.slots, sym same.sets, sym same.ways) refl

pub same_cache : (old new : CacheView) → SameSlots old new → new.values ≡ old.values → new ≡ old
same_cache old new same values = same_but_values old new same ∙ ap (λ (v : List (List ℕ)). record old { values = v }) values

pub values_size : (cache : CacheView) (page : ℕ) → IsCacheSound cache → length (values_of cache page) ≡ cache.ways
values_size cache page sound = sound.values.each (set_of cache page) (mod-lt page sound.sizes.some_sets)

-- no way may give way
pub none_chosen : (old : Parts) (page allowed : ℕ) → IsCacheSound old.cache
    → ((way : ℕ) → way < old.cache.ways → is_allowed allowed way ≡ may_go_at old page way)
    → NoneAllowed (values_of old.cache page) allowed → chosen_way old page ≡ None
none_chosen old page allowed sound told none =
    let size = values_size old.cache page sound in
    victim_none allowed (may_go_at old page) (values_of old.cache page) (λ k below. told k (omega arith)) none

-- the way that was chosen, with the values before
pub chosen_before : (old : Parts) (page allowed slot : ℕ) (cache : CacheView) → IsCacheSound old.cache
    → ((way : ℕ) → way < old.cache.ways → is_allowed allowed way ≡ may_go_at old page way)
    → (is : IsChosen allowed page old.cache cache slot) → chosen_way old page ≡ Some is.way
chosen_before old page allowed slot cache sound told is =
    let size = values_size old.cache page sound in
    victim_old allowed (may_go_at old page) (values_of old.cache page) (values_of cache page) is.way (λ k below. told k (omega arith)) is.victim

-- the way that was chosen, with the values after
pub chosen_after : (old : Parts) (page allowed slot : ℕ) (cache : CacheView) → IsCacheSound old.cache
    → ((way : ℕ) → way < old.cache.ways → is_allowed allowed way ≡ may_go_at old page way)
    → (is : IsChosen allowed page old.cache cache slot) → chosen (may_go_at old page) (values_of cache page) ≡ Some is.way
chosen_after old page allowed slot cache sound told is =
    let size = values_size old.cache page sound in
    victim_new allowed (may_go_at old page) (values_of old.cache page) (values_of cache page) is.way (λ k below. told k (omega arith)) is.victim

-- what a choice tells
pub choose_told : (old : Parts) (page allowed : ℕ) (cache : CacheView) (result : Option ℕ) → IsCacheSound old.cache
    → ((way : ℕ) → way < old.cache.ways → is_allowed allowed way ≡ may_go_at old page way)
    → cache ≡ record old.cache { values = cache.values }
    → MatchOption result ((cache ≡ old.cache) × NoneAllowed (values_of old.cache page) allowed) (IsChosen allowed page old.cache cache)
    → MatchOption result (chosen_way old page ≡ None) (λ slot. IsRaised page slot old (record old { cache = cache }))
choose_told old page allowed cache None sound told same is = none_chosen old page allowed sound told is.1
choose_told old page allowed cache (Some slot) sound told same is = record {
  allowed = allowed;
  ways = told;
  chosen = is;
  is = ap (λ (c : CacheView). record old { cache = c }) same;
}
