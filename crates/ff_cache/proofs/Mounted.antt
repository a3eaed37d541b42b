-- The cache of what the battery kept.
use Rattle.std.proofs.Common.{◌≡◌, ◌<◌, inl, inr, ℕ, suc, ◌+◌, ◌-◌, ◌*◌, List, [], ◌∷◌, ◌++◌, length, get_or, refl, ap, ◌∙◌, arith, length-append}
use Rattle.std.proofs.lemmas.Bool.{cases_lt}
use Rattle.std.proofs.lemmas.List.{get_or_append_left, get_or-append_right}
use Rattle.ff_base.specs.Geometry.{IsWithinLimits}
use Rattle.ff_base.specs.declared.geometry.Geometry.{Geometry}
use Rattle.std.specs.Prelude.{slice_index}
use Rattle.ff_cache.specs.Cache.{values_at, IsCacheSound}
use Rattle.ff_cache.specs.Nv.{NvWay, mounted_value, slot_of, slots_of, way_of, ways_of, AreMounted}
use Rattle.ff_cache.specs.Slots.{cache_slot_at, ArePlaced}
use Rattle.ff_cache.specs.declared.slot.CacheSlot.{CacheSlot}
use Rattle.ff_cache.proofs.Fresh.{sizes_of}

-- each slot is neither touched nor pinned
pub calmed : (old new : List CacheSlot) → length new ≡ length old
    → ((k : ℕ) → k < length old → cache_slot_at new k ≡ slot_of (way_of (cache_slot_at old k))) → new ≡ slots_of (ways_of old)
calmed [] [] size each = refl
calmed [] (y ∷ ys) size each = absurd (omega arith)
calmed (x ∷ xs) [] size each = absurd (omega arith)
calmed (x ∷ xs) (y ∷ ys) size each =
    let first : y ≡ slot_of (way_of x) = each 0 (omega arith) in
    let rest : ys ≡ slots_of (ways_of xs) = calmed xs ys (omega arith) (λ k below. each (suc k) (omega arith)) in
    cc

-- a mount changes nothing that the battery keeps
pub ways_of_slots : (ways : List NvWay) → ways_of (slots_of ways) ≡ ways
ways_of_slots [] = refl
ways_of_slots (way ∷ later) = ap (λ (rest : List NvWay). way ∷ rest) (ways_of_slots later)

-- one more set
pub mounted_more : (count ways : ℕ) (slots : List CacheSlot) (values : List (List ℕ)) (made : List ℕ)
    → AreMounted count ways slots values → length made ≡ ways
    → ((way : ℕ) → way < ways → slice_index made way ≡ mounted_value (cache_slot_at slots (count * ways + way)))
    → AreMounted (count + 1) ways slots (values ++ made ∷ [])
mounted_more count ways slots values made are size each =
    let total : length values ≡ count = are.sizes.count in
    let before = λ (one : ℕ) (below : one < length values). get_or_append_left values (made ∷ []) [] one below in
    let start : count - count ≡ 0 = omega arith in
    let last : values_at (values ++ made ∷ []) count ≡ made =
    get_or-append_right values (made ∷ []) count count [] total (omega arith)
    ∙ ap (λ (n : ℕ). get_or (made ∷ []) n []) start in
    record {
      sizes = record {
        count = length-append values (made ∷ []) ∙ ap (λ n. n + 1) total;
        each = λ one below. elim (cases_lt one count) [
          | inl lower ↦ rw (before one (omega arith)) (are.sizes.each one lower)
          | inr top ↦ let same : one ≡ count = omega arith in rw (same, last) size
        ];
      };
      each = λ one way below within. elim (cases_lt one count) [
        | inl lower ↦ rw (before one (omega arith)) (are.each one way lower within)
        | inr top ↦ let same : one ≡ count = omega arith in rw (same, last) (each way within)
      ];
    }

-- it keeps what a cache keeps
pub mounted_sound : (g : Geometry) (slots : List CacheSlot) (values : List (List ℕ)) → IsWithinLimits g
    → ArePlaced g.sets g.ways slots → AreMounted g.sets g.ways slots values
    → IsCacheSound (record { slots = slots; values = values; sets = g.sets; ways = g.ways })
mounted_sound g slots values within placed mounted =
    record { sizes = sizes_of g within; slots = placed; values = mounted.sizes }
