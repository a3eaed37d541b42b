-- A cache of empty slots.
use Rattle.std.proofs.Common.{◌≡◌, inl, inr, ℕ, ◌*◌, true, false, [], refl}
use Rattle.std.proofs.Math.ListN.{replicate}
use Rattle.std.proofs.lemmas.Bool.{cases_lt}
use Rattle.std.proofs.lemmas.List.{get_or-replicate, get_or_past, length-replicate}
use Rattle.ff_base.specs.Geometry.{IsWithinLimits}
use Rattle.ff_base.specs.declared.geometry.Geometry.{Geometry}
use Rattle.ff_cache.specs.Cache.{fresh_cache, AreSizes, IsCacheSound}
use Rattle.ff_cache.specs.Slots.{empty_slot, cache_slot_at}
use Rattle.ff_rrip.specs.Ways.{distant_value}

-- a geometry's sets and ways
pub sizes_of : (g : Geometry) → IsWithinLimits g → AreSizes g.sets g.ways
sizes_of g within = record {
  some_sets = within.sets.low;
  some_ways = within.ways.low;
  few_ways = within.ways.high;
  few = within.cache_ways.high;
}

cache_slot_at-fresh : (count k : ℕ) → cache_slot_at (replicate count empty_slot) k ≡ empty_slot
cache_slot_at-fresh count k = elim (cases_lt k count) [
  | inl within ↦ get_or-replicate count k empty_slot empty_slot within
  | inr past ↦ get_or_past (replicate count empty_slot) k empty_slot (rw (length-replicate count empty_slot) past)
]

pub fresh_sound : (sets ways : ℕ) → AreSizes sets ways → IsCacheSound (fresh_cache sets ways)
fresh_sound sets ways sizes = record {
  sizes = sizes;
  slots = record {
    size = length-replicate (sets * ways) empty_slot;
    placed = λ k page within is. let empty : false ≡ true = rw (cache_slot_at-fresh (sets * ways) k) at is in absurd (cc);
    unique = λ k j page within below is also.
        let empty : false ≡ true = rw (cache_slot_at-fresh (sets * ways) k) at is in absurd (cc);
    clean = λ k empty. rw (cache_slot_at-fresh (sets * ways) k) refl;
    unpinned = λ k empty. rw (cache_slot_at-fresh (sets * ways) k) refl;
  };
  values = record {
    count = length-replicate sets (replicate ways distant_value);
    each = λ one within.
        rw (get_or-replicate sets one (replicate ways distant_value) [] within) (length-replicate ways distant_value);
  };
}
