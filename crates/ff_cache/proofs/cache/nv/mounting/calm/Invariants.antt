use Rattle.std.proofs.Common.{◌≡◌, ◌<◌, ◌≤◌, ℕ, length}
use Rattle.ff_cache.specs.Nv.{slot_of, way_of}
use Rattle.ff_cache.specs.Slots.{cache_slot_at}
use Rattle.ff_cache.proofs.cache.nv.mounting.calm.Given as goal

abbrev pub invariant-loop-k : goal.invariant-loop-k
invariant-loop-k l = record {
  size : length l.slots.items ≡ length l.initial.slots.items;
  done : (k : ℕ) → k < l.k → cache_slot_at l.slots.items k ≡ slot_of (way_of (cache_slot_at l.initial.slots.items k));
  rest : (k : ℕ) → l.k ≤ k → cache_slot_at l.slots.items k ≡ cache_slot_at l.initial.slots.items k;
}
