use Rattle.std.proofs.Common.{◌≡◌, ◌<◌, ◌≤◌, ℕ, ◌+◌, length}
use Rattle.std.specs.Prelude.{slice_index}
use Rattle.ff_cache.specs.Nv.{mounted_value}
use Rattle.ff_cache.specs.Slots.{cache_slot_at}
use Rattle.ff_rrip.specs.Ways.{distant_value}
use Rattle.ff_cache.proofs.cache.nv.mounting.mounted_ways.Given as goal

abbrev pub invariant-loop-way : goal.invariant-loop-way
invariant-loop-way l = record {
  size : length l.made ≡ l.ways;
  done : (k : ℕ) → k < l.way → slice_index l.made k ≡ mounted_value (cache_slot_at l.slots (l.from + k));
  rest : (k : ℕ) → l.way ≤ k → k < l.ways → slice_index l.made k ≡ distant_value;
}
