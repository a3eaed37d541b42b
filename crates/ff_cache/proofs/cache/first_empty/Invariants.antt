use Rattle.std.proofs.Common.{◌≡◌, ◌<◌, ◌≤◌, ℕ, false}
use Rattle.ff_cache.specs.Slots.{is_empty, cache_slot_at}
use Rattle.ff_cache.proofs.cache.first_empty.Given as goal

abbrev pub invariant-loop-k : goal.invariant-loop-k
invariant-loop-k l = (j : ℕ) → l.from ≤ j → j < l.k → is_empty (cache_slot_at l.slots j) ≡ false
