use Rattle.std.proofs.Common.{◌≡◌, ◌<◌, ◌≤◌, ℕ, false}
use Rattle.ff_cache.specs.Slots.{holds, cache_slot_at}
use Rattle.ff_cache.proofs.cache.first_held.Given as goal

abbrev pub invariant-loop-k : goal.invariant-loop-k
invariant-loop-k l = (j : ℕ) → l.from ≤ j → j < l.k → holds (cache_slot_at l.slots j) l.page.0 ≡ false
