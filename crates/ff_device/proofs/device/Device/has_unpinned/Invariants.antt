use Rattle.std.proofs.Common.{◌≡◌, ◌<◌, ℕ, true}
use Rattle.ff_cache.specs.Cache.{way_at}
use Rattle.ff_device.proofs.device.Device.has_unpinned.Given as goal

abbrev pub invariant-loop-way : goal.invariant-loop-way
invariant-loop-way g l = (k : ℕ) → k < l.way → (way_at l.self-inside.cache l.fn.page.0 k).pinned ≡ true
