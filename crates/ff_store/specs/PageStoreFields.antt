-- What a store's fields keep beside what every store keeps.
use Rattle.std.specs.Prelude.{ℕ, ◌≡◌}
use Rattle.ff_store.specs.PageStore.{IsStoreSound, PageStoreView}

-- the store is sound, and knows the size of a block
pub record IsKept (s : PageStoreView) (per_block : ℕ) : Type 0 where
  pub sound : IsStoreSound s
  pub per_block_is : per_block ≡ s.world.gc.per_block
