-- What a call that is asked of the memory makes of a hierarchy.
use Rattle.std.specs.Prelude.{ℕ, ◌+◌, ◌≡◌}
use Rattle.ff_cache.specs.Cache.{IsCacheSound}
use Rattle.ff_calls.specs.Accesses.{Accesses, LeavesLines}
use Rattle.ff_device.specs.Device.{own_of}
use Rattle.ff_memory.specs.Located.{IsLocated}
use Rattle.ff_memory.specs.LineBytes.{page_of}
use Rattle.ff_memory.specs.declared.access.Access.{Access}
use Rattle.ff_memory.specs.declared.access.Side.{Side}
use Rattle.ff_memory.specs.declared.access.Side.TheVariants.{Device, Host, Neither}
use Rattle.ff_model.specs.declared.op.Op.{Op}
use Rattle.ff_model.specs.declared.op.Op.TheVariants.{Load, Store, Verify, Mark, Release}
use Rattle.ff_policy.specs.Policy.{PolicyView, StepsWhenDue, counted}
use Rattle.ff_core.specs.Hierarchy.{HierarchyView, lines_under}

-- a call was asked of the memory: no flash operation is made, and each slot of the cache holds the page that it held
pub record IsAccess {T E : Type 0} (op : Op) (position : ℕ) (h : HierarchyView T E)
    (access : Access) (h' : HierarchyView T E) : Type 0 where
  pub accesses : Accesses op position h.memory (lines_under h) access h'.memory (lines_under h')
  pub located : IsLocated h'.memory (lines_under h')
  pub lines : LeavesLines op access h.memory (lines_under h) h'.memory (lines_under h')
  pub store : h'.device.store ≡ h.device.store
  pub own : own_of h'.device ≡ own_of h.device
  pub cache : IsCacheSound h'.device.cache
  pub rest : h' ≡ record h { memory = h'.memory; device = h'.device }

-- the page of a load or a store
abbrev pub page_asked : Op → ℕ
page_asked (Load at len) = page_of at
page_asked (Store at bytes) = page_of at
page_asked Verify = 0
page_asked (Mark page from count) = page.0
page_asked (Release page from count) = page.0

-- the policy after an access that this side served
abbrev pub PolicyAfter : {T : Type 0} → Side → ℕ → (T → ℕ → ℕ → ℕ → ℕ → Type 0)
    → PolicyView T → PolicyView T → Type 0
PolicyAfter Device page answers old new = StepsWhenDue answers (counted page old) new
PolicyAfter Host page answers old new = new ≡ record old { hits = old.hits + 1 }
PolicyAfter Neither page answers old new = new ≡ old
