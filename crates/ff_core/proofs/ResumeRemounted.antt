-- A session may begin over a store that was mounted again and an empty cache.
use Rattle.std.proofs.Common.{◌≡◌, ◌≤◌, ◌*◌, ◌^◌, ℕ, true, List, length, None, sym, ap, ◌∙◌, arith}
use Rattle.std.proofs.lemmas.Option.{none-some}
use Rattle.ff_base.specs.Geometry.{capacity_of}
use Rattle.ff_base.specs.declared.geometry.Geometry.{Geometry}
use Rattle.ff_cache.specs.Cache.{CacheView, fresh_cache}
use Rattle.ff_cache.specs.Slots.{held}
use Rattle.ff_device.proofs.Rooms.{room_for}
use Rattle.ff_mount.specs.Over.{IsCacheOver, is_mapped_or_dirty}
use Rattle.ff_store.proofs.Remounting.{remounted_sizes}
use Rattle.ff_store.specs.PageStore.{PageStoreView}
use Rattle.ff_store.specs.Remounted.{IsRemounted}
use Rattle.ff_core.specs.Resume.{CanResume}
use Rattle.ff_core.proofs.Beginning.{none-held}

over-empty : (g : Geometry) (s : PageStoreView) (cache : CacheView) → IsRemounted g s → cache ≡ fresh_cache g.sets g.ways
    → s.waits ≡ None → g.pages ≤ capacity_of g → IsCacheOver g s cache
over-empty g s cache is fresh none room =
    let sizes = remounted_sizes g s is in
    let absent : (page : ℕ) → held cache.slots page ≡ None = λ page.
    ap (λ (c : CacheView). held c.slots page) fresh ∙ none-held (g.sets * g.ways) page in
    record {
      blocks = sizes.blocks;
      per_block = sizes.per_block;
      page_count = sizes.pages;
      sets = ap (λ (c : CacheView). c.sets) fresh;
      ways = ap (λ (c : CacheView). c.ways) fresh;
      page = λ page slot found. absurd (none-some slot (sym (absent page) ∙ found));
      full = λ page slot found. absurd (none-some slot (sym (absent page) ∙ found));
      clean = λ page slot found clean. absurd (none-some slot (sym (absent page.0) ∙ found));
      waiting = λ p waits. absurd (none-some p (sym none ∙ waits));
      few = room_for (is_mapped_or_dirty s cache) g.pages (capacity_of g) room;
    }

pub resume_empty : (g : Geometry) (s : PageStoreView) (cache : CacheView) (marks : List ℕ) → IsRemounted g s
    → cache ≡ fresh_cache g.sets g.ways → g.pages ≤ capacity_of g → length marks ≡ g.pages → s.world.flash.on ≡ true
    → s.world.flash.operations ≤ 2 ^ 62 → CanResume g s cache marks 0
resume_empty g s cache marks is fresh room marked on few =
    let none : s.waits ≡ None = ap (λ (x : PageStoreView). x.waits) is.store in
    let absent : (page : ℕ) → held cache.slots page ≡ None = λ page.
    ap (λ (c : CacheView). held c.slots page) fresh ∙ none-held (g.sets * g.ways) page in
    record {
      over = over-empty g s cache is fresh none room;
      none = none;
      unpinned = λ page slot found. absurd (none-some slot (sym (absent page) ∙ found));
      marked = marked;
      on = on;
      life = (omega arith);
      not_past = (omega arith);
    }
