-- When a flush has room.
use Rattle.std.proofs.Common.{◌≡◌, ◌<◌, ◌≤◌, true, false, length, set, Option, None, Some, inl, inr, refl, sym, subst, ◌∙◌, arith}
use Rattle.std.specs.Prelude.{is_some, option_map}
use Rattle.std.proofs.lemmas.Bool.{cases_Bool}
use Rattle.std.proofs.lemmas.List.{length-set}
use Rattle.std.proofs.lemmas.List.Sums.{count_by-le-length}
use Rattle.ff_base.specs.Geometry.{capacity_of}
use Rattle.ff_base.specs.declared.geometry.Geometry.{Geometry}
use Rattle.ff_base.specs.declared.numbers.PageNo.{PageNo}
use Rattle.ff_flash.specs.declared.flash.FlashStop.{FlashStop}
use Rattle.ff_map.specs.PageMap.{PageMapView}
use Rattle.ff_map.specs.declared.places.Mapping.{Mapping}
use Rattle.ff_gc.specs.World.{World}
use Rattle.ff_store.proofs.Settling.{mapped_count_with}
use Rattle.ff_store.specs.Calls.{IsCall, waiting_page}
use Rattle.ff_store.specs.PageStore.{PageStoreView}
use Rattle.ff_store.specs.Pages.{HasRoomForAll, mapped_with, page_capacity}
use Rattle.ff_store.specs.Remounted.{IsOfGeometry}
use Rattle.ff_store.specs.declared.pending.Pending.{Pending}

-- no more pages are mapped than there are
pub mapped_most : (places : PageMapView) (page : PageNo) → page.0 < length places.pages
    → mapped_with places page ≤ length places.pages
mapped_most places page within =
    let m : Mapping = record { at = record { 0 = 0 }; version = 0 } in
    let counted = mapped_count_with places page m within in
    let most = count_by-le-length (λ (x : Option Mapping). is_some x) (set places.pages page.0 (Some m)) in
    let size = length-set places.pages page.0 (Some m) in
    omega arith

-- a store with room for all its pages has room for each
pub room_for : (s : PageStoreView) (page : PageNo) → HasRoomForAll s.world → page.0 < length s.world.places.pages
    → mapped_with s.world.places page ≤ page_capacity s.world
room_for s page room within = let most = mapped_most s.world.places page within in omega arith

none_by : (waits : Option Pending) → option_map (λ (p : Pending). p.page) waits ≡ None → waits ≡ None
none_by None is = refl
none_by (Some p) is = absurd (cc)

-- no flush waits
pub none_waits : (s : PageStoreView) → waiting_page s ≡ None → s.waits ≡ None
none_waits s is = none_by s.waits is

-- a call leaves the room as it was
pub room_after : (old new : PageStoreView) (stop : Option FlashStop) → (old.world.flash.on ≡ false → new ≡ old)
    → (old.world.flash.on ≡ true → IsCall old stop new) → HasRoomForAll old.world → HasRoomForAll new.world
room_after old new stop off call room = elim (cases_Bool old.world.flash.on) [
  | inl on ↦
      let same = (call on).same in
      let capacity : page_capacity new.world ≡ page_capacity old.world = rw (same.blocks, same.per_block) refl in
      let pages = same.pages in
      omega arith
  | inr down ↦ subst (λ (s : PageStoreView). HasRoomForAll s.world) (sym (off down)) room
]

some_by : (waits : Option Pending) → is_some (option_map (λ (p : Pending). p.page) waits) ≡ true → is_some waits ≡ true
some_by None is = is
some_by (Some p) is = refl

-- a flush waits
pub some_waits : (s : PageStoreView) → is_some (waiting_page s) ≡ true → is_some s.waits ≡ true
some_waits s is = some_by s.waits is

-- a call leaves the sizes as they were
pub sizes_after : (g : Geometry) (old new : PageStoreView) (stop : Option FlashStop)
    → (old.world.flash.on ≡ false → new ≡ old) → (old.world.flash.on ≡ true → IsCall old stop new)
    → IsOfGeometry g old.world → IsOfGeometry g new.world
sizes_after g old new stop off call sizes = elim (cases_Bool old.world.flash.on) [
  | inl on ↦
      let same = (call on).same in
      record {
        blocks = same.blocks ∙ sizes.blocks;
        per_block = same.per_block ∙ sizes.per_block;
        pages = same.pages ∙ sizes.pages;
      }
  | inr down ↦ subst (λ (s : PageStoreView). IsOfGeometry g s.world) (sym (off down)) sizes
]

-- a geometry with room for all its pages
pub room_of : (g : Geometry) (w : World) → IsOfGeometry g w → g.pages ≤ capacity_of g → HasRoomForAll w
room_of g w sizes room =
    let capacity : page_capacity w ≡ capacity_of g = rw (sizes.blocks, sizes.per_block) refl in
    let pages = sizes.pages in
    omega arith
