-- A device over a flash of which every page is erased has nothing in flight.
use Rattle.std.specs.Prelude.{replicate, slice_index_or}
use Rattle.std.proofs.Common.{◌≡◌, ℕ, ◌*◌, zero, suc, Bool, true, false, List, [], length, map, Option, None, refl, sym, subst, ◌∙◌, arith}
use Rattle.std.proofs.lemmas.Option.{none-some}
use Rattle.ff_base.specs.Geometry.{IsWithinLimits}
use Rattle.ff_base.specs.declared.geometry.Geometry.{Geometry}
use Rattle.ff_cache.specs.Cache.{CacheView, fresh_cache}
use Rattle.ff_cache.specs.Slots.{empty_slot, held}
use Rattle.ff_device.specs.Device.{DeviceView, parts_of}
use Rattle.ff_device.specs.Parts.{CanBegin, Parts, cached, is_written}
use Rattle.ff_device.specs.StoreState.{bytes_at, stored_in}
use Rattle.ff_flash.specs.Cells.{Cell}
use Rattle.ff_flash.specs.FlashState.{FlashState}
use Rattle.ff_lines.specs.PageSets.{count_below}
use Rattle.ff_lines.proofs.PageOverlaid.{length-blank_page}
use Rattle.ff_map.specs.declared.places.Mapping.{Mapping}
use Rattle.ff_store.specs.PageStore.{PageStoreView, new_store}
use Rattle.ff_window.specs.Window.{WindowView}
use Rattle.ff_core.specs.Fresh.{fresh_device}

-- an empty cache holds no page
pub none-held : (count page : ℕ) → held (replicate count empty_slot) page ≡ None
none-held zero page = refl
none-held (suc count) page = none-held count page

-- no page is mapped
pub none-stored : (count page : ℕ) (cells : List Cell)
    → slice_index_or (map (λ (m : Option Mapping). bytes_at cells m) (replicate count None)) page None ≡ None
none-stored zero page cells = refl
none-stored (suc count) zero cells = refl
none-stored (suc count) (suc page) cells = none-stored count page cells

none-counted : (set : ℕ → Bool) (count : ℕ) → ((page : ℕ) → set page ≡ false) → count_below set count ≡ 0
none-counted set zero none = refl
none-counted set (suc count) none = let before = none-counted set count none in rw (none count, before) refl

begun : (flash : FlashState) (g : Geometry) → IsWithinLimits g → CanBegin (parts_of (fresh_device flash g))
begun flash g limits =
    let parts : Parts = parts_of (fresh_device flash g) in
    let uncached : (page : ℕ) → cached parts page ≡ None = none-held (g.sets * g.ways) in
    let unstored : (page : ℕ) → stored_in parts.store page ≡ None = λ page. none-stored g.pages page flash.cells in
    let unwritten : (page : ℕ) → is_written parts page ≡ false = λ page. rw (unstored page, uncached page) refl in
    let count : count_below (is_written parts) (length parts.store.pages) ≡ 0 =
    none-counted (is_written parts) (length parts.store.pages) unwritten in
    record {
      pages = λ page resident. let both : false ≡ true = rw (uncached page) at resident in absurd (cc);
      size = λ page. rw (uncached page, unstored page) length-blank_page;
      clean = λ page slot is. absurd (none-some slot (sym (uncached page) ∙ is));
      idle = refl;
      empty = refl;
      room = omega (arith, count);
      window = omega (arith, limits.window.low);
    }

pub fresh_begins : (flash : FlashState) (g : Geometry) (store : PageStoreView) (cache : CacheView) (window : WindowView)
    → IsWithinLimits g → store ≡ new_store flash g → cache ≡ fresh_cache g.sets g.ways
    → window ≡ record { posts = []; room = g.window }
    → CanBegin (parts_of (record { store = store; cache = cache; window = window }))
fresh_begins flash g store cache window limits store_is cache_is window_is =
    let given : DeviceView = record { store = store; cache = cache; window = window } in
    let same : given ≡ fresh_device flash g = rw (store_is, cache_is, window_is) refl in
    subst (λ (d : DeviceView). CanBegin (parts_of d)) (sym same) (begun flash g limits)
