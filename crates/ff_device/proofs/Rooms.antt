-- A device of which nothing is cached or stored, and one with room for all its pages.
use Rattle.std.proofs.Common.{◌≡◌, ◌≤◌, inl, inr, ℕ, zero, suc, ◌*◌, Bool, true, false, [], length, get_or, Option, None, refl, sym, ap, ◌∙◌, arith}
use Rattle.std.specs.Prelude.{replicate}
use Rattle.std.proofs.lemmas.Bool.{cases_lt}
use Rattle.std.proofs.lemmas.List.{get_or-replicate, get_or_past, length-replicate}
use Rattle.std.proofs.lemmas.Option.{none-some}
use Rattle.ff_base.specs.Geometry.{IsWithinLimits, capacity_of}
use Rattle.ff_base.specs.declared.geometry.Geometry.{Geometry}
use Rattle.ff_cache.specs.Cache.{fresh_cache}
use Rattle.ff_cache.specs.Slots.{empty_slot, held}
use Rattle.ff_flash.specs.FlashState.{FlashState}
use Rattle.ff_lines.proofs.PageOverlaid.{length-blank_page}
use Rattle.ff_lines.proofs.PageCounts.{count_below-most}
use Rattle.ff_lines.specs.PageSets.{count_below}
use Rattle.ff_map.specs.declared.places.Mapping.{Mapping}
use Rattle.ff_space.specs.BlockTable.{new_table}
use Rattle.ff_space.specs.Blocks.{erased_block}
use Rattle.ff_store.specs.PageStore.{new_store}
use Rattle.ff_device.specs.Device.{lines_in, parts_of, DeviceView}
use Rattle.ff_device.specs.Parts.{CanBegin, cached, is_written}
use Rattle.ff_device.specs.StoreState.{bytes_at, seen_of, stored_in}
use Rattle.ff_device.proofs.SeenPages.{length-pages, stored_at}

-- empty slots hold no page
none_held : (n page : ℕ) → held (replicate n empty_slot) page ≡ None
none_held zero page = refl
none_held (suc n) page = none_held n page

same_each : {X : Type 0} (n i : ℕ) (x : X) → get_or (replicate n x) i x ≡ x
same_each n i x = elim (cases_lt i n) [
  | inl below ↦ get_or-replicate n i x x below
  | inr past ↦ get_or_past (replicate n x) i x (let size = length-replicate n x in omega arith)
]

none_below : (set : ℕ → Bool) (n : ℕ) → ((page : ℕ) → set page ≡ false) → count_below set n ≡ 0
none_below set zero none = refl
none_below set (suc n) none = rw (none n, none_below set n none) refl

abbrev fresh_parts : FlashState → Geometry → DeviceView
fresh_parts flash g = record {
  store = new_store flash g;
  cache = fresh_cache g.sets g.ways;
  window = record { posts = []; room = g.window };
}

-- its parts may begin
pub fresh_begins : (flash : FlashState) (g : Geometry) → IsWithinLimits g → CanBegin (parts_of (fresh_parts flash g))
fresh_begins flash g limits =
    let absent : (page : ℕ) → cached (parts_of (fresh_parts flash g)) page ≡ None = none_held (g.sets * g.ways) in
    let stored : (page : ℕ) → stored_in (seen_of (new_store flash g)) page ≡ None = λ page.
    stored_at (new_store flash g) page ∙ ap (λ (m : Option Mapping). bytes_at flash.cells m) (same_each g.pages page None) in
    let written : (page : ℕ) → is_written (parts_of (fresh_parts flash g)) page ≡ false = λ page. rw (stored page, absent page) refl in
    let some = limits.window.low in
    record {
      pages = λ page is. let none : false ≡ true = rw (absent page) at is in absurd (cc);
      size = λ page. rw (absent page, stored page) length-blank_page;
      clean = λ page slot is dirty. absurd (none-some slot (sym (absent page) ∙ is));
      idle = refl;
      empty = refl;
      room = (let none = none_below (is_written (parts_of (fresh_parts flash g))) (length (parts_of (fresh_parts flash g)).store.pages) written in omega arith);
      window = some;
    }

-- a fresh device has as many pages and as much room as its geometry
pub fresh_room : (flash : FlashState) (g : Geometry) → g.pages ≤ capacity_of g
    → (lines_in (fresh_parts flash g)).pages ≤ (lines_in (fresh_parts flash g)).room
fresh_room flash g room =
    let pages : length (seen_of (new_store flash g)).pages ≡ g.pages =
    length-pages (new_store flash g) ∙ length-replicate g.pages None in
    let blocks : length (new_table g).blocks ≡ g.blocks = length-replicate g.blocks erased_block in
    rw (pages, blocks) room

-- where there is room for all pages there is room for those of a set
pub room_for : (set : ℕ → Bool) (pages room : ℕ) → pages ≤ room → count_below set pages ≤ room
room_for set pages room all = let most = count_below-most set pages in omega arith
