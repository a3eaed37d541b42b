-- The pages of a store, as a device sees them.
use Rattle.std.proofs.Common.{◌≡◌, ◌<◌, ℕ, List, length, Option, None, Some, refl, sym, ap, subst, ◌∙◌, arith}
use Rattle.std.proofs.Math.ListN.{get_or, get_or-map as get_or-map_all}
use Rattle.std.proofs.lemmas.List.{get_or-map, length-map, same_lists}
use Rattle.std.specs.Prelude.{option_map, unwrap_or}
use Rattle.ff_base.specs.Page.{blank_page}
use Rattle.ff_base.specs.declared.numbers.PageNo.{PageNo}
use Rattle.ff_flash.specs.Cells.{Cell, cell_at, cell_bytes}
use Rattle.ff_gc.specs.World.{mapped_bytes, page_bytes}
use Rattle.ff_lines.proofs.PageOverlaid.{length-blank_page}
use Rattle.ff_map.specs.PageMap.{IsPageMapSound, mapping_of}
use Rattle.ff_map.specs.declared.places.Mapping.{Mapping}
use Rattle.ff_store.proofs.Remaining.{left_most}
use Rattle.ff_store.specs.Calls.{SameBytes}
use Rattle.ff_store.specs.PageStore.{IsStoreSound, PageStoreView}
use Rattle.ff_store.specs.declared.pending.Pending.{Pending}
use Rattle.ff_device.specs.StoreState.{PendingFlush, bytes_at, flush_at, seen_of, stored_bytes, stored_in, IsStoreStateSound}

-- a page's bytes by its mapping
pub stored_at : (s : PageStoreView) (page : ℕ)
    → stored_in (seen_of s) page ≡ bytes_at s.world.flash.cells (get_or s.world.places.pages page None)
stored_at s page = get_or-map_all (λ (m : Option Mapping). bytes_at s.world.flash.cells m) s.world.places.pages page None

bytes_or_blank : (cells : List Cell) (m : Option Mapping) → unwrap_or (bytes_at cells m) blank_page ≡ mapped_bytes cells m
bytes_or_blank cells None = refl
bytes_or_blank cells (Some m) = refl

-- the bytes of a page are those that the store has for it
pub seen_bytes : (s : PageStoreView) (page : PageNo) → stored_bytes (seen_of s) page.0 ≡ page_bytes s.world page
seen_bytes s page =
    ap (λ (o : Option (List ℕ)). unwrap_or o blank_page) (stored_at s page.0)
    ∙ bytes_or_blank s.world.flash.cells (mapping_of s.world.places page)

pub length-pages : (s : PageStoreView) → length (seen_of s).pages ≡ length s.world.places.pages
length-pages s = length-map s.world.places.pages (λ (m : Option Mapping). bytes_at s.world.flash.cells m)

mapped_size : (s : PageStoreView) (page : PageNo) (m : Option Mapping) → IsStoreSound s → mapping_of s.world.places page ≡ m
    → length (mapped_bytes s.world.flash.cells m) ≡ 4096
mapped_size s page None sound is = length-blank_page
mapped_size s page (Some m) sound is =
    let safe = sound.always.safe in
    safe.sealed_cells.full m.at.0 _ _ (safe.mapped.placed page m is)

flush_within : (cells : List Cell) (pages : ℕ) (waits : Option Pending) (flush : PendingFlush)
    → ((p : Pending) → waits ≡ Some p → p.page.0 < pages) → flush_at cells waits ≡ Some flush → flush.page < pages
flush_within cells pages None flush within is = absurd (cc)
flush_within cells pages (Some p) flush within is =
    let found : PendingFlush = record { page = p.page.0; bytes = cell_bytes (cell_at cells p.at.0) } in
    let same : found ≡ flush = cc in
    subst (λ (f : PendingFlush). f.page < pages) same (within p refl)

-- what every store keeps
pub store_seen : (s : PageStoreView) → IsStoreSound s → IsPageMapSound s.world.places → IsStoreStateSound (seen_of s)
store_seen s sound map_sound =
    let size = length-pages s in
    let few = map_sound.pages.high in
    record {
      few = left_most s.world;
      pages = (omega arith);
      pending = λ flush is. rw size
          (flush_within s.world.flash.cells (length s.world.places.pages) s.waits flush sound.always.in_range is);
      size = λ page.
          ap length (seen_bytes s (record { 0 = page }))
          ∙ mapped_size s (record { 0 = page }) (mapping_of s.world.places (record { 0 = page })) sound refl;
    }

bytes_alike : (old new : List Cell) (m n : Option Mapping) → mapped_bytes new n ≡ mapped_bytes old m
    → option_map (λ (x : Mapping). x.version) n ≡ option_map (λ (x : Mapping). x.version) m
    → bytes_at new n ≡ bytes_at old m
bytes_alike old new None None bytes version = refl
bytes_alike old new None (Some n) bytes version = absurd (cc)
bytes_alike old new (Some m) None bytes version = absurd (cc)
bytes_alike old new (Some m) (Some n) bytes version = ap (λ (b : List ℕ). Some b) bytes

-- where no page changes its bytes, the pages are the same
pub pages_same : (old new : PageStoreView) → length new.world.places.pages ≡ length old.world.places.pages
    → SameBytes old new → (seen_of new).pages ≡ (seen_of old).pages
pages_same old new size same = same_lists (seen_of new).pages (seen_of old).pages
    (length-pages new ∙ size ∙ sym (length-pages old))
    (λ k d within.
    let inside : k < length new.world.places.pages = rw (← length-pages new) within in
    let before : k < length old.world.places.pages = rw (← size) inside in
    get_or-map (λ (m : Option Mapping). bytes_at new.world.flash.cells m) new.world.places.pages k None d inside
    ∙ bytes_alike old.world.flash.cells new.world.flash.cells (get_or old.world.places.pages k None)
    (get_or new.world.places.pages k None) (same.bytes (record { 0 = k })) (same.versions (record { 0 = k }))
    ∙ sym (get_or-map (λ (m : Option Mapping). bytes_at old.world.flash.cells m) old.world.places.pages k None d before))
