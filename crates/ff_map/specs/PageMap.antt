-- What a contract sees of a map, what the map keeps, and what a call changes of it.
use Rattle.std.specs.Prelude.{
  ℕ,
  ◌+◌,
  ◌*◌,
  ◌<◌,
  ◌≡◌,
  ◌≢◌,
  ◌==◌,
  if◌then◌else◌,
  List,
  [],
  ◌∷◌,
  length,
  replicate,
  slice_index_or,
  slice_set,
  Option,
  None,
  Some,
  option_map,
  All,
  AllPairs,
}
use Rattle.ff_base.specs.Geometry.{IsAllowed}
use Rattle.ff_base.specs.declared.geometry.Geometry.{Geometry}
use Rattle.ff_base.specs.declared.limits.LimitName.TheVariants.{FlashPages, Pages}
use Rattle.ff_base.specs.declared.numbers.PageNo.{PageNo}
use Rattle.ff_base.specs.declared.numbers.Ppn.{Ppn}
use Rattle.ff_map.specs.declared.places.Mapping.{Mapping}
use Rattle.ff_map.specs.declared.places.Move.{Move}

-- where each logical page is, how many places there are, and the next version to draw
pub record PageMapView : Type 0 where
  pub pages : List (Option Mapping)
  pub places : ℕ
  pub next_version : ℕ

-- the place and the version of a page
abbrev pub mapping_of : PageMapView → PageNo → Option Mapping
mapping_of map page = slice_index_or map.pages page.0 None

-- the place of a page
abbrev pub place_of : PageMapView → PageNo → Option Ppn
place_of map page = option_map (λ mapping. mapping.at) (mapping_of map page)

-- the version of a page
abbrev pub version_of : PageMapView → PageNo → Option ℕ
version_of map page = option_map (λ mapping. mapping.version) (mapping_of map page)

-- the page is at the place
abbrev pub IsOwner : PageMapView → Ppn → PageNo → Type 0
IsOwner map at page = place_of map page ≡ Some at

-- no two pages are at one place, and every page that is mapped is at one of the places
pub record IsOneToOne (map : PageMapView) : Type 0 where
  pub apart : (at : Ppn) (one other : PageNo) → IsOwner map at one → IsOwner map at other
      → one ≡ other
  pub within : (at : Ppn) (page : PageNo) → IsOwner map at page → at.0 < map.places

-- what a map keeps: it is one to one, and its sizes are those of a geometry
pub record IsPageMapSound (map : PageMapView) : Type 0 where
  pub one_to_one : IsOneToOne map
  pub pages : IsAllowed Pages (length map.pages)
  pub places : IsAllowed FlashPages map.places

-- no page is mapped
abbrev pub empty_map : Geometry → PageMapView
empty_map geometry = record {
  pages = replicate geometry.pages None;
  places = geometry.blocks * geometry.per_block;
  next_version = 1;
}

-- the map after a page got this mapping; the rest is unchanged
abbrev pub with_mapping : PageMapView → PageNo → Mapping → PageMapView
with_mapping map page mapping = record map { pages = slice_set map.pages page.0 (Some mapping) }

-- the map after a version was drawn; the rest is unchanged
abbrev pub drawn_map : PageMapView → PageMapView
drawn_map map = record map { next_version = map.next_version + 1 }

-- no page but this one is at the place
abbrev pub IsFreeBut : PageMapView → Ppn → PageNo → Type 0
IsFreeBut map at page = (other : PageNo) → IsOwner map at other → other ≡ page

-- no page is at the place
abbrev pub IsFree : PageMapView → Ppn → Type 0
IsFree map at = (page : PageNo) → IsOwner map at page → ⊥

-- the moves' pages and destinations are in range, no page is at a destination, no two moves are of one page, and no
-- two go to one place
pub record CanSwitch (map : PageMapView) (moves : List Move) : Type 0 where
  pub pages : All (λ one. one.page.0 < length map.pages) moves
  pub places : All (λ one. one.to.0 < map.places) moves
  pub free : All (λ one. IsFree map one.to) moves
  pub pages_apart : AllPairs (λ one other. one.page.0 ≢ other.page.0) moves
  pub places_apart : AllPairs (λ one other. one.to.0 ≢ other.to.0) moves

-- the place of a mapping after a move of its page, which a mapping that is elsewhere ignores; the version stays
abbrev pub moved_by : Move → Mapping → Mapping
moved_by one mapping =
    if mapping.at.0 == one.from.0 then record mapping { at = one.to } else mapping

-- what was a page's mapping, after the move of the page, if there is one
abbrev pub moved : List Move → PageNo → Option Mapping → Option Mapping
moved [] page old = old
moved (one ∷ rest) page old =
    if one.page.0 == page.0 then option_map (moved_by one) old else moved rest page old

-- every page's mapping is what the moves make of it, and the rest is unchanged
pub record IsSwitched (moves : List Move) (old new : PageMapView) : Type 0 where
  pub mappings : (page : PageNo) → mapping_of new page ≡ moved moves page (mapping_of old page)
  pub pages : length new.pages ≡ length old.pages
  pub places : new.places ≡ old.places
  pub next_version : new.next_version ≡ old.next_version
