-- What a look-up finds in a map, and after each change of it: for the proofs of every user.
use Rattle.std.proofs.Common.{◌≡◌, ◌≢◌, ℕ, suc, zero, ◌<◌, List, [], ◌∷◌, length, get_or, eqb, eq-eqb, true, false, Option, None, Some, inl, inr, refl, sym, ap, ◌∙◌, arith}
use Rattle.std.specs.Prelude.{option_map, All, AllPairs}
use Rattle.std.proofs.lemmas.Bool.{cases_Bool, cases_lt, ne_eqb}
use Rattle.std.proofs.lemmas.List.{get_or-set_same, get_or-set_other, get_or_past}
use Rattle.std.proofs.lemmas.Option.{same_Some, none-some}
use Rattle.ff_base.specs.declared.numbers.PageNo.{PageNo}
use Rattle.ff_base.specs.declared.numbers.Ppn.{Ppn}
use Rattle.ff_map.specs.PageMap.{
  PageMapView,
  IsPageMapSound,
  IsSwitched,
  drawn_map,
  mapping_of,
  moved,
  moved_by,
  place_of,
  version_of,
  with_mapping,
}
use Rattle.ff_map.specs.declared.places.Mapping.{Mapping}
use Rattle.ff_map.specs.declared.places.Move.{Move}

-- the page is mapped to this place
pub record IsMappedAt (map : PageMapView) (page : PageNo) (at : Ppn) : Type 0 where
  pub version : ℕ
  pub is : mapping_of map page ≡ Some (record { at = at; version = version })

-- a page after it was mapped
pub mapping_of-with_mapping : (map : PageMapView) (page : PageNo) (mapping : Mapping)
    → page.0 < length map.pages
    → mapping_of (with_mapping map page mapping) page ≡ Some mapping
mapping_of-with_mapping map page mapping within =
    get_or-set_same map.pages page.0 (Some mapping) None within

-- another page after one was mapped
pub mapping_of-with_mapping_other : (map : PageMapView) (page : PageNo) (mapping : Mapping)
    (other : PageNo) → other.0 ≢ page.0
    → mapping_of (with_mapping map page mapping) other ≡ mapping_of map other
mapping_of-with_mapping_other map page mapping other apart =
    get_or-set_other map.pages page.0 other.0 (Some mapping) None apart

-- a page after a version was drawn
pub mapping_of-drawn_map : (map : PageMapView) (page : PageNo)
    → mapping_of (drawn_map map) page ≡ mapping_of map page
mapping_of-drawn_map map page = refl

-- a drawn version leaves what a map keeps
pub sound-drawn_map : (map : PageMapView) → IsPageMapSound map → IsPageMapSound (drawn_map map)
sound-drawn_map map sound = record {
  one_to_one = record {
    apart = λ at one other. sound.one_to_one.apart at one other;
    within = λ at page. sound.one_to_one.within at page;
  };
  pages = sound.pages;
  places = sound.places;
}

-- the place of a page whose mapping is known
pub place_of_mapped : (map : PageMapView) (page : PageNo) (mapping : Mapping)
    → mapping_of map page ≡ Some mapping → place_of map page ≡ Some mapping.at
place_of_mapped map page mapping is =
    ap (λ (m : Option Mapping). option_map (λ (x : Mapping). x.at) m) is

-- the version of a page whose mapping is known
pub version_of_mapped : (map : PageMapView) (page : PageNo) (mapping : Mapping)
    → mapping_of map page ≡ Some mapping → version_of map page ≡ Some mapping.version
version_of_mapped map page mapping is =
    ap (λ (m : Option Mapping). option_map (λ (x : Mapping). x.version) m) is

mapping_at : (map : PageMapView) (page : PageNo) (at : Ppn) (found : Option Mapping)
    → mapping_of map page ≡ found → option_map (λ (x : Mapping). x.at) found ≡ Some at
    → IsMappedAt map page at
mapping_at map page at None is there = absurd (none-some at there)
mapping_at map page at (Some mapping) is there =
    let places : mapping.at ≡ at = same_Some mapping.at at there in
    let whole : mapping_of map page ≡ Some (record { at = at; version = mapping.version }) =
    is ∙ ap (λ (p : Ppn). let m : Mapping = record { at = p; version = mapping.version } in Some m) places in
    record { version = mapping.version; is = whole }

-- a page's place gives its mapping
pub mapped_at : (map : PageMapView) (page : PageNo) (at : Ppn) → place_of map page ≡ Some at
    → IsMappedAt map page at
mapped_at map page at there = mapping_at map page at (mapping_of map page) refl there

-- only a page of the map is mapped
pub mapped_page_within : (map : PageMapView) (page : PageNo) (mapping : Mapping)
    → mapping_of map page ≡ Some mapping → page.0 < length map.pages
mapped_page_within map page mapping is = elim (cases_lt page.0 (length map.pages)) [
  | inl within ↦ within
  | inr past ↦ absurd (none-some mapping (sym (get_or_past map.pages page.0 None past) ∙ is))
]

-- a page is mapped to a place of the flash
pub mapped_place_within : (map : PageMapView) → IsPageMapSound map → (page : PageNo) (mapping : Mapping)
    → mapping_of map page ≡ Some mapping → mapping.at.0 < map.places
mapped_place_within map sound page mapping is =
    sound.one_to_one.within mapping.at page (place_of_mapped map page mapping is)

-- two pages at one place are one page
pub one_page_at : (map : PageMapView) → IsPageMapSound map → (one other : PageNo) (mapping second : Mapping)
    → mapping_of map one ≡ Some mapping → mapping_of map other ≡ Some second
    → mapping.at.0 ≡ second.at.0 → one ≡ other
one_page_at map sound one other mapping second is also same =
    let places : second.at ≡ mapping.at =
    ap (λ (n : ℕ). let place : Ppn = record { 0 = n } in place) (sym same) in
    sound.one_to_one.apart mapping.at one other (place_of_mapped map one mapping is)
    (place_of_mapped map other second also ∙ ap Some places)

-- no move makes a mapping
pub moved-none : (moves : List Move) (page : PageNo) → moved moves page None ≡ None
moved-none [] page = refl
moved-none (one ∷ rest) page = elim (cases_Bool (eqb one.page.0 page.0)) [
  | inl hit ↦ rw hit refl
  | inr miss ↦ rw miss (moved-none rest page)
]

-- a page that no move names stays
pub moved_not_named : (moves : List Move) (page : PageNo) (old : Option Mapping)
    → All (λ one. one.page.0 ≢ page.0) moves → moved moves page old ≡ old
moved_not_named [] page old apart = refl
moved_not_named (one ∷ rest) page old apart =
    let miss : eqb one.page.0 page.0 ≡ false = ne_eqb one.page.0 page.0 (apart 0 one (omega arith)) in
    rw miss (moved_not_named rest page old (λ k d within. apart (suc k) d (omega arith)))

-- a page that is where no move is from stays
pub moved_elsewhere : (moves : List Move) (page : PageNo) (mapping : Mapping)
    → All (λ one. mapping.at.0 ≢ one.from.0) moves → moved moves page (Some mapping) ≡ Some mapping
moved_elsewhere [] page mapping apart = refl
moved_elsewhere (one ∷ rest) page mapping apart = elim (cases_Bool (eqb one.page.0 page.0)) [
  | inl hit ↦
      let stays : eqb mapping.at.0 one.from.0 ≡ false =
      ne_eqb mapping.at.0 one.from.0 (apart 0 one (omega arith)) in
      rw (hit, stays) refl
  | inr miss ↦
      rw miss (moved_elsewhere rest page mapping (λ k d within. apart (suc k) d (omega arith)))
]

-- the move that names a page decides
pub moved_named : (moves : List Move) (i : ℕ) (d : Move) (page : PageNo) (old : Option Mapping)
    → AllPairs (λ one other. one.page.0 ≢ other.page.0) moves → i < length moves
    → (get_or moves i d).page.0 ≡ page.0
    → moved moves page old ≡ option_map (moved_by (get_or moves i d)) old
moved_named [] i d page old apart within named = absurd (omega arith)
moved_named (one ∷ rest) zero d page old apart within named =
    let hit : eqb one.page.0 page.0 ≡ true = eq-eqb one.page.0 page.0 named in rw hit refl
moved_named (one ∷ rest) (suc i) d page old apart within named =
    let other : one.page.0 ≢ page.0 = λ same. apart 0 (suc i) d (omega arith) within (same ∙ sym named) in
    let miss : eqb one.page.0 page.0 ≡ false = ne_eqb one.page.0 page.0 other in
    rw miss
    (moved_named rest i d page old
    (λ j k e before inside. apart (suc j) (suc k) e (omega arith) (omega arith))
    (omega arith) named)

-- a page that is where its move is from goes to where the move is to, with its version
pub moved_along : (one : Move) (mapping : Mapping) → mapping.at.0 ≡ one.from.0
    → moved_by one mapping ≡ record { at = one.to; version = mapping.version }
moved_along one mapping same =
    let hit : eqb mapping.at.0 one.from.0 ≡ true = eq-eqb mapping.at.0 one.from.0 same in rw hit refl

-- a move leaves a mapping's version
version-moved_by : (one : Move) (mapping : Mapping)
    → (moved_by one mapping).version ≡ mapping.version
version-moved_by one mapping = elim (cases_Bool (eqb mapping.at.0 one.from.0)) [
  | inl hit ↦ rw hit refl
  | inr miss ↦ rw miss refl
]

version_after : (one : Move) (old : Option Mapping)
    → option_map (λ (x : Mapping). x.version) (option_map (moved_by one) old)
    ≡ option_map (λ (x : Mapping). x.version) old
version_after one None = refl
version_after one (Some mapping) = ap Some (version-moved_by one mapping)

version-moved : (moves : List Move) (page : PageNo) (old : Option Mapping)
    → option_map (λ (x : Mapping). x.version) (moved moves page old)
    ≡ option_map (λ (x : Mapping). x.version) old
version-moved [] page old = refl
version-moved (one ∷ rest) page old = elim (cases_Bool (eqb one.page.0 page.0)) [
  | inl hit ↦ rw hit (version_after one old)
  | inr miss ↦ rw miss (version-moved rest page old)
]

-- moves leave every page's version, and so which pages are mapped
pub version_of-switched : (moves : List Move) (old new : PageMapView) → IsSwitched moves old new
    → (page : PageNo) → version_of new page ≡ version_of old page
version_of-switched moves old new switched page =
    ap (λ (m : Option Mapping). option_map (λ (x : Mapping). x.version) m) (switched.mappings page)
    ∙ version-moved moves page (mapping_of old page)
