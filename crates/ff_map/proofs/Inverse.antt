-- The list of mappings and the list of owners stay each other's inverse.
use Rattle.std.proofs.Common.{◌≡◌, ◌≢◌, ℕ, ◌<◌, List, length, get_or, set, replicate, Option, None, Some, inl, inr, refl, sym, ap, ◌∙◌, arith, length-set}
use Rattle.std.specs.Prelude.{option_map}
use Rattle.std.proofs.lemmas.Bool.{cases_eq, cases_lt}
use Rattle.std.proofs.lemmas.Grind.{get_or-set_at}
use Rattle.std.proofs.lemmas.List.{get_or-replicate, get_or-set_other, get_or_past, length-replicate}
use Rattle.std.proofs.lemmas.Option.{same_Some, none-some}
use Rattle.ff_base.specs.Geometry.{IsAllowed}
use Rattle.ff_base.specs.declared.limits.LimitName.TheVariants.{FlashPages, Pages}
use Rattle.ff_base.specs.declared.numbers.PageNo.{PageNo}
use Rattle.ff_base.specs.declared.numbers.Ppn.{Ppn}
use Rattle.ff_map.specs.Owners.{IsInverse, listed_owner, listed_place, released}
use Rattle.ff_map.specs.PageMap.{IsPageMapSound, IsOneToOne}
use Rattle.ff_map.specs.declared.places.Mapping.{Mapping}

same_page : (one other : PageNo) → one.0 ≡ other.0 → one ≡ other
same_page one other same = ap (λ (n : ℕ). let page : PageNo = record { 0 = n } in page) same

same_place : (one other : Ppn) → one.0 ≡ other.0 → one ≡ other
same_place one other same = ap (λ (n : ℕ). let place : Ppn = record { 0 = n } in place) same

-- the place of a page whose mapping is known
pub place_there : (pages : List (Option Mapping)) (page : PageNo) (mapping : Mapping)
    → get_or pages page.0 None ≡ Some mapping → listed_place pages page ≡ Some mapping.at
place_there pages page mapping is = ap (λ (m : Option Mapping). option_map (λ (x : Mapping). x.at) m) is

-- a page is at a place that is in range
pub place_within : (pages : List (Option Mapping)) (owners : List (Option PageNo))
    → IsInverse pages owners
    → (page : PageNo) (at : Ppn) → listed_place pages page ≡ Some at → at.0 < length owners
place_within pages owners inverse page at there = elim (cases_lt at.0 (length owners)) [
  | inl within ↦ within
  | inr past ↦ absurd (none-some page (sym (get_or_past owners at.0 None past) ∙ inverse.owned page at there))
]

-- what a map's readers can know
pub one_to_one : (pages : List (Option Mapping)) (owners : List (Option PageNo)) (next : ℕ)
    → IsInverse pages owners
    → IsOneToOne record { pages = pages; places = length owners; next_version = next }
one_to_one pages owners next inverse = record {
  apart = λ at one other first second. same_Some one other (sym (inverse.owned one at first) ∙ inverse.owned other at second);
  within = λ at page there. place_within pages owners inverse page at there;
}

-- what every map keeps, of its view
pub sound_view : (pages : List (Option Mapping)) (owners : List (Option PageNo)) (next : ℕ)
    → IsInverse pages owners → IsAllowed Pages (length pages) → IsAllowed FlashPages (length owners)
    → IsPageMapSound record { pages = pages; places = length owners; next_version = next }
sound_view pages owners next inverse few_pages few_places = record {
  one_to_one = one_to_one pages owners next inverse;
  pages = few_pages;
  places = few_places;
}

pub length-released : (old : Option Mapping) (owners : List (Option PageNo))
    → length (released old owners) ≡ length owners
length-released None owners = refl
length-released (Some old) owners = length-set owners old.at.0 None

-- an owner that is left is another page
owner_left : (pages : List (Option Mapping)) (owners : List (Option PageNo)) (page : PageNo) (old : Option Mapping)
    → IsInverse pages owners → get_or pages page.0 None ≡ old
    → (other : PageNo) (at : Ppn) → listed_owner (released old owners) at ≡ Some other
    → (listed_owner owners at ≡ Some other) × (other.0 ≢ page.0)
owner_left pages owners page None inverse is other at left = (
  left,
  λ same.
      let there : get_or pages other.0 None ≡ None = ap (λ (n : ℕ). get_or pages n None) same ∙ is in
      let place : listed_place pages other ≡ None = ap (λ (m : Option Mapping). option_map (λ (x : Mapping). x.at) m) there in
      none-some at (sym place ∙ inverse.mapped other at left),
)
owner_left pages owners page (Some old) inverse is other at left =
    let place : listed_place pages page ≡ Some old.at = place_there pages page old is in
    let within : old.at.0 < length owners = place_within pages owners inverse page old.at place in
    elim (cases_eq at.0 old.at.0) [
      | inl same ↦ absurd (none-some other (sym (get_or-set_at owners old.at.0 at.0 None None same within) ∙ left))
      | inr apart ↦
          let owned : listed_owner owners at ≡ Some other = sym (get_or-set_other owners old.at.0 at.0 None None apart) ∙ left in (
            owned,
            λ same.
                let there : listed_place pages other ≡ Some old.at = place_there pages other old (ap (λ (n : ℕ). get_or pages n None) same ∙ is) in
                let places : at ≡ old.at = same_Some at old.at (sym (inverse.mapped other at owned) ∙ there) in
                apart (ap (λ (p : Ppn). p.0) places),
          )
    ]

-- another page stays the owner of its place
owner_stays : (pages : List (Option Mapping)) (owners : List (Option PageNo)) (page : PageNo) (old : Option Mapping)
    → IsInverse pages owners → get_or pages page.0 None ≡ old
    → (other : PageNo) (at : Ppn) → listed_owner owners at ≡ Some other → other.0 ≢ page.0
    → listed_owner (released old owners) at ≡ Some other
owner_stays pages owners page None inverse is other at owned apart = owned
owner_stays pages owners page (Some old) inverse is other at owned apart =
    let here : listed_owner owners old.at ≡ Some page = inverse.owned page old.at (place_there pages page old is) in
    let places : at.0 ≢ old.at.0 = λ same.
    let pages : other ≡ page = same_Some other page (sym owned ∙ ap (λ (n : ℕ). get_or owners n None) same ∙ here) in
    apart (ap (λ (p : PageNo). p.0) pages) in
    get_or-set_other owners old.at.0 at.0 None None places ∙ owned

-- a page is mapped to a place that no other page has
pub inverse_after : (pages : List (Option Mapping)) (owners : List (Option PageNo)) (page : PageNo) (new : Mapping)
    → IsInverse pages owners
    → page.0 < length pages → new.at.0 < length owners
    → ((other : PageNo) → listed_place pages other ≡ Some new.at → other ≡ page)
    → IsInverse (set pages page.0 (Some new)) (set (released (get_or pages page.0 None) owners) new.at.0 (Some page))
inverse_after pages owners page new inverse page_within at_within free =
    let left = released (get_or pages page.0 None) owners in
    let left_within : new.at.0 < length left = omega (arith, length-released (get_or pages page.0 None) owners) in
    record {
      owned = λ other at there. elim (cases_eq other.0 page.0) [
        | inl same ↦
            let now : listed_place (set pages page.0 (Some new)) other ≡ Some new.at =
            place_there (set pages page.0 (Some new)) other new (get_or-set_at pages page.0 other.0 (Some new) None same page_within) in
            let place : at ≡ new.at = same_Some at new.at (sym there ∙ now) in
            get_or-set_at left new.at.0 at.0 (Some page) None (ap (λ (p : Ppn). p.0) place) left_within ∙ ap Some (sym (same_page other page same))
        | inr apart ↦
            let before : listed_place pages other ≡ Some at =
            sym (ap (λ (m : Option Mapping). option_map (λ (x : Mapping). x.at) m) (get_or-set_other pages page.0 other.0 (Some new) None apart)) ∙ there in
            let places : at.0 ≢ new.at.0 = λ same.
            apart (ap (λ (p : PageNo). p.0) (free other (before ∙ ap Some (same_place at new.at same)))) in
            get_or-set_other left new.at.0 at.0 (Some page) None places
            ∙ owner_stays pages owners page (get_or pages page.0 None) inverse refl other at (inverse.owned other at before) apart
      ];
      mapped = λ other at owned. elim (cases_eq at.0 new.at.0) [
        | inl same ↦
            let who : page ≡ other = same_Some page other (sym (get_or-set_at left new.at.0 at.0 (Some page) None same left_within) ∙ owned) in
            place_there (set pages page.0 (Some new)) other new (get_or-set_at pages page.0 other.0 (Some new) None (ap (λ (p : PageNo). p.0) (sym who)) page_within)
            ∙ ap Some (sym (same_place at new.at same))
        | inr apart ↦
            let kept = owner_left pages owners page (get_or pages page.0 None) inverse refl other at (sym (get_or-set_other left new.at.0 at.0 (Some page) None apart) ∙ owned) in
            ap (λ (m : Option Mapping). option_map (λ (x : Mapping). x.at) m) (get_or-set_other pages page.0 other.0 (Some new) None kept.1)
            ∙ inverse.mapped other at kept.0
      ];
    }

none_there : {X : Type 0} (n k : ℕ) → get_or (replicate n (let none : Option X = None in none)) k None ≡ None
none_there {X} n k =
    let none : Option X = None in
    elim (cases_lt k n) [
      | inl within ↦ get_or-replicate n k none none within
      | inr past ↦ get_or_past (replicate n none) k none (let size = length-replicate n none in omega (arith, size, past))
    ]

-- where no page is mapped, no place has an owner
pub blank_inverse : (pages places : ℕ) → IsInverse (replicate pages None) (replicate places None)
blank_inverse pages places = record {
  owned = λ page at there. absurd (none-some at
      (sym (ap (λ (m : Option Mapping). option_map (λ (x : Mapping). x.at) m) (none_there pages page.0)) ∙ there));
  mapped = λ page at there. absurd (none-some page (sym (none_there places at.0) ∙ there));
}
