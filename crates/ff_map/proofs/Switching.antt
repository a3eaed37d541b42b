-- What moves leave of a map, one move after another.
use Rattle.std.proofs.Common.{◌≡◌, ◌≢◌, ℕ, suc, ◌+◌, ◌<◌, false, eqb, List, [], ◌∷◌, ◌++◌, length, get_or, take, Option, None, Some, inl, inr, refl, sym, ap, ◌∙◌, arith}
use Rattle.std.specs.Prelude.{option_map, All, AllPairs}
use Rattle.std.proofs.lemmas.Bool.{cases_Bool, eqb-true, ne_eqb}
use Rattle.std.proofs.lemmas.List.{get_or-take, get_or_default, length-take-le, take_more}
use Rattle.std.proofs.lemmas.List.Elements.{All-cons, All-nil}
use Rattle.std.proofs.lemmas.Option.{same_Some}
use Rattle.ff_base.specs.declared.numbers.PageNo.{PageNo}
use Rattle.ff_base.specs.declared.numbers.Ppn.{Ppn}
use Rattle.ff_map.specs.PageMap.{PageMapView, mapping_of, IsFree, CanSwitch, IsSwitched, moved, moved_by}
use Rattle.ff_map.specs.declared.places.Mapping.{Mapping}
use Rattle.ff_map.specs.declared.places.Move.{Move}

-- a mapping after one move
moved_from : (one : Move) (old : Option Mapping) (at : Ppn) → one.to.0 ≢ at.0
    → option_map (λ (m : Mapping). m.at) (option_map (moved_by one) old) ≡ Some at
    → option_map (λ (m : Mapping). m.at) old ≡ Some at
moved_from one None at apart there = there
moved_from one (Some mapping) at apart there = elim (cases_Bool (eqb mapping.at.0 one.from.0)) [
  | inl hit ↦ absurd (apart (ap (λ (p : Ppn). p.0) (same_Some one.to at (rw hit at there))))
  | inr miss ↦ rw miss at there
]

-- a page that is at a place to which no move goes was there before
was_there : (moves : List Move) (page : PageNo) (old : Option Mapping) (at : Ppn)
    → All (λ one. one.to.0 ≢ at.0) moves
    → option_map (λ (m : Mapping). m.at) (moved moves page old) ≡ Some at
    → option_map (λ (m : Mapping). m.at) old ≡ Some at
was_there [] page old at apart there = there
was_there (one ∷ rest) page old at apart there = elim (cases_Bool (eqb one.page.0 page.0)) [
  | inl hit ↦ moved_from one old at (apart 0 one (omega arith)) (rw hit at there)
  | inr miss ↦ was_there rest page old at (λ k d within. apart (suc k) d (omega arith)) (rw miss at there)
]

-- one more move, of a page that the moves before it don't name
moved-append : (moves : List Move) (one : Move) (page : PageNo) (old : Option Mapping)
    → All (λ other. other.page.0 ≢ one.page.0) moves
    → moved (moves ++ one ∷ []) page old ≡ moved (one ∷ []) page (moved moves page old)
moved-append [] one page old apart = refl
moved-append (first ∷ rest) one page old apart = elim (cases_Bool (eqb first.page.0 page.0)) [
  | inl hit ↦
      let other : eqb one.page.0 page.0 ≡ false = ne_eqb one.page.0 page.0 (λ same. apart 0 first (omega arith) (eqb-true first.page.0 page.0 hit ∙ sym same)) in
      rw (hit, other) refl
  | inr miss ↦ rw miss (moved-append rest one page old (λ k d within. apart (suc k) d (omega arith)))
]

-- no move leaves all as it is
pub none_switched : (map : PageMapView) → IsSwitched [] map map
none_switched map = record { mappings = λ page. refl; pages = refl; places = refl; next_version = refl }

-- a move's page or destination is none of the earlier moves'
earlier_apart : (key : Move → ℕ) (moves : List Move) (i : ℕ) (d : Move)
    → AllPairs (λ first second. key first ≢ key second) moves
    → i < length moves → All (λ other. key other ≢ key (get_or moves i d)) (take i moves)
earlier_apart key moves i d apart within k e below same =
    let count : length (take i moves) ≡ i = length-take-le i moves (omega arith) in
    apart k i e (omega arith) within
    (sym (ap key (get_or-take i moves k e (omega arith))) ∙ same ∙ ap key (get_or_default moves i d e within))

-- one more move
pub more_switched : (moves : List Move) (i : ℕ) (d : Move) (before now after : PageMapView)
    → CanSwitch before moves → i < length moves
    → IsSwitched (take i moves) before now → IsSwitched (get_or moves i d ∷ []) now after
    → IsSwitched (take (i + 1) moves) before after
more_switched moves i d before now after can within so_far last =
    let one : Move = get_or moves i d in
    let apart = earlier_apart (λ (m : Move). m.page.0) moves i d can.pages_apart within in
    rw (take_more moves i d within) record {
      mappings = λ page.
          last.mappings page
          ∙ ap (λ (m : Option Mapping). moved (one ∷ []) page m) (so_far.mappings page)
          ∙ sym (moved-append (take i moves) one page (mapping_of before page) apart);
      pages = last.pages ∙ so_far.pages;
      places = last.places ∙ so_far.places;
      next_version = last.next_version ∙ so_far.next_version;
    }

-- the next move can be made
pub next_ready : (moves : List Move) (i : ℕ) (d : Move) (before now : PageMapView)
    → CanSwitch before moves → i < length moves
    → IsSwitched (take i moves) before now → CanSwitch now (get_or moves i d ∷ [])
next_ready moves i d before now can within so_far =
    let one : Move = get_or moves i d in
    let page : one.page.0 < length now.pages = omega (arith, so_far.pages, can.pages i d within) in
    let place : one.to.0 < now.places = omega (arith, so_far.places, can.places i d within) in
    let apart = earlier_apart (λ (m : Move). m.to.0) moves i d can.places_apart within in
    let free : IsFree now one.to = λ page there.
    can.free i d within page
    (was_there (take i moves) page (mapping_of before page) one.to apart (sym (ap (λ (m : Option Mapping). option_map (λ (x : Mapping). x.at) m) (so_far.mappings page)) ∙ there)) in
    record {
      pages = All-cons (λ m. m.page.0 < length now.pages) one [] page (All-nil (λ m. m.page.0 < length now.pages));
      places = All-cons (λ m. m.to.0 < now.places) one [] place (All-nil (λ m. m.to.0 < now.places));
      free = All-cons (λ m. IsFree now m.to) one [] free (All-nil (λ m. IsFree now m.to));
      pages_apart = λ j k e before within. absurd (omega arith);
      places_apart = λ j k e before within. absurd (omega arith);
    }
