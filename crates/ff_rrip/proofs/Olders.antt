-- The oldest way, and one way more.
use Rattle.std.proofs.Common.{◌≡◌, ◌<◌, ◌≤◌, ℕ, ◌+◌, true, false, List, get_or, Option, None, Some, inl, inr, subst, ◌∙◌, arith}
use Rattle.std.proofs.lemmas.Bool.{cases_lt, false≢true}
use Rattle.ff_rrip.specs.Oldest.{IsOldest, IsOldestBelow}
use Rattle.ff_rrip.specs.Ways.{is_allowed}

-- of one way more, it is among those before or is the last
one_of : (P : ℕ → Type 0) (way other : ℕ) → other < way + 1 → (other < way → P other) → P way → P other
one_of P way other below before last = elim (cases_lt other way) [
  | inl less ↦ before less
  | inr from_on ↦ (let same : way ≡ other = omega (arith, below, from_on) in subst P same last)
]

-- a way that isn't allowed changes nothing
pub passed : (values : List ℕ) (allowed way : ℕ) (found : Option ℕ) → false ≡ is_allowed allowed way
    → IsOldestBelow values allowed way found → IsOldestBelow values allowed (way + 1) found
passed values allowed way None not none =
    λ other below. one_of (λ w. is_allowed allowed w ≡ true → ⊥) way other below (λ less. none other less)
    (λ bit. false≢true (not ∙ bit))
passed values allowed way (Some first) not oldest = record {
  in_range = (let within = oldest.in_range in omega arith);
  bit = oldest.bit;
  greatest = λ other below. one_of (λ w. is_allowed allowed w ≡ true → get_or values w 0 ≤ get_or values first 0) way other below
      (λ less. oldest.greatest other less) (λ bit. absurd (false≢true (not ∙ bit)));
  least = oldest.least;
}

-- the way before stays, where it is as old
pub stays : (values : List ℕ) (allowed way first : ℕ) → get_or values way 0 ≤ get_or values first 0
    → IsOldest values allowed way first → IsOldest values allowed (way + 1) first
stays values allowed way first older oldest = record {
  in_range = (let within = oldest.in_range in omega arith);
  bit = oldest.bit;
  greatest = λ other below. one_of (λ w. is_allowed allowed w ≡ true → get_or values w 0 ≤ get_or values first 0) way other below
      (λ less. oldest.greatest other less) (λ bit. older);
  least = oldest.least;
}

-- the next way is older
pub gives_way : (values : List ℕ) (allowed way first : ℕ) → get_or values first 0 < get_or values way 0
    → is_allowed allowed way ≡ true → IsOldest values allowed way first → IsOldest values allowed (way + 1) way
gives_way values allowed way first older bit oldest = record {
  in_range = omega arith;
  bit = bit;
  greatest = λ other below. one_of (λ w. is_allowed allowed w ≡ true → get_or values w 0 ≤ get_or values way 0) way other below
      (λ less is. let most = oldest.greatest other less is in omega arith) (λ is. omega arith);
  least = λ other below is. let most = oldest.greatest other below is in omega arith;
}

-- the next way is the first that is allowed
pub is_first : (values : List ℕ) (allowed way : ℕ) → is_allowed allowed way ≡ true
    → IsOldestBelow values allowed way None → IsOldest values allowed (way + 1) way
is_first values allowed way bit none = record {
  in_range = omega arith;
  bit = bit;
  greatest = λ other below. one_of (λ w. is_allowed allowed w ≡ true → get_or values w 0 ≤ get_or values way 0) way other below
      (λ less is. absurd (none other less is)) (λ is. omega arith);
  least = λ other below is. absurd (none other below is);
}
