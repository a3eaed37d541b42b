-- The oldest allowed way, after it is raised to the greatest value, gives way.
use Rattle.std.proofs.Common.{◌≡◌, ◌<◌, ◌≤◌, ℕ, ◌+◌, ◌-◌, Bool, true, false, List, length, get_or, refl, ap, ◌∙◌, arith}
use Rattle.ff_rrip.specs.Oldest.{IsOldest}
use Rattle.ff_rrip.specs.Ways.{IsAllowedWay, IsWaysSound, IsVictimWay, is_allowed, raised, raised_value}
use Rattle.ff_rrip.proofs.Raised.{length-raised, get_or-raised}

-- the value of an allowed way
raised_allowed : (allowed by way value : ℕ) → is_allowed allowed way ≡ true
    → raised_value allowed by way value ≡ value + by
raised_allowed allowed by way value bit = rw bit refl

-- the value of an allowed way after raising
allowed_value : (allowed by : ℕ) (values : List ℕ) (way : ℕ)
    → IsAllowedWay (length values) allowed way
    → get_or (raised allowed by values) way 0 ≡ get_or values way 0 + by
allowed_value allowed by values way among =
    get_or-raised allowed by values way among.in_range ∙ raised_allowed allowed by way (get_or values way 0) among.bit

-- the oldest way is the victim once the allowed ways are raised by what it lacks
pub oldest_victim : (allowed : ℕ) (values : List ℕ) (way by : ℕ) → IsWaysSound values
    → IsOldest values allowed (length values) way
    → by ≡ 3 - get_or values way 0 → IsVictimWay allowed values (raised allowed by values) way
oldest_victim allowed values way by kept oldest by_is =
    let among : IsAllowedWay (length values) allowed way = record { in_range = oldest.in_range; bit = oldest.bit } in
    let small = kept.small way oldest.in_range in
    let value = allowed_value allowed by values way among in
    record {
      raises = (by, refl);
      among = among;
      distant = omega arith;
      bounded = λ other other_among.
          let other_value = allowed_value allowed by values other other_among in
          let less = oldest.greatest other other_among.in_range other_among.bit in
          omega arith;
      least = λ other below other_among same.
          let other_value = allowed_value allowed by values other other_among in
          let less = oldest.least other below other_among.bit in
          omega arith;
    }

-- a value after raising is at most 3, if it is so where its way is allowed
small_after : (allowed by way value new : ℕ) (bit : Bool) → is_allowed allowed way ≡ bit
    → new ≡ raised_value allowed by way value → value ≤ 3
    → (bit ≡ true → new ≤ 3) → new ≤ 3
small_after allowed by way value new true is new_is small bounded = bounded refl
small_after allowed by way value new false is new_is small bounded =
    let same : raised_value allowed by way value ≡ value = rw is refl in
    omega arith

-- the values stay values of two bits
pub kept_after : (allowed : ℕ) (old new : List ℕ) (way : ℕ) → IsWaysSound old
    → IsVictimWay allowed old new way → IsWaysSound new
kept_after allowed old new way kept victim =
    let by : ℕ = victim.raises.0 in
    let is : new ≡ raised allowed by old = victim.raises.1 in
    let len : length new ≡ length old = ap length is ∙ length-raised allowed by old in
    record {
      few = omega (arith, kept.few);
      small = λ other within.
          let inside : other < length old = omega arith in
          let value : get_or new other 0 ≡ raised_value allowed by other (get_or old other 0) =
          ap (λ (l : List ℕ). get_or l other 0) is ∙ get_or-raised allowed by old other inside in
          small_after allowed by other (get_or old other 0) (get_or new other 0) (is_allowed allowed other) refl value (kept.small other inside)
          (λ bit. victim.bounded other (record { in_range = inside; bit = bit }));
    }
