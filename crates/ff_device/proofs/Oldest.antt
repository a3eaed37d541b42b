-- The oldest of the ways that may give way.
use Rattle.std.proofs.Common.{◌≡◌, ◌<◌, ◌≤◌, inl, inr, ℕ, zero, suc, ◌+◌, Bool, true, false, List, [], ◌∷◌, length, get_or, refl, sym, ap, ◌∙◌, arith, Option, Some, None}
use Rattle.std.specs.Option.{is_some}
use Rattle.std.specs.Prelude.{nat_lt, option_map}
use Rattle.std.proofs.lemmas.Bool.{cases_Bool, lt-ltb, le-ltb}
use Rattle.ff_rrip.specs.Ways.{is_allowed, raised, raised_from, raised_value, IsAllowedWay, IsVictimWay, NoneAllowed}
use Rattle.ff_device.specs.Chosen.{chosen, greater, next_way, oldest, Candidate}

-- a candidate is one of the ways that may
pub record IsAmong (may : ℕ → Bool) (values : List ℕ) (c : Candidate) : Type 0 where
  pub within : c.way < length values
  pub passes : may c.way ≡ true
  pub value : c.value ≡ get_or values c.way 0

greater_among : (may : ℕ → Bool) (value : ℕ) (later : List ℕ) (rest : Option Candidate) (c : Candidate)
    → ((d : Candidate) → rest ≡ Some d → IsAmong (λ way. may (suc way)) later d) → may 0 ≡ true → greater value rest ≡ c
    → IsAmong may (value ∷ later) c
greater_among may value later None c more passes is = rw (sym is) (record { within = omega arith; passes = passes; value = refl })
greater_among may value later (Some d) c more passes is = elim (cases_Bool (nat_lt value d.value)) [
  | inl less ↦
      let a = more d refl in
      let one : next_way d ≡ c = rw less at is in
      rw (sym one) (record { within = omega (arith, a.within); passes = a.passes; value = a.value })
  | inr not_less ↦
      let first : Candidate = record { way = 0; value = value } in
      let one : first ≡ c = rw not_less at is in
      rw (sym one) (record { within = omega arith; passes = passes; value = refl })
]

next_among : (may : ℕ → Bool) (value : ℕ) (later : List ℕ) (rest : Option Candidate) (c : Candidate)
    → ((d : Candidate) → rest ≡ Some d → IsAmong (λ way. may (suc way)) later d) → option_map next_way rest ≡ Some c
    → IsAmong may (value ∷ later) c
next_among may value later None c more is = absurd (cc)
next_among may value later (Some d) c more is =
    let a = more d refl in
    let one : next_way d ≡ c = cc in
    rw (sym one) (record { within = omega (arith, a.within); passes = a.passes; value = a.value })

pub oldest_among : (may : ℕ → Bool) (values : List ℕ) (c : Candidate) → oldest may values ≡ Some c → IsAmong may values c
oldest_among may [] c is = absurd (cc)
oldest_among may (value ∷ later) c is =
    let more = λ (d : Candidate) (e : oldest (λ way. may (suc way)) later ≡ Some d). oldest_among (λ way. may (suc way)) later d e in
    elim (cases_Bool (may 0)) [
      | inl passes ↦
          let both : Some (greater value (oldest (λ way. may (suc way)) later)) ≡ Some c = rw passes at is in
          let one : greater value (oldest (λ way. may (suc way)) later) ≡ c = cc in
          greater_among may value later (oldest (λ way. may (suc way)) later) c more passes one
      | inr fails ↦
          let next : option_map next_way (oldest (λ way. may (suc way)) later) ≡ Some c = rw fails at is in
          next_among may value later (oldest (λ way. may (suc way)) later) c more next
    ]

greater_first : (value : ℕ) (rest : Option Candidate) → ((d : Candidate) → rest ≡ Some d → d.value ≤ value)
    → greater value rest ≡ record { way = 0; value = value }
greater_first value None bound = refl
greater_first value (Some d) bound = rw (le-ltb value d.value (bound d refl)) refl

-- the first of the ways that may, with the greatest value of these, is the oldest
pub oldest_found : (may : ℕ → Bool) (values : List ℕ) (k : ℕ) → k < length values → may k ≡ true
    → ((j : ℕ) → j < length values → may j ≡ true → get_or values j 0 ≤ get_or values k 0)
    → ((j : ℕ) → j < k → may j ≡ true → get_or values j 0 < get_or values k 0)
    → oldest may values ≡ Some (record { way = k; value = get_or values k 0 })
oldest_found may [] k within passes greatest least = absurd (omega arith)
oldest_found may (value ∷ later) zero within passes greatest least =
    let first = greater_first value (oldest (λ way. may (suc way)) later) (λ d is.
    let a = oldest_among (λ way. may (suc way)) later d is in
    rw a.value (greatest (suc d.way) (omega (arith, a.within)) a.passes)) in
    rw passes (ap (λ (c : Candidate). Some c) first)
oldest_found may (value ∷ later) (suc k) within passes greatest least =
    let rest = oldest_found (λ way. may (suc way)) later k (omega arith) passes
    (λ j below goes. greatest (suc j) (omega arith) goes) (λ j below goes. least (suc j) (omega arith) goes) in
    elim (cases_Bool (may 0)) [
      | inl first ↦
          let less : nat_lt value (get_or later k 0) ≡ true = lt-ltb value (get_or later k 0) (least 0 (omega arith) first) in
          rw (first, rest, less) refl
      | inr fails ↦ rw (fails, rest) refl
    ]

-- no way may
pub oldest_none : (may : ℕ → Bool) (values : List ℕ) → ((k : ℕ) → k < length values → may k ≡ false) → oldest may values ≡ None
oldest_none may [] none = refl
oldest_none may (value ∷ later) none =
    let rest = oldest_none (λ way. may (suc way)) later (λ k below. none (suc k) (omega arith)) in
    rw (none 0 (omega arith), rest) refl

next_some : (rest : Option Candidate) → is_some rest ≡ true → is_some (option_map (λ c. c.way) (option_map next_way rest)) ≡ true
next_some None is = is
next_some (Some c) is = refl

chosen_some : (rest : Option Candidate) → is_some (option_map (λ c. c.way) rest) ≡ true → is_some rest ≡ true
chosen_some None is = is
chosen_some (Some c) is = refl

-- a way may
pub some_chosen : (may : ℕ → Bool) (values : List ℕ) (k : ℕ) → k < length values → may k ≡ true → is_some (chosen may values) ≡ true
some_chosen may [] k within passes = absurd (omega arith)
some_chosen may (value ∷ later) zero within passes = rw passes refl
some_chosen may (value ∷ later) (suc k) within passes = elim (cases_Bool (may 0)) [
  | inl first ↦ rw first refl
  | inr fails ↦
      let rest = some_chosen (λ way. may (suc way)) later k (omega arith) passes in
      rw fails (next_some (oldest (λ way. may (suc way)) later) (chosen_some (oldest (λ way. may (suc way)) later) rest))
]

-- the same ways may
pub oldest_same : (f h : ℕ → Bool) (values : List ℕ) → ((k : ℕ) → h k ≡ f k) → oldest h values ≡ oldest f values
oldest_same f h [] same = refl
oldest_same f h (value ∷ later) same =
    let rest = oldest_same (λ way. f (suc way)) (λ way. h (suc way)) later (λ k. same (suc k)) in
    rw (same 0, rest) refl

raised_at_from : (way allowed by : ℕ) (values : List ℕ) (j : ℕ) → j < length values
    → get_or (raised_from way allowed by values) j 0 ≡ raised_value allowed by (way + j) (get_or values j 0)
raised_at_from way allowed by [] j within = absurd (omega arith)
raised_at_from way allowed by (value ∷ later) zero within =
    let here : way + 0 ≡ way = omega arith in rw here refl
raised_at_from way allowed by (value ∷ later) (suc j) within =
    let there : way + 1 + j ≡ way + suc j = omega arith in
    raised_at_from (way + 1) allowed by later j (omega arith) ∙ ap (λ (k : ℕ). raised_value allowed by k (get_or later j 0)) there

pub length-raised_from : (way allowed by : ℕ) (values : List ℕ) → length (raised_from way allowed by values) ≡ length values
length-raised_from way allowed by [] = refl
length-raised_from way allowed by (value ∷ later) = ap suc (length-raised_from (way + 1) allowed by later)

-- a value of an allowed way was raised
pub raised_at : (allowed by : ℕ) (values : List ℕ) (j : ℕ) → j < length values → is_allowed allowed j ≡ true
    → get_or (raised allowed by values) j 0 ≡ get_or values j 0 + by
raised_at allowed by values j within bit =
    let start : 0 + j ≡ j = omega arith in
    raised_at_from 0 allowed by values j within ∙ rw (start, bit) refl

-- the way that replacement chose is the oldest with the values after
pub victim_new : (allowed : ℕ) (may : ℕ → Bool) (old new : List ℕ) (way : ℕ)
    → ((k : ℕ) → k < length old → is_allowed allowed k ≡ may k) → IsVictimWay allowed old new way → chosen may new ≡ Some way
victim_new allowed may old new way told v =
    let size : length new ≡ length old = ap length v.raises.1 ∙ length-raised_from 0 allowed v.raises.0 old in
    let inside : way < length new = omega (arith, v.among.in_range) in
    let found = oldest_found may new way inside (sym (told way v.among.in_range) ∙ v.among.bit)
    (λ j below goes.
    let bound = v.bounded j (record { in_range = omega arith; bit = told j (omega arith) ∙ goes }) in
    omega (arith, v.distant, bound))
    (λ j below goes.
    let one : IsAllowedWay (length old) allowed j = record { in_range = omega (arith, v.among.in_range); bit = told j (omega (arith, v.among.in_range)) ∙ goes } in
    let bound = v.bounded j one in
    let apart = v.least j below one in
    omega (arith, v.distant, bound, apart)) in
    ap (λ (c : Option Candidate). option_map (λ d. d.way) c) found

-- and with the values before
pub victim_old : (allowed : ℕ) (may : ℕ → Bool) (old new : List ℕ) (way : ℕ)
    → ((k : ℕ) → k < length old → is_allowed allowed k ≡ may k) → IsVictimWay allowed old new way → chosen may old ≡ Some way
victim_old allowed may old new way told v =
    let by : ℕ = v.raises.0 in
    let raise = λ (j : ℕ) (below : j < length old) (bit : is_allowed allowed j ≡ true).
    ap (λ (values : List ℕ). get_or values j 0) v.raises.1 ∙ raised_at allowed by old j below bit in
    let top = raise way v.among.in_range v.among.bit in
    let found = oldest_found may old way v.among.in_range (sym (told way v.among.in_range) ∙ v.among.bit)
    (λ j below goes.
    let bit : is_allowed allowed j ≡ true = told j below ∙ goes in
    let bound = v.bounded j (record { in_range = below; bit = bit }) in
    omega (arith, v.distant, bound, raise j below bit, top))
    (λ j below goes.
    let inside : j < length old = omega (arith, v.among.in_range) in
    let bit : is_allowed allowed j ≡ true = told j inside ∙ goes in
    let one : IsAllowedWay (length old) allowed j = record { in_range = inside; bit = bit } in
    let bound = v.bounded j one in
    let apart = v.least j below one in
    omega (arith, v.distant, bound, apart, raise j inside bit, top)) in
    ap (λ (c : Option Candidate). option_map (λ d. d.way) c) found

allowed_no : (bit may : Bool) → bit ≡ may → (bit ≡ true → ⊥) → may ≡ false
allowed_no true may same never = absurd (never refl)
allowed_no false may same never = sym same

pub victim_none : (allowed : ℕ) (may : ℕ → Bool) (values : List ℕ) → ((k : ℕ) → k < length values → is_allowed allowed k ≡ may k)
    → NoneAllowed values allowed → chosen may values ≡ None
victim_none allowed may values told none =
    ap (λ (c : Option Candidate). option_map (λ d. d.way) c)
    (oldest_none may values (λ k below. allowed_no (is_allowed allowed k) (may k) (told k below) (λ bit. none k (record { in_range = below; bit = bit }))))
