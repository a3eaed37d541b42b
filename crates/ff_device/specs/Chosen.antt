-- The way that gives way, as a function of the values and of which ways may.
use Rattle.std.specs.Prelude.{ℕ, suc, Bool, List, [], ◌∷◌, nat_lt, if◌then◌else◌, Option, None, Some, option_map}

-- a way with its value
pub record Candidate : Type 0 where
  pub way : ℕ
  pub value : ℕ

-- a way of the later ones, counted from the first on
abbrev pub next_way : Candidate → Candidate
next_way later = record { way = suc later.way; value = later.value }

-- the first way, unless a later one has a greater value
abbrev pub greater : ℕ → Option Candidate → Candidate
greater value None = record { way = 0; value = value }
greater value (Some later) =
    if nat_lt value later.value then next_way later else record { way = 0; value = value }

-- of the ways that may give way, the first of those with the greatest value
abbrev pub oldest : (ℕ → Bool) → List ℕ → Option Candidate
oldest may [] = None
oldest may (value ∷ later) =
    let rest = oldest (λ way. may (suc way)) later in
    if may 0 then Some (greater value rest) else option_map next_way rest

-- the way that gives way
abbrev pub chosen : (ℕ → Bool) → List ℕ → Option ℕ
chosen may values = option_map (λ c. c.way) (oldest may values)
