-- The counters of accesses, and which pages have one that isn't zero.
use Rattle.std.specs.Prelude.{ℕ, ◌≡◌, ◌+◌, ◌/◌, ◌==◌, false, Bool, List, [], ◌∷◌, map, min, nat_lt, slice_index}
use Rattle.std.specs.List.{list_any}
use Rattle.ff_base.specs.declared.numbers.PageNo.{PageNo}

-- there is room for so many counters that aren't zero
abbrev pub most_counted : ℕ
most_counted = 128

-- a counter after one more access
abbrev pub raised_count : ℕ → ℕ
raised_count count = min (count + 1) 255

-- every counter halved, rounded down
abbrev pub halved : List ℕ → List ℕ
halved counters = map (λ count. count / 2) counters

-- the page is among these
abbrev pub is_among : List PageNo → ℕ → Bool
is_among pages page = list_any (λ other. other.0 == page) pages

-- no page stands among these twice
abbrev pub IsEachOnce : List PageNo → Type 0
IsEachOnce [] = Unit {0}
IsEachOnce (page ∷ later) = (is_among later page.0 ≡ false) × IsEachOnce later

-- these are the pages whose counter isn't zero
pub record AreCounted (counters : List ℕ) (pages : List PageNo) : Type 0 where
  pub counted : (page : ℕ) → is_among pages page ≡ nat_lt 0 (slice_index counters page)
  pub each_once : IsEachOnce pages
