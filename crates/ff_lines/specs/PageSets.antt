-- Sets of pages.
use Rattle.std.specs.Prelude.{ℕ, ◌+◌, ◌≡◌, ◌==◌, ◌||◌, Bool, zero, suc, if◌then◌else◌}

-- how many of the pages below a number are in the set
abbrev pub count_below : (ℕ → Bool) → ℕ → ℕ
count_below set zero = 0
count_below set (suc n) = count_below set n + (if set n then 1 else 0)

-- the set with one more page
abbrev pub with_page : ℕ → (ℕ → Bool) → ℕ → Bool
with_page page set q = (q == page) || set q

-- two sets have the same pages
abbrev pub SameSet : (ℕ → Bool) → (ℕ → Bool) → Type 0
SameSet old new = (page : ℕ) → new page ≡ old page
