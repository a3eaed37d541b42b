-- The pages of a plain device after one of them was changed.
use Rattle.std.proofs.Common.{◌≡◌, ◌<◌, inl, inr, ℕ, ◌==◌, Bool, List, length, set, refl, get_or-set_same, get_or-set_other}
use Rattle.std.proofs.Math.ListN.{replicate}
use Rattle.std.specs.Prelude.{if◌then◌else◌}
use Rattle.std.proofs.lemmas.Bool.{cases_eq, cases_lt, eq-eqb, ne_eqb}
use Rattle.std.proofs.lemmas.List.{get_or-replicate, get_or_past, length-replicate}
use Rattle.ff_plain.specs.Plain.{fresh_page, page_at}
use Rattle.ff_plain.specs.declared.plain.PlainPage.{PlainPage}

-- a page after one was changed
pub page_at-set : (pages : List PlainPage) (k q : ℕ) (page : PlainPage) → k < length pages
    → page_at (set pages k page) q ≡ (if q == k then page else page_at pages q)
page_at-set pages k q page within = elim (cases_eq q k) [
  | inl same ↦ rw (eq-eqb q k same, same) (get_or-set_same pages k page fresh_page within)
  | inr apart ↦ rw (ne_eqb q k apart) (get_or-set_other pages k q page fresh_page apart)
]

-- what the changed page has in common with the page before
pub same_after : (f : PlainPage → Bool) (pages : List PlainPage) (k : ℕ) (page : PlainPage) → k < length pages
    → f page ≡ f (page_at pages k) → (q : ℕ) → f (page_at (set pages k page) q) ≡ f (page_at pages q)
same_after f pages k page within same q = elim (cases_eq q k) [
  | inl here ↦ rw (here, get_or-set_same pages k page fresh_page within) same
  | inr apart ↦ rw (get_or-set_other pages k q page fresh_page apart) refl
]

-- what holds of the changed page, and of every page before, holds of every page
pub each_after : (P : PlainPage → Type 0) (pages : List PlainPage) (k : ℕ) (page : PlainPage) → k < length pages → P page
    → ((q : ℕ) → P (page_at pages q)) → (q : ℕ) → P (page_at (set pages k page) q)
each_after P pages k page within here every q = elim (cases_eq q k) [
  | inl same ↦ rw (same, get_or-set_same pages k page fresh_page within) here
  | inr apart ↦ rw (get_or-set_other pages k q page fresh_page apart) (every q)
]

-- a page of a new device
pub page_at-fresh : (count q : ℕ) → page_at (replicate count fresh_page) q ≡ fresh_page
page_at-fresh count q = elim (cases_lt q count) [
  | inl within ↦ get_or-replicate count q fresh_page fresh_page within
  | inr past ↦ get_or_past (replicate count fresh_page) q fresh_page (rw (length-replicate count fresh_page) past)
]
