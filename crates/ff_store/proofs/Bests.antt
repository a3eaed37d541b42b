-- The best version of a page: a cell holds it, and no cell holds a newer one.
use Rattle.std.proofs.Common.{◌≡◌, ◌≤◌, ℕ, zero, suc, true, cond, eqb, ltb, List, [], ◌∷◌, Option, None, Some, inl, inr, refl, sym, ap, subst, ◌∙◌, arith}
use Rattle.std.proofs.lemmas.Bool.{cases_Bool, eq-eqb, eqb-true, ltb-false, ltb-true}
use Rattle.std.proofs.lemmas.Option.{none-some, same_Some}
use Rattle.ff_base.specs.declared.numbers.PageNo.{PageNo}
use Rattle.ff_flash.specs.Cells.{Cell, cell_at, closed, erased, sealed, spoiled}
use Rattle.ff_gc.proofs.PageCopies.{same_page}
use Rattle.ff_store.specs.Best.{Version, best, newer, sealed_as}

-- what a best version is: that of a cell, and no cell's is newer
pub record IsNewest (cells : List Cell) (page : PageNo) (v : Version) : Type 0 where
  pub at : ℕ
  pub is : sealed_as page (cell_at cells at) ≡ Some v
  pub newest : (a : ℕ) (w : Version) → sealed_as page (cell_at cells a) ≡ Some w → w.number ≤ v.number

abbrev pub IsBest : List Cell → PageNo → Option Version → Type 0
IsBest cells page None = (a : ℕ) → sealed_as page (cell_at cells a) ≡ None
IsBest cells page (Some v) = IsNewest cells page v

none_more : (cell : Cell) (later : List Cell) (page : PageNo) → sealed_as page cell ≡ None → IsBest later page None
    → (a : ℕ) → sealed_as page (cell_at (cell ∷ later) a) ≡ None
none_more cell later page is rest zero = is
none_more cell later page is rest (suc a) = rest a

-- no cell is newer, where the first isn't
newest_more : (cell : Cell) (later : List Cell) (page : PageNo) (most : ℕ)
    → ((w : Version) → sealed_as page cell ≡ Some w → w.number ≤ most)
    → ((a : ℕ) (w : Version) → sealed_as page (cell_at later a) ≡ Some w → w.number ≤ most)
    → (a : ℕ) (w : Version) → sealed_as page (cell_at (cell ∷ later) a) ≡ Some w → w.number ≤ most
newest_more cell later page most first rest zero w there = first w there
newest_more cell later page most first rest (suc a) w there = rest a w there

first_at_most : (page : PageNo) (cell : Cell) (v : Version) (most : ℕ) → sealed_as page cell ≡ Some v → v.number ≤ most
    → (w : Version) → sealed_as page cell ≡ Some w → w.number ≤ most
first_at_most page cell v most is below w there =
    let n = ap (λ (x : Version). x.number) (same_Some v w (sym is ∙ there)) in omega arith

best_more : (cell : Cell) (later : List Cell) (page : PageNo) (first rest : Option Version) → sealed_as page cell ≡ first
    → IsBest later page rest → IsBest (cell ∷ later) page (newer first rest)
best_more cell later page None None is b = none_more cell later page is b
best_more cell later page None (Some v) is b = record {
  at = suc b.at;
  is = b.is;
  newest = newest_more cell later page v.number (λ w there. absurd (none-some w (sym is ∙ there))) b.newest;
}
best_more cell later page (Some v) None is b = record {
  at = 0;
  is = is;
  newest = newest_more cell later page v.number (first_at_most page cell v v.number is (omega arith))
      (λ a w there. absurd (none-some w (sym (b a) ∙ there)));
}
best_more cell later page (Some v) (Some u) is b = elim (cases_Bool (ltb v.number u.number)) [
  | inl less ↦
      let below = ltb-true v.number u.number less in
      let chosen : newer (Some v) (Some u) ≡ Some u = rw less refl in
      subst (λ o. IsBest (cell ∷ later) page o) (sym chosen) (record {
        at = suc b.at;
        is = b.is;
        newest = newest_more cell later page u.number (first_at_most page cell v u.number is (omega arith)) b.newest;
      })
  | inr more ↦
      let above = ltb-false v.number u.number more in
      let chosen : newer (Some v) (Some u) ≡ Some v = rw more refl in
      subst (λ o. IsBest (cell ∷ later) page o) (sym chosen) (record {
        at = 0;
        is = is;
        newest = newest_more cell later page v.number (first_at_most page cell v v.number is (omega arith))
            (λ a w there. (let n = b.newest a w there in omega arith));
      })
]

pub best_is : (cells : List Cell) (page : PageNo) → IsBest cells page (best cells page)
best_is [] page = λ a. refl
best_is (cell ∷ later) page =
    best_more cell later page (sealed_as page cell) (best later page) refl (best_is later page)

-- what a cell holds sealed of a page
pub sealed_found : (page : PageNo) (c : Cell) (v : Version) → sealed_as page c ≡ Some v
    → c ≡ sealed v.bytes (record { page = page; version = v.number })
sealed_found page erased v is = absurd (none-some v is)
sealed_found page spoiled v is = absurd (none-some v is)
sealed_found page (closed bytes spare) v is = absurd (none-some v is)
sealed_found page (sealed bytes spare) v is = elim (cases_Bool (eqb spare.page.0 page.0)) [
  | inl hit ↦
      let own : Version = record { number = spare.version; bytes = bytes } in
      let there : Some own ≡ Some v = rw hit at is in
      let same : own ≡ v = same_Some own v there in
      let pages : spare.page ≡ page = same_page spare.page page (eqb-true spare.page.0 page.0 hit) in
      ap (λ q. sealed bytes (record { page = q; version = spare.version })) pages
      ∙ ap (λ (x : Version). sealed x.bytes (record { page = page; version = x.number })) same
  | inr miss ↦ (let there : None ≡ Some v = rw miss at is in absurd (none-some v there))
]

pub sealed_holds : (page : PageNo) (c : Cell) (bytes : List ℕ) (version : ℕ)
    → c ≡ sealed bytes (record { page = page; version = version })
    → sealed_as page c ≡ Some (record { number = version; bytes = bytes })
sealed_holds page c bytes version is =
    let hit : eqb page.0 page.0 ≡ true = eq-eqb page.0 page.0 refl in
    let own : Version = record { number = version; bytes = bytes } in
    let other : Option Version = None in
    ap (λ x. sealed_as page x) is ∙ ap (λ b. cond b (Some own) other) hit
