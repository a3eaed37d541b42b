-- The room for one more page, as a device counts it.
use Rattle.std.proofs.Common.{◌≡◌, ◌≢◌, ◌<◌, ◌≤◌, ◌+◌, ℕ, zero, suc, Bool, true, List, length, set, take, Option, None, Some, inl, inr, refl, sym, ap, ◌∙◌, arith, length-set, get_or-set_same, get_or-set_other}
use Rattle.std.proofs.Math.ListN.{get_or}
use Rattle.std.proofs.lemmas.Bool.{cases_Bool, cases_eq, eq-eqb, ne_eqb}
use Rattle.std.proofs.lemmas.List.{take_all}
use Rattle.std.proofs.lemmas.List.Sums.{count_by_more_no, count_by_more_yes}
use Rattle.std.specs.Prelude.{count_by, if◌then◌else◌, is_some}
use Rattle.ff_base.specs.declared.numbers.PageNo.{PageNo}
use Rattle.ff_lines.specs.PageSets.{count_below, with_page}
use Rattle.ff_map.specs.declared.places.Mapping.{Mapping}
use Rattle.ff_store.proofs.Settling.{mapped_count_with}
use Rattle.ff_store.specs.PageStore.{PageStoreView}
use Rattle.ff_store.specs.Pages.{mapped_with, page_capacity}
use Rattle.ff_device.specs.StoreState.{bytes_at, is_stored, seen_of}
use Rattle.ff_device.proofs.SeenPages.{length-pages, stored_at}

-- the members of a list that pass a test, counted as a set of their numbers
counted_first : {X : Type 0} (p : X → Bool) (xs : List X) (d : X) (members : ℕ → Bool) (n : ℕ) → n ≤ length xs
    → ((k : ℕ) → k < length xs → members k ≡ p (get_or xs k d)) → count_below members n ≡ count_by p (take n xs)
counted_first p xs d members zero within same = refl
counted_first p xs d members (suc n) within same =
    let before = counted_first p xs d members n (omega arith) same in
    let here = same n (omega arith) in
    let one_more : n + 1 ≡ suc n = omega arith in
    let next = ap (λ (k : ℕ). count_by p (take k xs)) one_more in
    elim (cases_Bool (p (get_or xs n d))) [
      | inl passes ↦
          (let one : ◌≡◌ {A = ℕ} (if members n then 1 else 0) 1 = rw (here, passes) refl in
          let more = count_by_more_yes p xs n d (omega arith) passes in
          omega arith)
      | inr other ↦
          (let none : ◌≡◌ {A = ℕ} (if members n then 1 else 0) 0 = rw (here, other) refl in
          let more = count_by_more_no p xs n d (omega arith) other in
          omega arith)
    ]

some_bytes : (s : PageStoreView) (m : Option Mapping) → is_some (bytes_at s.world.flash.cells m) ≡ is_some m
some_bytes s None = refl
some_bytes s (Some m) = refl

with_same : (page : ℕ) (found : ℕ → Bool) → with_page page found page ≡ true
with_same page found = rw (eq-eqb page page refl) refl

with_other : (page k : ℕ) (found : ℕ → Bool) → k ≢ page → with_page page found k ≡ found k
with_other page k found apart = rw (ne_eqb k page apart) refl

-- the room that a device knows of is room in the store
pub has_room : (s : PageStoreView) (page : PageNo) → page.0 < length (seen_of s).pages
    → count_below (with_page page.0 (is_stored (seen_of s))) (length (seen_of s).pages) ≤ (seen_of s).capacity
    → mapped_with s.world.places page ≤ page_capacity s.world
has_room s page within room =
    let pages = s.world.places.pages in
    let m : Mapping = record { at = record { 0 = 0 }; version = 0 } in
    let mapped : List (Option Mapping) = set pages page.0 (Some m) in
    let size : length mapped ≡ length pages = length-set pages page.0 (Some m) in
    let seen = length-pages s in
    let inside : page.0 < length pages = omega arith in
    let one = mapped_count_with s.world.places page m inside in
    let members : (k : ℕ) → k < length mapped → with_page page.0 (is_stored (seen_of s)) k ≡ is_some (get_or mapped k None) =
    λ k below. elim (cases_eq k page.0) [
      | inl same ↦ rw (same, get_or-set_same pages page.0 (Some m) None inside) (with_same page.0 (is_stored (seen_of s)))
      | inr apart ↦
          (with_other page.0 k (is_stored (seen_of s)) apart
          ∙ ap (λ (o : Option (List ℕ)). is_some o) (stored_at s k)
          ∙ some_bytes s (get_or pages k None)
          ∙ ap (λ (o : Option Mapping). is_some o) (sym (get_or-set_other pages page.0 k (Some m) None apart)))
    ] in
    let counted = counted_first (λ (o : Option Mapping). is_some o) mapped None (with_page page.0 (is_stored (seen_of s)))
    (length mapped) (omega arith) members in
    let whole : take (length mapped) mapped ≡ mapped = take_all (length mapped) mapped (omega arith) in
    let all : count_by (λ (o : Option Mapping). is_some o) (take (length mapped) mapped) ≡ count_by (λ (o : Option Mapping). is_some o) mapped =
    ap (λ (l : List (Option Mapping)). count_by (λ (o : Option Mapping). is_some o) l) whole in
    let lengths : length mapped ≡ length (seen_of s).pages = size ∙ sym seen in
    let known : count_below (with_page page.0 (is_stored (seen_of s))) (length mapped) ≤ page_capacity s.world = rw lengths room in
    omega arith
