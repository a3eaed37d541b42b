-- The held pages of an image, counted.
use Rattle.std.proofs.Common.{◌≡◌, ℕ, ◌+◌, ◌<◌, Option, Some, None, List, length, take, Bool, true, false, refl, ap, ◌∙◌, sym}
use Rattle.std.specs.Prelude.{◌↔◌, IsSome, IsTrue, count_by, is_some, slice_get, unwrap_or}
use Rattle.std.proofs.lemmas.List.Sums.{count_by_more_no, count_by_more_yes}
use Rattle.std.proofs.lemmas.Option.{unwrap_or-slice_get}

is_some-no : {X : Type 0} (o : Option X) → (IsSome o → ⊥) → is_some o ≡ false
is_some-no (Some x) h = absurd (h refl)
is_some-no None h = refl

-- a page that is held
pub held-more : {X : Type 0} (pages : List (Option X)) (page : ℕ) (holds : Bool)
    → IsTrue holds ↔ IsSome (unwrap_or (slice_get pages page) None) → page < length pages → holds ≡ true
    → count_by is_some (take (page + 1) pages) ≡ count_by is_some (take page pages) + 1
held-more pages page holds told within is =
    count_by_more_yes is_some pages page None within
    (ap is_some (sym (unwrap_or-slice_get pages page None)) ∙ told.0 is)

-- a page that isn't
pub held-same : {X : Type 0} (pages : List (Option X)) (page : ℕ) (holds : Bool)
    → IsTrue holds ↔ IsSome (unwrap_or (slice_get pages page) None) → page < length pages → holds ≡ false
    → count_by is_some (take (page + 1) pages) ≡ count_by is_some (take page pages)
held-same pages page holds told within is =
    count_by_more_no is_some pages page None within
    (ap is_some (sym (unwrap_or-slice_get pages page None)) ∙ is_some-no _ (λ h. let both : true ≡ false = sym (told.1 h) ∙ is in cc))
