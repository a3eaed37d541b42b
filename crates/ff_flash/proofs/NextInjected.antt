-- What an injector keeps over an operation.
use Rattle.std.proofs.Common.{◌≡◌, ◌+◌, ℕ, Bool, List, Option, Some, None, sym, ap, ◌∙◌, refl}
use Rattle.std.specs.Prelude.{if◌then◌else◌, is_some}
use Rattle.ff_flash.proofs.Rising.{count_next, cut_listed}
use Rattle.ff_flash.specs.Injector.{IsCutBy, power_after}
use Rattle.ff_flash.specs.Plans.{RisesFrom, is_listed, listed_count, cut_at, cut_numbers}
use Rattle.ff_flash.specs.declared.plan.CutAt.{CutAt}

-- the power after an operation says which cut it was
pub cut_by : (cut : Option CutAt) → IsCutBy (power_after cut) cut
cut_by (Some cut) = refl
cut_by None = tt

-- one more is passed where it is found
pub passed_next : (p n : ℕ) (found : Bool) (xs : List ℕ) → RisesFrom 1 xs → p ≡ listed_count n xs
    → found ≡ is_listed (n + 1) xs → (if found then p + 1 else p) ≡ listed_count (n + 1) xs
passed_next p n found xs rises passed is = rw (passed, is) (sym (count_next n 1 xs rises))

-- the same of the cuts
pub cuts_next : (p n : ℕ) (cut : Option CutAt) (cuts : List CutAt) → RisesFrom 1 (cut_numbers cuts)
    → p ≡ listed_count n (cut_numbers cuts) → cut ≡ cut_at (n + 1) cuts
    → (if is_some cut then p + 1 else p) ≡ listed_count (n + 1) (cut_numbers cuts)
cuts_next p n cut cuts rises passed is =
    passed_next p n (is_some cut) (cut_numbers cuts) rises passed
    (ap (λ (o : Option CutAt). is_some o) is ∙ cut_listed (n + 1) cuts)
