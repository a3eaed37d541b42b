-- Values of which those of the allowed ways are raised, way by way.
use Rattle.std.proofs.Common.{◌≡◌, ◌<◌, ℕ, ◌+◌, zero, suc, List, [], ◌∷◌, length, get_or, refl, ap, ◌∙◌, sym, arith}
use Rattle.std.proofs.lemmas.Grind.{same_number_lists}
use Rattle.ff_rrip.specs.Ways.{raised, raised_from, raised_value}

-- raising keeps the number of ways
length-raised_from : (way allowed by : ℕ) (values : List ℕ)
    → length (raised_from way allowed by values) ≡ length values
length-raised_from way allowed by [] = refl
length-raised_from way allowed by (value ∷ later) = ap (λ (n : ℕ). suc n) (length-raised_from (way + 1) allowed by later)

pub length-raised : (allowed by : ℕ) (values : List ℕ)
    → length (raised allowed by values) ≡ length values
length-raised allowed by values = length-raised_from 0 allowed by values

-- each value is raised by itself
get_or-raised_from : (way allowed by : ℕ) (values : List ℕ) (k : ℕ) → k < length values
    → get_or (raised_from way allowed by values) k 0 ≡ raised_value allowed by (way + k) (get_or values k 0)
get_or-raised_from way allowed by [] k within = absurd (omega arith)
get_or-raised_from way allowed by (value ∷ later) zero within =
    let here : way + 0 ≡ way = omega arith in
    ap (λ (w : ℕ). raised_value allowed by w value) (sym here)
get_or-raised_from way allowed by (value ∷ later) (suc k) within =
    let there : way + 1 + k ≡ way + suc k = omega arith in
    get_or-raised_from (way + 1) allowed by later k (omega arith) ∙ ap (λ (w : ℕ). raised_value allowed by w (get_or later k 0)) there

pub get_or-raised : (allowed by : ℕ) (values : List ℕ) (k : ℕ) → k < length values
    → get_or (raised allowed by values) k 0 ≡ raised_value allowed by k (get_or values k 0)
get_or-raised allowed by values k within =
    let here : 0 + k ≡ k = omega arith in
    get_or-raised_from 0 allowed by values k within ∙ ap (λ (w : ℕ). raised_value allowed by w (get_or values k 0)) here

-- values that are each raised by themselves
pub raised_is : (allowed by : ℕ) (old new : List ℕ) → length new ≡ length old
    → ((k : ℕ) → k < length old → get_or new k 0 ≡ raised_value allowed by k (get_or old k 0))
    → new ≡ raised allowed by old
raised_is allowed by old new len each =
    same_number_lists new (raised allowed by old) (len ∙ sym (length-raised allowed by old))
    (λ k within. let inside : k < length old = omega arith in each k inside ∙ sym (get_or-raised allowed by old k inside))
