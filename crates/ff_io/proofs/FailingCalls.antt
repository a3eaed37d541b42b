-- Whether a call is one of those that fail.
use Rattle.std.proofs.Common.{◌≡◌, ℕ, Bool, eqb, List, Decides}
use Rattle.std.specs.List.{Contains, IsAnyAnswer}
use Rattle.std.proofs.lemmas.Bool.Decides.{Decides-eqb}
use Rattle.std.proofs.lemmas.List.Elements.{Contains-from_at, at_from_Contains, contains_decides}
use Rattle.ff_io.specs.Memory.{next_count}

-- what a look into the list of them told of this call
pub is_failing : (items fail : List ℕ) (call calls : ℕ) (r : Bool) → items ≡ fail → call ≡ next_count calls
    → IsAnyAnswer (λ y t. eqb y call ≡ t) items r → Decides r (Contains fail (next_count calls))
is_failing items fail call calls r same counted answer =
    let d = contains_decides eqb Decides-eqb items call r answer in
    let at_call : Decides r (Contains items call) =
    (λ is. Contains-from_at items call (d.0 is), λ within. d.1 (at_from_Contains items call within)) in
    rw (same, counted) at at_call
