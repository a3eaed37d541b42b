-- What was taken of an input, where its bytes are known.
use Rattle.std.proofs.Common.{◌≡◌, ◌≤◌, ℕ, List, [], ◌++◌, length, refl, sym, ◌∙◌, ap, arith}
use Rattle.std.specs.Prelude.{Option, Some, None, IfSome}
use Rattle.std.proofs.lemmas.List.{append-nil}
use Rattle.std.specs.Io.KnownBytes.{Consumes, IsAtEnd}
use Rattle.ff_input.specs.Input.{TakesBytes}
use Rattle.ff_input.specs.Input.{input_limit}

-- the bytes that were taken, by their number
pub takes_from : (a b : Option (List ℕ)) (bytes : List ℕ) (IsSuch : ℕ → Type 0) → Consumes a b bytes → IsSuch (length bytes) → TakesBytes a b IsSuch
takes_from None b bytes IsSuch taken such = tt
takes_from (Some all) None bytes IsSuch taken such = absurd taken
takes_from (Some all) (Some rest) bytes IsSuch taken such = (bytes, rest, taken, refl, such)

-- the bytes that were taken up to the end are the input
pub whole_from : (a b c : Option (List ℕ)) (bytes : List ℕ) → Consumes a b bytes → IsAtEnd b → Consumes b c [] → length bytes ≤ input_limit
    → IfSome a (λ input. (c ≡ Some []) × (length input ≤ input_limit) × (input ≡ bytes))
whole_from None b c bytes taken ends none small = tt
whole_from (Some all) None c bytes taken ends none small = absurd taken
whole_from (Some all) (Some rest) None bytes taken ends none small = absurd none
whole_from (Some all) (Some rest) (Some after) bytes taken ends none small =
    let input : all ≡ bytes = taken ∙ ap (λ (l : List ℕ). bytes ++ l) ends ∙ append-nil bytes in
    let last : after ≡ [] = sym none ∙ ends in
    (ap (λ (l : List ℕ). Some l) last, omega (arith, ap length input), input)
