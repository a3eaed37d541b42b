-- Which command was entered.
use Rattle.std.proofs.Common.{◌≡◌, ◌∙◌, ◌<◌, ◌^◌, ℕ, List, Option, Some, None, Result, Ok, Err, codes, get_or, refl, ap, subst, arith}
use Rattle.std.specs.Prelude.{MatchOption}
use Rattle.std.specs.Str.Parse.{IsNumeral, ParsesUnsigned, digits_value, without_leading_plus}
use Rattle.clap.specs.Words.{ReadsOne, Row, Text, one_of}
use Rattle.ff_words.specs.Words.{HasNoNumber, HasNumber, IsNoCommand}
use Rattle.ff_words.specs.declared.asked.Command.TheVariants.{Schedule, Threads, Load}

-- what a text reads as
pub read-number : (E : Type 0) (G : List ℕ → Result ℕ E → Type 0) (given : Option Text) (r : Option ℕ)
    → ((u : List ℕ) (x : Result ℕ E) → G u x → ParsesUnsigned 32 10 u x)
    → (given ≡ None → r ≡ None) → ((t : List ℕ) → given ≡ Some t → ReadsOne G t r)
    → MatchOption r (HasNoNumber given) (HasNumber given)
read-number E G None None only none value = λ number has. let bad : None ≡ Some has.text = has.is_given in cc
read-number E G None (Some v) only none value = let bad : Some v ≡ None = none refl in cc
read-number E G (Some t) (Some v) only none value =
    let parsed = only t (Ok v) (value t refl) in
    record { text = t; is_given = refl; is_number = record { numeral = parsed.0.0; value = parsed.1; fits = rw parsed.1 parsed.0.1 } }
read-number E G (Some t) None only none value = λ number has.
    let read = value t refl in
    let refused = only t (Err read.0) read.1 in
    let same : has.text ≡ t = let e : Some t ≡ Some has.text = has.is_given in cc in
    let numeral : IsNumeral 10 (without_leading_plus t) = subst (λ (u : Text). IsNumeral 10 (without_leading_plus u)) same has.is_number.numeral in
    let is : number ≡ digits_value 10 (without_leading_plus t) =
    has.is_number.value ∙ ap (λ (u : Text). digits_value 10 (without_leading_plus u)) same in
    refused (numeral, subst (λ (n : ℕ). n < 2 ^ 32) is has.is_number.fits)

differs : (a b : Text) → a ≡ b → get_or a 0 0 ≡ get_or b 0 0
differs a b e = ap (λ (t : Text). get_or t 0 0) e

same-name : (a b : Text) → Some a ≡ Some b → a ≡ b
same-name a b e = cc

-- no command has another name
pub none-named : (name : Text) (rows : List Row) → (name ≡ codes "schedule" → ⊥) → (name ≡ codes "threads" → ⊥)
    → (name ≡ codes "load" → ⊥) → IsNoCommand (Some (name, rows))
none-named name rows a b c Schedule e = a (same-name name _ e)
none-named name rows a b c Threads e = b (same-name name _ e)
none-named name rows a b c (Load n) e = c (same-name name _ e.0)

-- `load` without a number is no command
pub none-numbered : (rows : List Row) → HasNoNumber (one_of (codes "N") rows) → IsNoCommand (Some (codes "load", rows))
none-numbered rows none Schedule e = absurd (omega (arith, differs (codes "load") (codes "schedule") (same-name (codes "load") (codes "schedule") e)))
none-numbered rows none Threads e = absurd (omega (arith, differs (codes "load") (codes "threads") (same-name (codes "load") (codes "threads") e)))
none-numbered rows none (Load n) e = none n e.1

-- nothing was entered
pub none-entered : IsNoCommand None
none-entered Schedule e = cc
none-entered Threads e = cc
none-entered (Load n) e = let bad = e.0 in cc

pub ruleset commands = (none-named, none-numbered, none-entered)
