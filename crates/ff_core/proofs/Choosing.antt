-- Whether a slot of the buffer is free, by the least one that is.
use Rattle.std.proofs.Common.{◌≡◌, ℕ, true, false, List, Option, Some, None, subst}
use Rattle.std.specs.Prelude.{MatchOption}
use Rattle.std.specs.Option.{is_some}
use Rattle.ff_plb.specs.Plb.{IsEmpty, IsLeastEmpty, IsNoneEmpty}
use Rattle.ff_plb.specs.declared.slot.Slot.{Slot}

pub none_free : (slots same : List (Option Slot)) (slot : Option ℕ) → slots ≡ same
    → MatchOption slot (IsNoneEmpty slots) (IsLeastEmpty slots) → is_some slot ≡ false → IsNoneEmpty same
none_free slots same None is least none = subst (λ (s : List (Option Slot)). IsNoneEmpty s) is least
none_free slots same (Some slot) is least none = absurd (cc)

pub some_free : (slots same : List (Option Slot)) (slot : Option ℕ) → slots ≡ same
    → MatchOption slot (IsNoneEmpty slots) (IsLeastEmpty slots) → is_some slot ≡ true → IsNoneEmpty same → ⊥
some_free slots same None is least some = absurd (cc)
some_free slots same (Some slot) is least some = λ none. none slot (subst (λ (s : List (Option Slot)). IsEmpty s slot) is least.has)
