-- A record of four fields, and one of another count.
use Rattle.std.proofs.Common.{◌≡◌, ◌≢◌, ℕ, List, [], ◌∷◌, length, Some, None, false, refl, arith}
use Rattle.csv.specs.Records.{field_at}
use Rattle.csv.proofs.RecordFacts.{field-there}
use Rattle.ff_trace.specs.Fields.{is_header, row_of}

-- four fields are those at the positions from 0 to 3
pub four-fields : (fields : List (List ℕ)) (a b c d : List ℕ) → length fields ≡ 4
    → field_at fields 0 ≡ Some a → field_at fields 1 ≡ Some b → field_at fields 2 ≡ Some c → field_at fields 3 ≡ Some d
    → fields ≡ a ∷ b ∷ c ∷ d ∷ []
unfolding field_at
four-fields [] a b c d size at_a at_b at_c at_d = cc
four-fields (p ∷ []) a b c d size at_a at_b at_c at_d = cc
four-fields (p ∷ q ∷ []) a b c d size at_a at_b at_c at_d = cc
four-fields (p ∷ q ∷ r ∷ []) a b c d size at_a at_b at_c at_d = cc
four-fields (p ∷ q ∷ r ∷ s ∷ []) a b c d size at_a at_b at_c at_d = cc
four-fields (p ∷ q ∷ r ∷ s ∷ t ∷ rest) a b c d size at_a at_b at_c at_d = absurd (omega arith)

-- any other count is no row
pub row_of-other : (fields : List (List ℕ)) → length fields ≢ 4 → row_of fields ≡ None
row_of-other [] other = refl
row_of-other (p ∷ []) other = refl
row_of-other (p ∷ q ∷ []) other = refl
row_of-other (p ∷ q ∷ r ∷ []) other = refl
row_of-other (p ∷ q ∷ r ∷ s ∷ []) other = absurd (other refl)
row_of-other (p ∷ q ∷ r ∷ s ∷ t ∷ rest) other = refl

-- and no header
pub is_header-other : (fields : List (List ℕ)) → length fields ≢ 4 → is_header fields ≡ false
is_header-other [] other = refl
is_header-other (p ∷ []) other = refl
is_header-other (p ∷ q ∷ []) other = refl
is_header-other (p ∷ q ∷ r ∷ []) other = refl
is_header-other (p ∷ q ∷ r ∷ s ∷ []) other = absurd (other refl)
is_header-other (p ∷ q ∷ r ∷ s ∷ t ∷ rest) other = refl

pub ruleset record_fields = (four-fields, row_of-other, is_header-other, field-there)
