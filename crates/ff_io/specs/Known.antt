-- What a failed write leaves of the bytes that a sink holds, where those are known.
use Rattle.std.specs.Prelude.{ℕ, List, Option, ◌++◌, ◌≡◌}
use Rattle.std.specs.Io.KnownBytes.{Appends}

-- known bytes grow by a prefix of the piece
abbrev pub AppendsPrefix : Option (List ℕ) → Option (List ℕ) → List ℕ → Type 0
AppendsPrefix old new piece =
    (prefix rest : List ℕ) × (piece ≡ prefix ++ rest) × Appends old new prefix
