-- What a reader has read of a text, and what one more read does.
use Rattle.std.specs.Prelude.{ℕ, ◌≡◌, Bool, List, [], ◌∷◌, ◌++◌, Some, true}
use Rattle.std.specs.Bool.{MatchBool}
use Rattle.std.specs.Borrow.{Bor}
use Rattle.csv.specs.Reading.{Reached, Ready, default_config, is_flexible, reader_config, reader_trim, source_of, strip_bom}
use Rattle.csv.specs.declared.parser.State.TheVariants as st
use Rattle.csv.specs.declared.reader.Reader.{Reader}
use Rattle.csv.specs.declared.reader.Trim.TheVariants as trims
use Rattle.ff_trace.specs.Trace.{HasRecords}

-- the settings of a trace's reader: the fields as they stand, records of any length, and no header
-- that the reader takes for itself
pub record IsSetForTrace (reader : Reader (Bor (List ℕ))) : Type 0 where
  pub trim : reader_trim reader ≡ trims.None
  pub ready : Ready reader
  pub config : reader_config reader ≡ default_config
  pub flexible : is_flexible reader ≡ true

-- a reader of a text has read these records of it, and the rest is left
pub record HasRead (bytes : List ℕ) (records : List (List (List ℕ)))
    (reader : Reader (Bor (List ℕ))) : Type 0 where
  pub settings : IsSetForTrace reader
  pub rest : List ℕ
  pub source : source_of (λ (s : Bor (List ℕ)). Some s.now) reader ≡ Some rest
  pub reached : Reached default_config st.StartRecord (strip_bom bytes) records reader.state rest

-- a reader of some text has read no record of it
abbrev pub HasReadNothing : Reader (Bor (List ℕ)) → Type 0
HasReadNothing reader = (bytes : List ℕ) × HasRead bytes [] reader

-- this holds of the text of which a reader has read no record
abbrev pub IsOfText : Reader (Bor (List ℕ)) → (List ℕ → Type 0) → Type 0
IsOfText reader fact = (bytes : List ℕ) → HasRead bytes [] reader → fact bytes

-- one more read of a reader gave a record of these fields, or found that the text has no more
abbrev pub ReadsOne : Reader (Bor (List ℕ)) → Reader (Bor (List ℕ)) → Bool → List (List ℕ) → Type 0
ReadsOne old new found fields =
    (bytes : List ℕ) (records : List (List (List ℕ))) → HasRead bytes records old
    → MatchBool found (HasRead bytes (records ++ fields ∷ []) new) (HasRecords bytes records)
