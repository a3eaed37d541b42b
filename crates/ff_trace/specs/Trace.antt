-- Which rows the records of a trace are, and which record is the first that is bad.
use Rattle.std.specs.Prelude.{ℕ, ◌+◌, ◌≡◌, ◌⊎◌, true, false, if◌then◌else◌, List, [], ◌∷◌, ◌++◌, length, map, ⊤, Option, None, Some}
use Rattle.csv.specs.Reading.{AreRecords, Reached, default_config, strip_bom}
use Rattle.csv.specs.declared.parser.State.{State}
use Rattle.csv.specs.declared.parser.State.TheVariants as st
use Rattle.ff_trace.specs.Fields.{is_header, row_of}
use Rattle.ff_trace.specs.Tally.{FitAfter, empty_tally, fits, tally_of}
use Rattle.ff_trace.specs.declared.row.Row.{Row}
use Rattle.ff_trace.specs.declared.tally.Limits.{Limits}
use Rattle.ff_trace.specs.declared.tally.Tally.{Tally}
use Rattle.ff_trace.specs.declared.trace_rows.BadTrace.{BadTrace}
use Rattle.ff_trace.specs.declared.trace_rows.BadTrace.TheVariants as bad

-- these are all the records of a text, a byte-order mark at its start left out
abbrev pub HasRecords : List ℕ → List (List (List ℕ)) → Type 0
HasRecords bytes records = AreRecords default_config st.StartRecord (strip_bom bytes) records

-- a text begins with these records
abbrev pub BeginsWith : List ℕ → List (List (List ℕ)) → Type 0
BeginsWith bytes records =
    (state : State) × (rest : List ℕ)
    × Reached default_config st.StartRecord (strip_bom bytes) records state rest

-- these records are rows, one a record, and each of them fits behind those before it
pub record AreRows (limits : Limits) (records : List (List (List ℕ))) (rows : List Row) : Type 0 where
  pub each : map row_of records ≡ map Some rows
  pub fit : FitAfter limits empty_tally rows

-- the trace is a header, and then these rows, one a record
pub record IsTrace (limits : Limits) (bytes : List ℕ) (rows : List Row) : Type 0 where
  pub header : List (List ℕ)
  pub records : List (List (List ℕ))
  pub whole : HasRecords bytes (header ∷ records)
  pub named : is_header header ≡ true
  pub are_rows : AreRows limits records rows

-- a row, where it fits behind rows of which there are so many
abbrev pub if_fits : Limits → Tally → Option Row → Option Row
if_fits limits tally None = None
if_fits limits tally (Some row) = if fits limits tally row then Some row else None

-- the record of this number is the first that is bad: those between the header and it are rows, and it is none, or none
-- that fits behind them. Numbers count records, and not lines of the text; the header is record 0
pub record IsFirstBad (limits : Limits) (bytes : List ℕ) (number : ℕ) : Type 0 where
  pub header : List (List ℕ)
  pub records : List (List (List ℕ))
  pub rows : List Row
  pub fields : List (List ℕ)
  pub begins : BeginsWith bytes (header ∷ (records ++ fields ∷ []))
  pub named : is_header header ≡ true
  pub before : AreRows limits records rows
  pub fails : if_fits limits (tally_of rows) (row_of fields) ≡ None
  pub position : length rows + 1 ≡ number

-- the first record is no header
pub record IsBadHeader (bytes : List ℕ) (number : ℕ) : Type 0 where
  pub fields : List (List ℕ)
  pub begins : BeginsWith bytes (fields ∷ [])
  pub fails : is_header fields ≡ false
  pub position : number ≡ 0

-- there is no record, and so no header
pub record HasNoHeader (bytes : List ℕ) (number : ℕ) : Type 0 where
  pub none : HasRecords bytes []
  pub position : number ≡ 0

-- why a trace is refused
abbrev pub IsCauseOf : Limits → List ℕ → BadTrace → Type 0
IsCauseOf limits bytes bad.NoMemory = ⊤
IsCauseOf limits bytes (bad.Row number) =
    IsFirstBad limits bytes number ⊎ IsBadHeader bytes number ⊎ HasNoHeader bytes number
