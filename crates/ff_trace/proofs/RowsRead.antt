-- A header and rows, as far as a reader has read a text.
use Rattle.std.proofs.Common.{Bor, ◌≡◌, ◌∙◌, ◌+◌, ◌<◌, ℕ, Bool, true, false, List, [], ◌∷◌, ◌++◌, length, Option, None, Some, inl, inr, refl, sym, ap, fold, add-zero, zero-add, arith}
use Rattle.std.proofs.lemmas.Bool.{cases_Bool}
use Rattle.std.proofs.lemmas.Bool.Decides.{nat_tests}
use Rattle.std.proofs.lemmas.List.{map-append}
use Rattle.std.proofs.lemmas.List.Sums.{fold-append}
use Rattle.csv.specs.declared.reader.Reader.{Reader}
use Rattle.ff_trace.specs.Fields.{is_header, row_of}
use Rattle.ff_trace.specs.Reading.{HasRead, ReadsOne}
use Rattle.ff_trace.specs.Tally.{FitAfter, empty_tally, fits, tally_of, with_row}
use Rattle.ff_trace.specs.Trace.{AreRows, HasNoHeader, IsBadHeader, IsFirstBad, IsTrace, if_fits}
use Rattle.ff_trace.specs.declared.row.Row.{Row}
use Rattle.ff_trace.specs.declared.row.Row.TheVariants.{Call, Turns, Power}
use Rattle.ff_model.specs.declared.counts.Kind.TheVariants.{Promote, Evict, Collect, Drain}
use Rattle.ff_trace.specs.declared.tally.Limits.{Limits}
use Rattle.ff_trace.specs.declared.tally.Tally.{Tally}

-- a reader of a text has read a header and then these rows, one a record
pub record HasRows (limits : Limits) (bytes : List ℕ) (rows : List Row) (reader : Reader (Bor (List ℕ))) : Type 0 where
  pub header : List (List ℕ)
  pub records : List (List (List ℕ))
  pub read : HasRead bytes (header ∷ records) reader
  pub named : is_header header ≡ true
  pub are_rows : AreRows limits records rows

-- the count of one row more
pub tally_of-more : (rows : List Row) (row : Row) → tally_of (rows ++ row ∷ []) ≡ with_row (tally_of rows) row
tally_of-more rows row = fold-append with_row empty_tally rows (row ∷ [])

with_row-rows : (tally : Tally) (row : Row) → (with_row tally row).rows ≡ tally.rows + 1
with_row-rows tally (Call caller op) = refl
with_row-rows tally (Turns Promote count) = refl
with_row-rows tally (Turns Evict count) = refl
with_row-rows tally (Turns Collect count) = refl
with_row-rows tally (Turns Drain count) = refl
with_row-rows tally (Power arrive) = refl

rows-counted : (tally : Tally) (rows : List Row) (before : ℕ) → tally.rows ≡ before
    → (fold with_row tally rows).rows ≡ before + length rows
rows-counted tally [] before is = is ∙ sym (add-zero before)
rows-counted tally (row ∷ later) before is =
    let next : (with_row tally row).rows ≡ before + 1 = with_row-rows tally row ∙ ap (λ (n : ℕ). n + 1) is in
    let position : before + 1 + length later ≡ before + length (row ∷ later) = omega arith in
    rows-counted (with_row tally row) later (before + 1) next ∙ position

-- the count of rows is their number
pub tally_of-rows : (rows : List Row) → (tally_of rows).rows ≡ length rows
tally_of-rows rows = rows-counted empty_tally rows 0 refl ∙ zero-add (length rows)

-- a row that was found fits
pub if_fits-some : (limits : Limits) (tally : Tally) (found : Option Row) (row : Row) → Some row ≡ if_fits limits tally found
    → (found ≡ Some row) × (fits limits tally row ≡ true)
if_fits-some limits tally None row is = absurd (cc)
if_fits-some limits tally (Some other) row is = elim (cases_Bool (fits limits tally other)) [
  | inl passes ↦
      let same : Some row ≡ Some other = rw passes at is in
      let this : other ≡ row = cc in
      (ap Some this, ap (fits limits tally) (sym this) ∙ passes)
  | inr beyond ↦ let none : Some row ≡ None = rw beyond at is in absurd (cc)
]

-- a row that fits is within the limit
pub fits-within : (limits : Limits) (tally : Tally) (row : Row) → fits limits tally row ≡ true → tally.rows < 262144
fits-within limits tally row fit = grind (arith, nat_tests)

-- one row more fits
FitAfter-more : (limits : Limits) (before : Tally) (rows : List Row) (row : Row) → FitAfter limits before rows
    → fits limits (fold with_row before rows) row ≡ true → FitAfter limits before (rows ++ row ∷ [])
FitAfter-more limits before [] row fit last = (last, tt)
FitAfter-more limits before (first ∷ later) row fit last =
    (fit.0, FitAfter-more limits (with_row before first) later row fit.1 last)

-- the text has no record
pub no_header : (bytes : List ℕ) (old new : Reader (Bor (List ℕ))) (found : Bool) (fields : List (List ℕ))
    → HasRead bytes [] old → ReadsOne old new found fields → found ≡ false → HasNoHeader bytes 0
no_header bytes old new found fields read one none = record { none = rw none at (one bytes [] read); position = refl }

-- the first record is no header
pub bad_header : (bytes : List ℕ) (old new : Reader (Bor (List ℕ))) (found : Bool) (fields : List (List ℕ))
    → HasRead bytes [] old → ReadsOne old new found fields → found ≡ true → is_header fields ≡ false → IsBadHeader bytes 0
bad_header bytes old new found fields read one some fails =
    let next = rw some at (one bytes [] read) in
    record { fields = fields; begins = (new.state, next.rest, next.reached); fails = fails; position = refl }

-- a header was read
pub rows-start : (limits : Limits) (bytes : List ℕ) (old new : Reader (Bor (List ℕ))) (found : Bool) (fields : List (List ℕ))
    → HasRead bytes [] old → ReadsOne old new found fields → found ≡ true → is_header fields ≡ true → HasRows limits bytes [] new
rows-start limits bytes old new found fields read one some header =
    record {
      header = fields;
      records = [];
      read = rw some at (one bytes [] read);
      named = header;
      are_rows = record { each = refl; fit = tt };
    }

-- one row more was read
pub rows-more : (limits : Limits) (bytes : List ℕ) (rows : List Row) (old new : Reader (Bor (List ℕ))) (found : Bool) (fields : List (List ℕ)) (row : Row)
    → HasRows limits bytes rows old → ReadsOne old new found fields → found ≡ true → row_of fields ≡ Some row
    → fits limits (tally_of rows) row ≡ true
    → HasRows limits bytes (rows ++ row ∷ []) new
rows-more limits bytes rows old new found fields row had one some is fit =
    record {
      header = had.header;
      records = had.records ++ fields ∷ [];
      read = rw some at (one bytes (had.header ∷ had.records) had.read);
      named = had.named;
      are_rows = record {
        each = rw (map-append row_of had.records (fields ∷ []), map-append Some rows (row ∷ []), had.are_rows.each, is) refl;
        fit = FitAfter-more limits empty_tally rows row had.are_rows.fit fit;
      };
    }

-- the record after the rows is bad
pub rows-bad : (limits : Limits) (bytes : List ℕ) (rows : List Row) (old new : Reader (Bor (List ℕ))) (found : Bool) (fields : List (List ℕ)) (number : ℕ)
    → HasRows limits bytes rows old → ReadsOne old new found fields → found ≡ true → length rows + 1 ≡ number
    → None ≡ if_fits limits (tally_of rows) (row_of fields)
    → IsFirstBad limits bytes number
rows-bad limits bytes rows old new found fields number had one some position fails =
    let next = rw some at (one bytes (had.header ∷ had.records) had.read) in
    record {
      header = had.header;
      records = had.records;
      rows = rows;
      fields = fields;
      begins = (new.state, next.rest, next.reached);
      named = had.named;
      before = had.are_rows;
      fails = sym fails;
      position = position;
    }

-- no row is left
pub rows-end : (limits : Limits) (bytes : List ℕ) (rows : List Row) (old new : Reader (Bor (List ℕ))) (found : Bool) (fields : List (List ℕ))
    → HasRows limits bytes rows old → ReadsOne old new found fields → found ≡ false → IsTrace limits bytes rows
rows-end limits bytes rows old new found fields had one none =
    record {
      header = had.header;
      records = had.records;
      whole = rw none at (one bytes (had.header ∷ had.records) had.read);
      named = had.named;
      are_rows = had.are_rows;
    }
