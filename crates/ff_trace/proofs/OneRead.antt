-- What one more read adds to what a reader has read.
use Rattle.std.proofs.Common.{Bor, ◌≡◌, ◌∙◌, ℕ, Bool, true, false, List, Option, Some, inl}
use Rattle.csv.specs.Reading.{ReadRecord, Ready, default_config, is_flexible, reader_trim, strip_bom, took_first}
use Rattle.csv.specs.declared.parser.State.TheVariants as st
use Rattle.csv.specs.declared.reader.Reader.{Reader}
use Rattle.csv.specs.declared.reader.Trim.TheVariants as trims
use Rattle.csv.proofs.ReadFacts.{rows-end, rows-more}
use Rattle.ff_trace.specs.Reading.{ReadsOne}

-- the bytes that a slice has left
abbrev pub remaining : Bor (List ℕ) → Option (List ℕ)
remaining s = Some s.now

-- what `csv` says of a read, for a reader of a text
pub reads-one : (old new : Reader (Bor (List ℕ))) (found : Bool) (fields : List (List ℕ))
    → (reader_trim old ≡ trims.None → Ready old → ReadRecord remaining old new found fields) → took_first new ≡ true → is_flexible new ≡ is_flexible old
    → ReadsOne old new found fields
reads-one old new true fields reads first same bytes records had =
    let set = had.settings in
    let read = reads set.trim set.ready in
    let (rest, source, reached) = rows-more remaining old new fields default_config st.StartRecord (strip_bom bytes) had.rest records set.config had.source had.reached read in
    record {
      settings = record {
        trim = read.3 ∙ set.trim;
        ready = inl first;
        config = read.2 ∙ set.config;
        flexible = same ∙ set.flexible;
      };
      rest = rest;
      source = source;
      reached = reached;
    }
reads-one old new false fields reads first same bytes records had =
    let set = had.settings in
    let read = reads set.trim set.ready in
    (old.state, had.rest, had.reached, rows-end remaining old new fields default_config had.rest set.config had.source read)

pub ruleset one_read = (reads-one)
