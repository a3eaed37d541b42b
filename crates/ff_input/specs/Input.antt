-- What a call reads of its source, and which parts the input has.
use Rattle.std.specs.Prelude.{ℕ, ◌+◌, ◌-◌, ◌≡◌, ◌==◌, ◌≤◌, ◌<◌, ◌||◌, if◌then◌else◌, Bool, List, ◌++◌, length, drop, take, codes, slice_index, Option, Some, None, IfSome, []}
use Rattle.std.specs.Str.{bytes_eq}
use Rattle.std.specs.Io.KnownBytes.{Keeps}
use Rattle.ff_io.specs.Faults.{IsFaultCounted}
use Rattle.ff_input.specs.declared.input_bytes.ReadStop.{ReadStop}
use Rattle.ff_input.specs.declared.input_bytes.ReadStop.TheVariants as read_stop

-- the most bytes of an input
abbrev pub input_limit : ℕ
input_limit = 67108864

-- the most bytes of one read
abbrev pub chunk_size : ℕ
chunk_size = 65536

-- a source before and after a call: the bytes that it has left, where it tells them, and how often
-- it has failed
pub record SourceChange : Type 0 where
  pub before : Option (List ℕ)
  pub after : Option (List ℕ)
  pub faults_before : ℕ
  pub faults_after : ℕ

-- a source, before and after, by the meanings of its type
abbrev pub source_change : {S : Type 0} → (S → Option (List ℕ)) → (S → ℕ) → S → S → SourceChange
source_change left faults old new =
    record {
      before = left old;
      after = left new;
      faults_before = faults old;
      faults_after = faults new;
    }

-- no read failed
abbrev pub HasNoFault : SourceChange → Type 0
HasNoFault source = source.faults_after ≡ source.faults_before

-- nothing was read
pub record Untouched (source : SourceChange) : Type 0 where
  pub bytes : Keeps source.before source.after
  pub faults : HasNoFault source

-- some bytes were taken from those that were left, and their number is such
abbrev pub TakesBytes : Option (List ℕ) → Option (List ℕ) → (ℕ → Type 0) → Type 0
TakesBytes None after IsSuch = Unit {0}
TakesBytes (Some bytes) after IsSuch =
    (taken rest : List ℕ) × (bytes ≡ taken ++ rest) × (after ≡ Some rest) × IsSuch (length taken)

-- more bytes came than an input may have, by one read at most
pub record ReadsTooMuch (source : SourceChange) : Type 0 where
  pub bytes : TakesBytes source.before source.after
      (λ count. (input_limit < count) × (count ≤ input_limit + chunk_size))
  pub faults : HasNoFault source

-- a read failed, and before it no more bytes came than an input may have
pub record FailsToRead (source : SourceChange) : Type 0 where
  pub bytes : TakesBytes source.before source.after (λ count. count ≤ input_limit)
  pub faults : IsFaultCounted source.faults_before source.faults_after

-- the whole input was read, and it is such
pub record ReadsWhole (source : SourceChange) (IsSuch : List ℕ → Type 0) : Type 0 where
  pub bytes : IfSome source.before
      (λ bytes. (source.after ≡ Some []) × (length bytes ≤ input_limit) × IsSuch bytes)
  pub faults : HasNoFault source

-- why the bytes of an input can't be had. Want of memory has no cause, and comes before the first
-- read
abbrev pub IsReadCause : SourceChange → ReadStop → Type 0
IsReadCause source read_stop.NoMemory = Untouched source
IsReadCause source read_stop.Fault = FailsToRead source
IsReadCause source read_stop.TooLong = ReadsTooMuch source

-- a line begins at this offset
abbrev pub begins_line : List ℕ → ℕ → Bool
begins_line bytes at = (at == 0) || (slice_index bytes (at - 1) == 10)

-- what stands behind a line that is exactly `---` and begins these bytes: one CR before the line's
-- LF doesn't count
abbrev pub behind_dashes : List ℕ → Option (List ℕ)
behind_dashes bytes =
    if bytes_eq (take 4 bytes) (codes "---\n") then Some (drop 4 bytes)
    else if bytes_eq (take 5 bytes) (codes "---\r\n") then Some (drop 5 bytes)
    else None

-- what stands behind the separator that begins at this offset
abbrev pub behind_separator : List ℕ → ℕ → Option (List ℕ)
behind_separator bytes at = if begins_line bytes at then behind_dashes (drop at bytes) else None

-- the input has these settings and this trace: they stand before and behind its first separator
pub record IsSplit (bytes settings trace : List ℕ) : Type 0 where
  pub at : ℕ
  pub first : (before : ℕ) → before < at → behind_separator bytes before ≡ None
  pub trace_is : behind_separator bytes at ≡ Some trace
  pub settings_are : settings ≡ take at bytes

-- no line of the input is a separator
abbrev pub IsUnsplit : List ℕ → Type 0
IsUnsplit bytes = (at : ℕ) → at < length bytes → behind_separator bytes at ≡ None

-- the input has settings and a trace, and they are such
pub record HasParts (IsSuch : List ℕ → List ℕ → Type 0) (bytes : List ℕ) : Type 0 where
  pub settings : List ℕ
  pub trace : List ℕ
  pub split : IsSplit bytes settings trace
  pub are_such : IsSuch settings trace
