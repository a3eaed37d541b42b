-- What an input asks for, and why one is refused.
use Rattle.std.specs.Prelude.{ℕ, false, ⊤, List, length, Ok, Err}
use Rattle.ff_settings.specs.Document.{IsAnswer}
use Rattle.ff_settings.specs.Settings.{SettingsView}
use Rattle.ff_settings.specs.declared.given.BadSettings.{BadSettings}
use Rattle.ff_settings.specs.declared.given.BadSettings.TheVariants as bad_settings
use Rattle.ff_trace.specs.Trace.{IsCauseOf, IsTrace}
use Rattle.ff_trace.specs.declared.row.Row.{Row}
use Rattle.ff_trace.specs.declared.tally.Limits.{Limits}
use Rattle.ff_trace.specs.declared.trace_rows.BadTrace.TheVariants as bad
use Rattle.ff_input.specs.Input.{FailsToRead, HasNoFault, HasParts, IsUnsplit, ReadsTooMuch, ReadsWhole, SourceChange}
use Rattle.ff_input.specs.declared.reading.BadInput.{BadInput}
use Rattle.ff_input.specs.declared.reading.BadInput.TheVariants as bad_input

-- how many cuts the settings plan
abbrev pub cut_count : SettingsView → ℕ
cut_count settings = length settings.plan.cuts

-- the rows of a trace are run one after the other, under settings with so many cuts
abbrev pub one_thread : ℕ → Limits
one_thread cuts = record { cuts = cuts; threads = false }

-- why settings are refused. Want of memory is none of theirs: it is the input's
abbrev pub IsSettingsCause : List ℕ → BadSettings → Type 0
IsSettingsCause bytes bad_settings.NoMemory = ⊥
IsSettingsCause bytes why = IsAnswer bytes false (Err why)

-- the settings are good, and the record of this number is the first of the trace that is bad under
-- them
pub record IsBadRow (number : ℕ) (settings trace : List ℕ) : Type 0 where
  pub view : SettingsView
  pub good : IsAnswer settings false (Ok view)
  pub bad_row : IsCauseOf (one_thread (cut_count view)) trace (bad.Row number)

-- why an input is refused. Each cause says that those before it don't hold; want of memory has
-- none, and no read failed before it
abbrev pub IsInputCause : SourceChange → BadInput → Type 0
IsInputCause source bad_input.NoMemory = HasNoFault source
IsInputCause source bad_input.ReadFault = FailsToRead source
IsInputCause source bad_input.TooLong = ReadsTooMuch source
IsInputCause source bad_input.NoSeparator = ReadsWhole source IsUnsplit
IsInputCause source (bad_input.BadSettings why) =
    ReadsWhole source (HasParts (λ settings trace. IsSettingsCause settings why))
IsInputCause source (bad_input.BadRow number) = ReadsWhole source (HasParts (IsBadRow number))

-- the parts of an input are these settings, and these rows under them
pub record AreAsked (view : SettingsView) (rows : List Row) (settings trace : List ℕ) : Type 0 where
  pub settings_are : IsAnswer settings false (Ok view)
  pub is_trace : IsTrace (one_thread (cut_count view)) trace rows

-- the whole input was read, and it asks for these rows under these settings
abbrev pub Asks : SourceChange → SettingsView → List Row → Type 0
Asks source settings rows = ReadsWhole source (HasParts (AreAsked settings rows))

-- why the settings of an input are refused; want of memory has no cause
abbrev pub IsSettingsRefusal : List ℕ → BadInput → Type 0
IsSettingsRefusal bytes bad_input.NoMemory = ⊤
IsSettingsRefusal bytes (bad_input.BadSettings why) = IsSettingsCause bytes why
IsSettingsRefusal bytes other = ⊥

-- why the trace of an input is refused under these limits
abbrev pub IsRowsRefusal : Limits → List ℕ → BadInput → Type 0
IsRowsRefusal limits bytes bad_input.NoMemory = ⊤
IsRowsRefusal limits bytes (bad_input.BadRow number) = IsCauseOf limits bytes (bad.Row number)
IsRowsRefusal limits bytes other = ⊥

-- why an input that was read is refused
abbrev pub IsPartsCause : List ℕ → BadInput → Type 0
IsPartsCause bytes bad_input.NoMemory = ⊤
IsPartsCause bytes bad_input.NoSeparator = IsUnsplit bytes
IsPartsCause bytes (bad_input.BadSettings why) =
    HasParts (λ settings trace. IsSettingsCause settings why) bytes
IsPartsCause bytes (bad_input.BadRow number) = HasParts (IsBadRow number) bytes
IsPartsCause bytes other = ⊥
