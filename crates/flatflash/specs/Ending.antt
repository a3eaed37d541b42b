-- How a call of the program ends, by the words, the input and the faults, and what it tells.
use Rattle.std.specs.Prelude.{ℕ, ◌+◌, ◌≡◌, ◌⊎◌, ◌==◌, if◌then◌else◌, List, [], ◌∷◌, ◌++◌, codes, decimal, Option, Some, None, is_some, Result, Ok, Err}
use Rattle.std.specs.List.{flat_map, list_any}
use Rattle.std.specs.Io.KnownBytes.{Appends}
use Rattle.ff_core.specs.Log.{turn_counts}
use Rattle.ff_gen.specs.Generated.{generated}
use Rattle.ff_input.specs.Asking.{Asks, IsInputCause}
use Rattle.ff_input.specs.Input.{HasNoFault, SourceChange, Untouched}
use Rattle.ff_input.specs.declared.reading.BadInput.{BadInput}
use Rattle.ff_input.specs.declared.reading.BadInput.TheVariants as bad_input
use Rattle.ff_io.specs.Faults.{IsFaultCounted}
use Rattle.ff_io.specs.Known.{AppendsPrefix}
use Rattle.ff_mount.specs.declared.stop.MountStop.{MountStop}
use Rattle.ff_mount.specs.declared.stop.MountStop.TheVariants as mount_stop
use Rattle.ff_model.specs.Image.{Content}
use Rattle.ff_report.specs.Remounted.{Cut, Faulted, Found, RemountedView}
use Rattle.ff_report.specs.SessionParts.{SessionPartsView}
use Rattle.ff_report.specs.Text.{session_text, summary_text}
use Rattle.ff_sessions.specs.Sessions.{AreSessionsOf, setup_with}
use Rattle.ff_sessions.specs.declared.session.Session.{Session}
use Rattle.ff_settings.specs.Names.{text_of}
use Rattle.ff_settings.specs.Settings.{SettingsView}
use Rattle.ff_settings.specs.declared.given.BadSettings.{BadSettings}
use Rattle.ff_settings.specs.declared.given.BadSettings.TheVariants as bad_settings
use Rattle.ff_trace.specs.declared.row.Row.{Row}
use Rattle.flatflash.specs.Loads.{load_setup}
use Rattle.flatflash.specs.Statuses.{bad_input_status, bad_settings_status, done_status, no_image_status, no_memory_status, read_fault_status, usage_status, write_fault_status}
use Rattle.flatflash.specs.Words.{AskToLoad, AskToSchedule, IsWordsCause}
use Rattle.flatflash.specs.declared.refusal.Refusal.{Refusal}
use Rattle.flatflash.specs.declared.refusal.Refusal.TheVariants as refusal

-- the rows of the input were run, or those that a number makes, or the call was refused
pub data End : Type 0 where
  ran : List Session → End
  loaded : ℕ → List Session → End
  refused : Refusal → End

-- the whole input was read, and the sessions are those of its rows under its settings, by a tuner of this floor
abbrev pub RunsInput : ℕ → SourceChange → List Session → Type 0
RunsInput floor source sessions =
    (settings : SettingsView) × (rows : List Row) × Asks source settings rows
    × AreSessionsOf (setup_with settings.geometry settings.plan floor) rows sessions

-- why a run of the input is refused. Want of memory has no cause, and no read failed before it
abbrev pub IsRunRefusal : SourceChange → Refusal → Type 0
IsRunRefusal source refusal.NoMemory = HasNoFault source
IsRunRefusal source refusal.Usage = ⊥
IsRunRefusal source (refusal.Input why) = IsInputCause source why

-- a run of the input, which its bytes and its faults allow to end so
abbrev pub IsInputEnd : ℕ → SourceChange → End → Type 0
IsInputEnd floor source (ran sessions) = RunsInput floor source sessions
IsInputEnd floor source (loaded number sessions) = ⊥
IsInputEnd floor source (refused why) = IsRunRefusal source why

-- a run of the rows that a number makes; want of memory alone refuses it
abbrev pub IsLoadEnd : ℕ → ℕ → End → Type 0
IsLoadEnd floor number (ran sessions) = ⊥
IsLoadEnd floor number (loaded given sessions) =
    (given ≡ number) × AreSessionsOf (load_setup floor) (generated number) sessions
IsLoadEnd floor number (refused why) = why ≡ refusal.NoMemory

-- the words, the input and its faults allow this end, where the tuner has this floor: the input was run as the words
-- ask, or the rows of their number, or the words are refused. Where they don't ask for the input, nothing was read
pub data IsEnd (floor : ℕ) (words : List (List ℕ)) (source : SourceChange) (end : End)
    : Type 0 where
  schedules : AskToSchedule words → IsInputEnd floor source end → IsEnd floor words source end
  loads : (number : ℕ) → AskToLoad words number → Untouched source → IsLoadEnd floor number end
      → IsEnd floor words source end
  refuses : (why : Refusal) → IsWordsCause words why → Untouched source → end ≡ refused why
      → IsEnd floor words source end

-- a sink before and after a call: the bytes that it holds, where it tells them, and how often it
-- has failed
pub record SinkChange : Type 0 where
  pub before : Option (List ℕ)
  pub after : Option (List ℕ)
  pub faults_before : ℕ
  pub faults_after : ℕ

-- a sink, before and after, by the meanings of its type
abbrev pub sink_change : {K : Type 0} → (K → Option (List ℕ)) → (K → ℕ) → K → K → SinkChange
sink_change written faults old new =
    record {
      before = written old;
      after = written new;
      faults_before = faults old;
      faults_after = faults new;
    }

-- the image that the remount after a session found, or why it found none
abbrev pub found_of : Option Content → Option MountStop → RemountedView
found_of (Some image) stop = Found image
found_of None (Some mount_stop.Fault) = Faulted
found_of None stop = Cut

-- the parts of a session that its text tells
abbrev pub told_parts : Session → SessionPartsView
told_parts session = record {
  entries = session.account.entries;
  turns = turn_counts session.account.turns;
  counts = session.account.counts;
  kept = session.account.kept;
  image = found_of session.image session.stop;
}

-- the texts of sessions, one after the other, the first of them with this number
abbrev pub sessions_text : ℕ → List Session → List ℕ
sessions_text at [] = []
sessions_text at (session ∷ later) =
    session_text at (told_parts session) ++ sessions_text (at + 1) later

-- the summaries of the sessions of a number's rows
abbrev pub summaries_text : ℕ → List Session → List ℕ
summaries_text number sessions = flat_map (λ session. summary_text number (told_parts session)) sessions

-- the line of settings that are refused
abbrev pub settings_text : BadSettings → List ℕ
settings_text bad_settings.NoMemory = []
settings_text bad_settings.Text = codes "settings: text\n"
settings_text bad_settings.Key = codes "settings: key\n"
settings_text (bad_settings.Kind name) = codes "settings: kind " ++ text_of name ++ codes "\n"
settings_text (bad_settings.Bound name) = codes "settings: bound " ++ text_of name ++ codes "\n"

-- the line of an input that is refused
abbrev pub input_text : BadInput → List ℕ
input_text bad_input.NoMemory = []
input_text bad_input.ReadFault = codes "read fault\n"
input_text bad_input.TooLong = codes "trace: too long\n"
input_text bad_input.NoSeparator = codes "trace: no separator\n"
input_text (bad_input.BadSettings why) = settings_text why
input_text (bad_input.BadRow number) = codes "trace: row " ++ decimal number ++ codes "\n"

-- the line of a refusal
abbrev pub refusal_text : Refusal → List ℕ
refusal_text refusal.NoMemory = []
refusal_text refusal.Usage = codes "usage: flatflash schedule, threads or load N\n"
refusal_text (refusal.Input why) = input_text why

-- the text of an end
abbrev pub end_text : End → List ℕ
end_text (ran sessions) = sessions_text 0 sessions
end_text (loaded number sessions) = summaries_text number sessions
end_text (refused why) = refusal_text why

-- the status of settings that are refused
abbrev pub settings_status : BadSettings → ℕ
settings_status bad_settings.NoMemory = no_memory_status
settings_status why = bad_settings_status

-- the status of an input that is refused
abbrev pub input_status : BadInput → ℕ
input_status bad_input.NoMemory = no_memory_status
input_status bad_input.ReadFault = read_fault_status
input_status bad_input.TooLong = bad_input_status
input_status bad_input.NoSeparator = bad_input_status
input_status (bad_input.BadSettings why) = settings_status why
input_status (bad_input.BadRow number) = bad_input_status

-- the status of a refusal
abbrev pub refusal_status : Refusal → ℕ
refusal_status refusal.NoMemory = no_memory_status
refusal_status refusal.Usage = usage_status
refusal_status (refusal.Input why) = input_status why

-- the status of sessions, of which the last alone can have no image
abbrev pub sessions_status : List Session → ℕ
sessions_status sessions =
    if list_any (λ session. is_some session.stop) sessions then no_image_status else done_status

-- the status of an end
abbrev pub end_status : End → ℕ
end_status (ran sessions) = sessions_status sessions
end_status (loaded number sessions) = sessions_status sessions
end_status (refused why) = refusal_status why

-- the sessions of an end
abbrev pub end_sessions : End → List Session
end_sessions (ran sessions) = sessions
end_sessions (loaded number sessions) = sessions
end_sessions (refused why) = []

-- the whole text was written
pub record TellsAll (sink : SinkChange) (end : End) (status : ℕ) : Type 0 where
  pub status_is : status ≡ end_status end
  pub written : Appends sink.before sink.after (end_text end)
  pub faults : sink.faults_after ≡ sink.faults_before

-- a write failed: its status stands in the place of every other but that of want of memory, and a prefix of the text
-- was written
pub record FailsToTell (sink : SinkChange) (end : End) (status : ℕ) : Type 0 where
  pub status_is : status ≡ write_fault_status
  pub has_memory : end_status end ≡ no_memory_status → ⊥
  pub written : AppendsPrefix sink.before sink.after (end_text end)
  pub faults : IsFaultCounted sink.faults_before sink.faults_after

-- what is answered and written for an end
pub record Tells (sink : SinkChange) (end : End) (status : ℕ)
    (sessions : List Session) : Type 0 where
  pub sessions_are : sessions ≡ end_sessions end
  pub told : TellsAll sink end status ⊎ FailsToTell sink end status

-- the call came to an end that is allowed, and told it
abbrev pub EndsAndTells : (End → Type 0) → SinkChange → ℕ → List Session → Type 0
EndsAndTells IsAllowed sink status sessions =
    (end : End) × IsAllowed end × Tells sink end status sessions

-- the status after the sink was flushed: where that fails, that of a failed write stands in the place of every other but
-- that of want of memory
abbrev pub flushed_status : {E : Type 0} → Result Unit E → ℕ → ℕ
flushed_status (Ok done) status = status
flushed_status (Err why) status =
    if status == no_memory_status then no_memory_status else write_fault_status
