-- The ends of a call by what its words ask for.
use Rattle.std.proofs.Common.{ℕ, List, Option, refl}
use Rattle.std.proofs.KnownBytes.{Keeps-refl}
use Rattle.ff_input.specs.Input.{SourceChange, Untouched, source_change}
use Rattle.flatflash.specs.Ending.{EndsAndTells, IsEnd, IsInputEnd, IsLoadEnd, SinkChange, Tells, loads, refused, refuses, schedules}
use Rattle.flatflash.specs.Words.{AskToLoad, AskToSchedule, IsWordsCause}
use Rattle.flatflash.specs.declared.refusal.Refusal.{Refusal}
use Rattle.ff_sessions.specs.declared.session.Session.{Session}

-- a source that was let alone
untouched : {S : Type 0} (left : S → Option (List ℕ)) (faults : S → ℕ) (source : S)
    → Untouched (source_change left faults source source)
untouched left faults source = record { bytes = Keeps-refl (left source); faults = refl }

pub ended_scheduled : (floor : ℕ) (words : List (List ℕ)) (source : SourceChange) (sink : SinkChange) (status : ℕ)
    (sessions : List Session) → AskToSchedule words → EndsAndTells (IsInputEnd floor source) sink status sessions
    → EndsAndTells (IsEnd floor words source) sink status sessions
ended_scheduled floor words source sink status sessions asked (end, is, told) = (end, schedules asked is, told)

pub ended_loaded : {S : Type 0} (left : S → Option (List ℕ)) (faults : S → ℕ) (source : S) (floor : ℕ) (words : List (List ℕ))
    (number : ℕ) (sink : SinkChange) (status : ℕ) (sessions : List Session) → AskToLoad words number
    → EndsAndTells (IsLoadEnd floor number) sink status sessions
    → EndsAndTells (IsEnd floor words (source_change left faults source source)) sink status sessions
ended_loaded left faults source floor words number sink status sessions asked (end, is, told) =
    (end, loads number asked (untouched left faults source) is, told)

pub ended_refused : {S : Type 0} (left : S → Option (List ℕ)) (faults : S → ℕ) (source : S) (floor : ℕ) (words : List (List ℕ))
    (why : Refusal) (sink : SinkChange) (status : ℕ) (sessions : List Session) → IsWordsCause words why
    → Tells sink (refused why) status sessions
    → EndsAndTells (IsEnd floor words (source_change left faults source source)) sink status sessions
ended_refused left faults source floor words why sink status sessions cause told =
    (refused why, refuses why cause (untouched left faults source) refl, told)
