-- What a background turn makes of a core.
use Rattle.std.specs.Prelude.{ℕ, ◌≡◌, ◌==◌, ◌∷◌, ◌++◌, [], Bool, true, false, length, Option, Some, None}
use Rattle.ff_base.specs.Count.{last_event}
use Rattle.ff_memory.specs.declared.access.What.{What}
use Rattle.ff_memory.specs.declared.access.What.TheVariants.{Worked}
use Rattle.ff_model.specs.declared.counts.Kind.{Kind}
use Rattle.ff_core.specs.Choices.{IsChoice}
use Rattle.ff_core.specs.Core.{CoreView, next_number}
use Rattle.ff_core.specs.Hierarchy.{HierarchyView}
use Rattle.ff_core.specs.Log.{LogView}
use Rattle.ff_core.specs.Performs.{Performs}
use Rattle.ff_core.specs.EventTally.{tally_after}
use Rattle.ff_core.specs.declared.action.Action.{Action}
use Rattle.ff_core.specs.declared.action.Action.TheVariants.{Work}
use Rattle.ff_core.specs.declared.action.Progress.{Progress}
use Rattle.ff_core.specs.declared.action.Progress.TheVariants.{Did as ProgressDid, Failed as ProgressFailed, Off as ProgressOff}
use Rattle.ff_core.specs.declared.log.Back.{Back}
use Rattle.ff_core.specs.declared.log.Back.TheVariants.{Did, Idle, Failed, Off, Spent}
use Rattle.ff_core.specs.declared.log.Turned.{Turned}

-- a turn that was made now
abbrev pub turned_now : {T E : Type 0} → CoreView T E → Kind → Back → Turned
turned_now core kind back =
    record { kind = kind; answer = back; calls = length core.history.entries }

-- the log with one more turn
abbrev pub with_logged : Turned → LogView → LogView
with_logged turn log = record log { turns = log.turns ++ turn ∷ [] }

-- a turn that did nothing was made
abbrev pub rested : {T E : Type 0} → CoreView T E → Kind → Back → CoreView T E
rested core kind back = record core { log = with_logged (turned_now core kind back) core.log }

-- a step of work is one, also where another page made its step for it
abbrev pub did_by : Action → What → What
did_by (Work page) what = Worked
did_by action what = what

-- what a turn answers for what its action came to
abbrev pub back_of : Action → Progress → Back
back_of action (ProgressDid what) = Did (did_by action what)
back_of action ProgressFailed = Failed
back_of action ProgressOff = Off

-- the core after a turn's action came to this. One that was cut isn't counted as made
abbrev pub core_after : {T E : Type 0} → Action → Progress → Kind → CoreView T E → HierarchyView T E
    → CoreView T E
core_after action ProgressOff kind core h = record core { hierarchy = h }
core_after action progress kind core h = record core {
  events = next_number core.events;
  log = with_logged (turned_now core kind (back_of action progress)) core.log;
  tally = tally_after action progress core.tally;
  hierarchy = h;
}

-- a turn's action was performed
pub record IsPerformed {T E : Type 0} (action : Action) (kind : Kind) (old : CoreView T E)
    (back : Back) (new : CoreView T E) : Type 0 where
  pub progress : Progress
  pub performs : Performs action old.hierarchy progress new.hierarchy
  pub answer : back ≡ back_of action progress
  pub core : new ≡ core_after action progress kind old new.hierarchy

-- a turn by what it chose
abbrev pub IsBackBy : {T E : Type 0} → Option Action → Kind → CoreView T E → Back → CoreView T E
    → Type 0
IsBackBy None kind old back new = (back ≡ Idle) × (new ≡ rested old kind Idle)
IsBackBy (Some action) kind old back new = IsPerformed action kind old back new

-- a turn before the last event number makes the one choice of its kind
pub record IsChosenBack {T E : Type 0} (score : E → Bool → ℕ → ℕ) (kind : Kind)
    (old : CoreView T E) (back : Back) (new : CoreView T E) : Type 0 where
  pub action : Option Action
  pub choice : IsChoice score kind old.hierarchy action
  pub turn : IsBackBy action kind old back new

abbrev pub IsBackAt : {T E : Type 0} → Bool → (E → Bool → ℕ → ℕ) → Kind → CoreView T E → Back
    → CoreView T E → Type 0
IsBackAt true score kind old back new = (back ≡ Spent) × (new ≡ rested old kind Spent)
IsBackAt false score kind old back new = IsChosenBack score kind old back new

-- a background turn: with the power off it does nothing
abbrev pub IsBack : {T E : Type 0} → Bool → (E → Bool → ℕ → ℕ) → Kind → CoreView T E → Back
    → CoreView T E → Type 0
IsBack false score kind old back new = (back ≡ Off) × (new ≡ old)
IsBack true score kind old back new = IsBackAt (old.events == last_event) score kind old back new
