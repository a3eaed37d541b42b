-- What one event of a call makes of a core.
use Rattle.std.specs.Prelude.{ℕ, ◌≡◌, Bool, true, false, Option, Some, None, length}
use Rattle.ff_base.specs.declared.numbers.Caller.{Caller}
use Rattle.ff_base.specs.declared.numbers.PageNo.{PageNo}
use Rattle.ff_memory.specs.declared.access.Access.TheVariants.{Served as AccessServed, Miss as AccessMiss}
use Rattle.ff_memory.specs.declared.access.Side.{Side}
use Rattle.ff_model.specs.Legal.{refusal}
use Rattle.ff_model.specs.declared.op.Op.{Op}
use Rattle.ff_model.specs.declared.op.Reply.{Reply}
use Rattle.ff_model.specs.declared.op.Reply.TheVariants.{Fault}
use Rattle.ff_core.specs.Core.{CoreView, entry_now, next_number, with_entry}
use Rattle.ff_core.specs.Hierarchy.{HierarchyView, flash_under}
use Rattle.ff_core.specs.Misses.{IsMissAction}
use Rattle.ff_core.specs.Performs.{Performs}
use Rattle.ff_core.specs.Serving.{IsAccess, PolicyAfter, page_asked}
use Rattle.ff_core.specs.EventTally.{served_by, tally_after}
use Rattle.ff_core.specs.declared.action.Action.{Action}
use Rattle.ff_core.specs.declared.action.Progress.{Progress}
use Rattle.ff_core.specs.declared.action.Progress.TheVariants.{Did, Failed, Off as ProgressOff}
use Rattle.ff_core.specs.declared.turn.Turn.{Turn}
use Rattle.ff_core.specs.declared.turn.Turn.TheVariants.{Served, Miss, Off}

-- a call was answered, and nothing else was done
abbrev pub answered : {T E : Type 0} → CoreView T E → Caller → ℕ → Op → Reply → CoreView T E
answered core caller number op reply = record core {
  history = with_entry
      (entry_now core caller number op reply (flash_under core.hierarchy).faults) core.history;
  events = next_number core.events;
}

-- a call was served by this side, and counted
pub record IsServed {T E : Type 0} (answers : T → ℕ → ℕ → ℕ → ℕ → Type 0) (old : CoreView T E)
    (caller : Caller) (number : ℕ) (op : Op) (reply : Reply) (new : CoreView T E) : Type 0 where
  pub side : Side
  pub between : HierarchyView T E
  pub access : IsAccess op (length old.history.entries) old.hierarchy (AccessServed reply side)
      between
  pub policy : PolicyAfter side (page_asked op) answers old.hierarchy.policy
      new.hierarchy.policy
  pub core : new ≡ record (answered old caller number op reply) {
    tally = served_by side old.tally;
    hierarchy = record between { policy = new.hierarchy.policy };
  }

-- what a missed call is answered after a step was made for it: nothing yet, or that the flash failed
abbrev pub AfterStep : {T E : Type 0} → Progress → Action → PageNo → CoreView T E → Caller → ℕ
    → Op → Turn → HierarchyView T E → CoreView T E → Type 0
AfterStep (Did what) action page old caller number op turn h new =
    (turn ≡ Miss page)
    × (new ≡ record old {
      events = next_number old.events;
      tally = tally_after action (Did what) old.tally;
      hierarchy = h;
    })
AfterStep Failed action page old caller number op turn h new =
    (turn ≡ Served Fault)
    × (new ≡ record old {
      history = with_entry (entry_now old caller number op Fault (flash_under h).faults) old.history;
      events = next_number old.events;
      hierarchy = h;
    })
AfterStep ProgressOff action page old caller number op turn h new =
    (turn ≡ Off) × (new ≡ record old { hierarchy = h })

-- one step was made for a call that missed a page
pub record IsMissStep {T E : Type 0} (page : PageNo) (old : CoreView T E) (caller : Caller)
    (number : ℕ) (op : Op) (turn : Turn) (new : CoreView T E) : Type 0 where
  pub action : Action
  pub asked : IsMissAction op page old.hierarchy action
  pub progress : Progress
  pub performs : Performs action old.hierarchy progress new.hierarchy
  pub after : AfterStep progress action page old caller number op turn new.hierarchy new

-- a call missed a page: no line, no operation and nothing of the memory changed, and one step was made for it
pub record IsMiss {T E : Type 0} (old : CoreView T E) (caller : Caller) (number : ℕ) (op : Op)
    (turn : Turn) (new : CoreView T E) : Type 0 where
  pub page : PageNo
  pub between : HierarchyView T E
  pub access : IsAccess op (length old.history.entries) old.hierarchy (AccessMiss page) between
  pub step : IsMissStep page (record old { hierarchy = between }) caller number op turn new

-- a call that isn't refused at once is served, or a step is made for it
pub data IsAttempt {T E : Type 0} (answers : T → ℕ → ℕ → ℕ → ℕ → Type 0) (old : CoreView T E)
    (caller : Caller) (number : ℕ) (op : Op) (turn : Turn) (new : CoreView T E) : Type 0 where
  serves : (reply : Reply) → turn ≡ Served reply → IsServed answers old caller number op reply new
      → IsAttempt answers old caller number op turn new
  misses : IsMiss old caller number op turn new → IsAttempt answers old caller number op turn new

abbrev pub IsTurnBy : {T E : Type 0} → Option Reply → (T → ℕ → ℕ → ℕ → ℕ → Type 0) → CoreView T E
    → Caller → ℕ → Op → Turn → CoreView T E → Type 0
IsTurnBy (Some reply) answers old caller number op turn new =
    (turn ≡ Served reply) × (new ≡ answered old caller number op reply)
IsTurnBy None answers old caller number op turn new =
    IsAttempt answers old caller number op turn new

-- one event of a call: with the power off it does nothing, and else it is refused, served, or missed
abbrev pub IsTurn : {T E : Type 0} → Bool → (T → ℕ → ℕ → ℕ → ℕ → Type 0) → CoreView T E → Caller
    → ℕ → Op → Turn → CoreView T E → Type 0
IsTurn false answers old caller number op turn new = (turn ≡ Off) × (new ≡ old)
IsTurn true answers old caller number op turn new =
    IsTurnBy (refusal old.opening.pages old.events op) answers old caller number op turn new
