-- How a background turn ends, by what it met.
use Rattle.std.proofs.Common.{◌≡◌, ◌<◌, ◌∙◌, ℕ, Bool, true, false, Option, refl, sym, ap, subst, arith}
use Rattle.std.proofs.lemmas.Bool.{eq-eqb, ne_eqb}
use Rattle.ff_base.specs.Count.{last_event}
use Rattle.ff_model.specs.declared.counts.Kind.{Kind}
use Rattle.ff_memory.specs.declared.access.What.{What}
use Rattle.ff_core.specs.Backs.{IsBack, IsBackAt, IsBackBy, IsPerformed, back_of, core_after, rested, turned_now, with_logged}
use Rattle.ff_core.specs.CanPerform.{IsGiven}
use Rattle.ff_core.specs.Choices.{IsChoice}
use Rattle.ff_core.specs.Core.{CoreView, next_number}
use Rattle.ff_core.specs.CoreSound.{IsCoreSound}
use Rattle.ff_core.specs.EventTally.{did_what}
use Rattle.ff_core.specs.Hierarchy.{HierarchyView, flash_under}
use Rattle.ff_core.specs.Performs.{Performs}
use Rattle.ff_core.specs.declared.action.Action.{Action}
use Rattle.ff_core.specs.declared.action.Progress.{Progress}
use Rattle.ff_core.specs.declared.action.Progress.TheVariants.{Did}
use Rattle.ff_core.specs.declared.log.Back.{Back}
use Rattle.ff_core.specs.declared.log.Back.TheVariants.{Off, Spent}
use Rattle.ff_core.specs.declared.tally.EventTally.{EventTally}

-- the power is off
pub back_off : {T E : Type 0} (score : E → Bool → ℕ → ℕ) (kind : Kind) (core : CoreView T E)
    → (flash_under core.hierarchy).on ≡ false → IsBack (flash_under core.hierarchy).on score kind core Off core
back_off score kind core off = subst (λ (on : Bool). IsBack on score kind core Off core) (sym off) (refl, refl)

-- the event number is the last one
pub back_spent : {T E : Type 0} (score : E → Bool → ℕ → ℕ) (kind : Kind) (old : CoreView T E) (back : Back) (new : CoreView T E)
    → (flash_under old.hierarchy).on ≡ true → old.events ≡ last_event → back ≡ Spent → new ≡ rested old kind Spent
    → IsBack (flash_under old.hierarchy).on score kind old back new
back_spent score kind old back new on last is core =
    subst (λ (power : Bool). IsBack power score kind old back new) (sym on)
    (subst (λ (spent : Bool). IsBackAt spent score kind old back new) (sym (eq-eqb old.events last_event last)) (is, core))

-- the turn made its choice
pub back_chosen : {T E : Type 0} (action : Option Action) (score : E → Bool → ℕ → ℕ) (kind : Kind) (old : CoreView T E) (back : Back)
    (new : CoreView T E) → (flash_under old.hierarchy).on ≡ true → (old.events ≡ last_event → ⊥)
    → IsChoice score kind old.hierarchy action → IsBackBy action kind old back new
    → IsBack (flash_under old.hierarchy).on score kind old back new
back_chosen action score kind old back new on before choice is =
    subst (λ (power : Bool). IsBack power score kind old back new) (sym on)
    (subst (λ (spent : Bool). IsBackAt spent score kind old back new) (sym (ne_eqb old.events last_event before))
    (record { action = action; choice = choice; turn = is }))

-- before the last event number an action may be performed
pub given_before : {T E : Type 0} (core : CoreView T E) → IsCoreSound core → (flash_under core.hierarchy).on ≡ true
    → core.events < last_event → IsGiven core.hierarchy
given_before core sound on before =
    let few = sound.timed.few in
    let from_on = sound.timed.from_on in
    let operations = sound.timed.on on in
    record {
      located = sound.told.located;
      on = on;
      life = omega (arith, few, from_on, operations, before);
      counters = sound.sized.counters ∙ sym (sound.told.pages ∙ sound.sized.pages);
      hand = sound.sized.hand;
    }

-- what a turn chose came to this
pub performed_by : {T E : Type 0} (progress : Progress) (action : Action) (kind : Kind) (old : CoreView T E) (back : Back)
    (new : CoreView T E) (h : HierarchyView T E) → Performs action old.hierarchy progress h → back ≡ back_of action progress
    → new.hierarchy ≡ h → new ≡ core_after action progress kind old h → IsPerformed action kind old back new
performed_by {T} {E} progress action kind old back new h performs answer same core = record {
  progress = progress;
  performs = subst (λ (g : HierarchyView T E). Performs action old.hierarchy progress g) (sym same) performs;
  answer = answer;
  core = subst (λ (g : HierarchyView T E). new ≡ core_after action progress kind old g) (sym same) core;
}

pub performed_did : {T E : Type 0} (what : What) (action : Action) (kind : Kind) (old : CoreView T E) (answer back : Back)
    (new : CoreView T E) (h : HierarchyView T E) (tally : EventTally) → Performs action old.hierarchy (Did what) h
    → tally ≡ did_what action what old.tally → answer ≡ back_of action (Did what) → back ≡ answer
    → new ≡ record old {
      events = next_number old.events;
      log = with_logged (turned_now old kind answer) old.log;
      tally = tally;
      hierarchy = h;
    }
    → IsPerformed action kind old back new
performed_did {T} {E} what action kind old answer back new h tally performs counted says is core =
    let told : new ≡ record old {
      events = next_number old.events;
      log = with_logged (turned_now old kind (back_of action (Did what))) old.log;
      tally = tally;
      hierarchy = h;
    } = core ∙ ap (λ (b : Back). record old {
      events = next_number old.events;
      log = with_logged (turned_now old kind b) old.log;
      tally = tally;
      hierarchy = h;
    }) says in
    let after : new ≡ core_after action (Did what) kind old h = told ∙ ap (λ (t : EventTally). record old {
      events = next_number old.events;
      log = with_logged (turned_now old kind (back_of action (Did what))) old.log;
      tally = t;
      hierarchy = h;
    }) counted in
    performed_by (Did what) action kind old back new h performs (is ∙ says) (ap (λ (c : CoreView T E). c.hierarchy) core) after
