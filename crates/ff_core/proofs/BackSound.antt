-- A core stays sound after a background turn.
use Rattle.std.proofs.Common.{◌≡◌, ◌<◌, ◌==◌, ℕ, Bool, true, false, Option, None, Some, refl, sym, subst, arith}
use Rattle.std.proofs.lemmas.Bool.{eqb-false}
use Rattle.ff_base.specs.Count.{last_event}
use Rattle.ff_calls.specs.Told.{IsTold}
use Rattle.ff_lines.specs.DeviceState.{IsDevice}
use Rattle.ff_memory.specs.Memory.{IsMemorySound}
use Rattle.ff_model.specs.declared.counts.Kind.{Kind}
use Rattle.ff_model.specs.declared.counts.Kind.TheVariants.{Promote as PromoteKind, Evict as EvictKind, Collect as CollectKind, Drain as DrainKind}
use Rattle.ff_core.specs.Backs.{IsBack, IsBackAt, IsBackBy, back_of, core_after, rested, turned_now, with_logged}
use Rattle.ff_core.specs.Choices.{IsChoice}
use Rattle.ff_core.specs.Core.{CoreView, next_number}
use Rattle.ff_core.specs.CoreSound.{IsCoreSound, is_failed, is_promotion_by}
use Rattle.ff_core.specs.Hierarchy.{HierarchyView, flash_under, lines_under}
use Rattle.ff_core.specs.Performs.{Performs}
use Rattle.ff_core.specs.EventTally.{tally_after}
use Rattle.ff_core.specs.declared.action.Action.{Action}
use Rattle.ff_core.specs.declared.action.Progress.{Progress}
use Rattle.ff_core.specs.declared.action.Progress.TheVariants.{Did, Failed, Off}
use Rattle.ff_core.specs.declared.log.Back.{Back}
use Rattle.ff_core.specs.declared.log.Back.TheVariants.{Failed as BackFailed, Idle, Spent}
use Rattle.ff_core.proofs.ActionsTold.{performs-tells}
use Rattle.ff_core.proofs.Recounting.{recounted-failed, recounted-still, recounted-turned}
use Rattle.ff_core.proofs.Running.{Runs, fails-cut, performs-runs, runs-still}
use Rattle.ff_core.proofs.Sizes.{performs-parts}
use Rattle.ff_core.proofs.SoundOver.{counted-alike, sound-over, still-parts}
use Rattle.ff_core.proofs.Tallied.{CountsAlike, CountsTurn, after-moves, chosen-turn, performs-alike}
use Rattle.ff_core.proofs.Timing.{later-cut, later-looked, later-stepped}

-- a turn that failed began no promotion
failed-unpromoted : (kind : Kind) → is_promotion_by kind BackFailed ≡ false
failed-unpromoted PromoteKind = refl
failed-unpromoted EvictKind = refl
failed-unpromoted CollectKind = refl
failed-unpromoted DrainKind = refl

-- a turn that did nothing
rested-sound : {T E : Type 0} (old : CoreView T E) (kind : Kind) (back : Back) → IsCoreSound old → (flash_under old.hierarchy).on ≡ true
    → is_promotion_by kind back ≡ false → is_failed back ≡ false → IsCoreSound (rested old kind back)
rested-sound old kind back sound on none well =
    sound-over old old.history old.events (with_logged (turned_now old kind back) old.log) old.tally old.hierarchy sound on
    (record {
      parts = still-parts old.hierarchy;
      calls = refl;
      turns = refl;
      told = sound.told;
      later = later-looked old old.hierarchy sound.timed refl;
      counts = recounted-turned old kind back old.events old.tally old.hierarchy refl refl (omega arith) (rw none (omega arith)) well
          (counted-alike old sound) (runs-still old.hierarchy.device.store);
    })

idle-unpromoted : (kind : Kind) → is_promotion_by kind Idle ≡ false
idle-unpromoted PromoteKind = refl
idle-unpromoted EvictKind = refl
idle-unpromoted CollectKind = refl
idle-unpromoted DrainKind = refl

spent-unpromoted : (kind : Kind) → is_promotion_by kind Spent ≡ false
spent-unpromoted PromoteKind = refl
spent-unpromoted EvictKind = refl
spent-unpromoted CollectKind = refl
spent-unpromoted DrainKind = refl

-- a turn's action came to this
acted-sound : {T E : Type 0} (progress : Progress) (action : Action) (kind : Kind) (old : CoreView T E) (h : HierarchyView T E)
    → IsCoreSound old → (flash_under old.hierarchy).on ≡ true → old.events < last_event → Performs action old.hierarchy progress h
    → Runs progress old.hierarchy h → CountsTurn kind action progress old.tally
    → CountsAlike h.policy (tally_after action progress old.tally) → IsTold old.opening old.history.entries h.memory (lines_under h)
    → IsCoreSound (core_after action progress kind old h)
acted-sound (Did what) action kind old h sound on going is runs turns alike told =
    let counts = after-moves (Did what) action old.tally in
    let moves = counts.moves in
    sound-over old old.history (next_number old.events) (with_logged (turned_now old kind (back_of action (Did what))) old.log)
    (tally_after action (Did what) old.tally) h sound on
    (record {
      parts = performs-parts action old.hierarchy (Did what) h is;
      calls = refl;
      turns = refl;
      told = told;
      later = later-stepped old h sound.timed going runs.opened runs.one_more;
      counts = recounted-turned old kind (back_of action (Did what)) (next_number old.events)
          (tally_after action (Did what) old.tally) h counts.device counts.host (omega arith) turns refl alike runs;
    })
acted-sound Failed action kind old h sound on going is runs turns alike told =
    sound-over old old.history (next_number old.events) (with_logged (turned_now old kind (back_of action Failed)) old.log) old.tally h
    sound on
    (record {
      parts = performs-parts action old.hierarchy Failed h is;
      calls = refl;
      turns = refl;
      told = told;
      later = later-stepped old h sound.timed going runs.opened runs.one_more;
      counts = recounted-failed old kind (back_of action Failed) (next_number old.events) h (omega arith)
          (failed-unpromoted kind) refl alike runs;
    })
acted-sound Off action kind old h sound on going is runs turns alike told =
    sound-over old old.history old.events old.log old.tally h sound on
    (record {
      parts = performs-parts action old.hierarchy Off h is;
      calls = refl;
      turns = refl;
      told = told;
      later = later-cut old h sound.timed runs.opened runs.one_more runs.stops.0;
      counts = recounted-still old h alike (fails-cut old.hierarchy.device.store h.device.store runs);
    })

-- a turn by what it chose
chosen-sound : {T E : Type 0} (action : Option Action) (score : E → Bool → ℕ → ℕ) (kind : Kind) (old : CoreView T E) (back : Back)
    (new : CoreView T E) → IsCoreSound old → IsMemorySound old.hierarchy.memory → IsDevice (lines_under old.hierarchy)
    → (flash_under old.hierarchy).on ≡ true → old.events < last_event → IsChoice score kind old.hierarchy action
    → IsBackBy action kind old back new → IsCoreSound new
chosen-sound {T} {E} None score kind old back new sound memory device on going choice is =
    subst (λ (c : CoreView T E). IsCoreSound c) (sym is.1) (rested-sound old kind Idle sound on (idle-unpromoted kind) refl)
chosen-sound {T} {E} (Some action) score kind old back new sound memory device on going choice is =
    let runs = performs-runs action old.hierarchy is.progress new.hierarchy on is.performs in
    subst (λ (c : CoreView T E). IsCoreSound c) (sym is.core)
    (acted-sound is.progress action kind old new.hierarchy sound on going is.performs runs
    (chosen-turn kind action old.tally old.hierarchy is.progress new.hierarchy score choice is.performs)
    (performs-alike action old.tally old.hierarchy is.progress new.hierarchy is.performs (counted-alike old sound))
    (performs-tells old.opening old.history.entries action old.hierarchy is.progress new.hierarchy sound.told memory device
    runs.no_fall is.performs))

back-at-sound : {T E : Type 0} (spent : Bool) (score : E → Bool → ℕ → ℕ) (kind : Kind) (old : CoreView T E) (back : Back)
    (new : CoreView T E) → IsCoreSound old → IsMemorySound old.hierarchy.memory → IsDevice (lines_under old.hierarchy)
    → (flash_under old.hierarchy).on ≡ true → (old.events == last_event) ≡ spent → IsBackAt spent score kind old back new
    → IsCoreSound new
back-at-sound {T} {E} true score kind old back new sound memory device on last is =
    subst (λ (c : CoreView T E). IsCoreSound c) (sym is.1) (rested-sound old kind Spent sound on (spent-unpromoted kind) refl)
back-at-sound false score kind old back new sound memory device on last is =
    let other = eqb-false old.events last_event last in
    let not_past = sound.timed.not_past in
    chosen-sound is.action score kind old back new sound memory device on (omega arith) is.choice is.turn

back-sound-by : {T E : Type 0} (on : Bool) (score : E → Bool → ℕ → ℕ) (kind : Kind) (old : CoreView T E) (back : Back)
    (new : CoreView T E) → IsCoreSound old → IsMemorySound old.hierarchy.memory → IsDevice (lines_under old.hierarchy)
    → (flash_under old.hierarchy).on ≡ on → IsBack on score kind old back new → IsCoreSound new
back-sound-by {T} {E} false score kind old back new sound memory device on is =
    subst (λ (c : CoreView T E). IsCoreSound c) (sym is.1) sound
back-sound-by true score kind old back new sound memory device on is =
    back-at-sound (old.events == last_event) score kind old back new sound memory device on refl is

-- a background turn
pub back-sound : {T E : Type 0} (score : E → Bool → ℕ → ℕ) (kind : Kind) (old : CoreView T E) (back : Back) (new : CoreView T E)
    → IsCoreSound old → IsMemorySound old.hierarchy.memory → IsDevice (lines_under old.hierarchy)
    → IsBack (flash_under old.hierarchy).on score kind old back new → IsCoreSound new
back-sound score kind old back new sound memory device is =
    back-sound-by (flash_under old.hierarchy).on score kind old back new sound memory device refl is
