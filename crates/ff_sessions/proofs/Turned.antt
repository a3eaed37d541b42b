-- What the background turns of a row make of an open session.
use Rattle.std.proofs.Common.{◌≡◌, ◌⊎◌, ◌<◌, ◌≤◌, ◌+◌, ◌-◌, ℕ, zero, suc, true, inl, inr, List, [], ◌∷◌, ◌++◌, length, refl, sym, ap, ◌∙◌, subst, arith, length-append}
use Rattle.std.specs.Prelude.{replicate}
use Rattle.std.proofs.lemmas.List.{append-nil, replicate-append-replicate}
use Rattle.ff_core.specs.BackEvents.{IsBackEvent, IsLogged}
use Rattle.ff_core.specs.Backs.{turned_now, with_logged}
use Rattle.ff_core.specs.Core.{CoreView, spare_turns}
use Rattle.ff_core.specs.Hierarchy.{flash_under}
use Rattle.ff_core.specs.Log.{LogView}
use Rattle.ff_core.specs.Powered.{GoesOffByCut}
use Rattle.ff_core.specs.declared.log.Back.{Back}
use Rattle.ff_core.specs.declared.log.Back.TheVariants.{Did, Idle, Failed, Off, Spent}
use Rattle.ff_memory.specs.declared.access.What.{What}
use Rattle.ff_model.specs.History.{Entries}
use Rattle.ff_model.specs.declared.counts.Kind.{Kind}
use Rattle.ff_model.specs.declared.history.Entry.{Entry}
use Rattle.ff_sessions.specs.Age.{RisesBy, age_of}
use Rattle.ff_sessions.specs.Items.{BeginWithWork, IsWork, Item, turn}
use Rattle.ff_sessions.specs.Making.{HasDone, IsCutBehind, IsOpen}
use Rattle.ff_sessions.specs.RowStops.{IsCutIn}
use Rattle.ff_sessions.proofs.Making.{cut_first, cut_then, went_none, went_then}
use Rattle.ff_sessions.proofs.Work.{work_append}

turn_rise : {T E : Type 0} (old : CoreView T E) (kind : Kind) (back : Back) (new : CoreView T E) → IsBackEvent old kind back new
    → RisesBy (age_of old) (age_of new) 1
turn_rise old kind back new event =
    let made = event.events in
    let high = event.one_more in
    record { no_fall = event.no_fall; events = omega arith; operations = omega arith }

-- the log has the turn, and the power is on
record HasTurn {T E : Type 0} (old : CoreView T E) (kind : Kind) (back : Back) (new : CoreView T E) : Type 0 where
  log : new.log ≡ with_logged (turned_now old kind back) old.log
  on : (flash_under new.hierarchy).on ≡ true

turn_of : {T E : Type 0} (old : CoreView T E) (kind : Kind) (back : Back) (new : CoreView T E) → (back ≡ Off → ⊥)
    → IsLogged old kind back new → HasTurn old kind back new
turn_of old kind (Did what) new other logged = record { log = logged.0; on = logged.1 }
turn_of old kind Idle new other logged = record { log = logged.0; on = logged.1 }
turn_of old kind Failed new other logged = record { log = logged.0; on = logged.1 }
turn_of old kind Spent new other logged = record { log = logged.0; on = logged.1 }
turn_of old kind Off new other logged = absurd (other refl)

-- a turn was made
pub went_turn : {T E : Type 0} (old : CoreView T E) (numbers : List ℕ) (kind : Kind) (back : Back) (new : CoreView T E)
    → (back ≡ Off → ⊥) → IsOpen old numbers → 0 < spare_turns old → IsBackEvent old kind back new
    → HasDone old new numbers (turn kind ∷ [])
went_turn old numbers kind back new other opened spare event =
    let has = turn_of old kind back new other event.logged in
    let turned = turned_now old kind back in
    let turns : new.log.turns ≡ old.log.turns ++ turned ∷ [] = ap (λ (l : LogView). l.turns) has.log in
    let entries : new.history.entries ≡ old.history.entries = ap (λ (h : Entries). h.entries) event.history in
    let size = ap length turns in
    let more = length-append old.log.turns (turned ∷ []) in
    let called = ap length entries in
    let room = event.same.room in
    let turns_room = event.same.turns_room in
    record {
      opened = record {
        on = has.on;
        numbered = λ k. rw entries (opened.numbered k);
        next = rw entries opened.next;
      };
      did = record {
        same = event.same;
        work = λ before work. rw (entries, turns)
            (subst (λ (es : List Entry). IsWork 0 es (old.log.turns ++ turned ∷ []) (before ++ turn kind ∷ []))
            (append-nil old.history.entries)
            (work_append 0 old.history.entries old.log.turns before [] (turned ∷ []) (turn kind ∷ []) work
            (refl, omega arith, (refl, refl))));
        calls = omega arith;
        turns = omega arith;
      };
      rise = turn_rise old kind back new event;
    }

-- one more turn of a row, of which so many are made by then
pub went_turns : {T E : Type 0} (a b c : CoreView T E) (numbers : List ℕ) (kind : Kind) (back : Back) (count more : ℕ)
    → count + 1 ≡ more → (back ≡ Off → ⊥) → HasDone a b numbers (replicate count (turn kind)) → 0 < spare_turns b
    → IsBackEvent b kind back c → HasDone a c numbers (replicate more (turn kind))
went_turns a b c numbers kind back count more is other first spare event =
    subst (λ (n : ℕ). HasDone a c numbers (replicate n (turn kind))) is
    (subst (λ (items : List Item). HasDone a c numbers items) (replicate-append-replicate count 1 (turn kind))
    (went_then a b c numbers numbers (replicate count (turn kind)) (turn kind ∷ []) first
    (went_turn b numbers kind back c other first.opened spare event)))

-- no turn was made
pub turns_none : {T E : Type 0} (core : CoreView T E) (numbers : List ℕ) (kind : Kind) (made : ℕ) → IsOpen core numbers
    → HasDone core core numbers (replicate (made - made) (turn kind))
turns_none core numbers kind made opened =
    let none : 0 ≡ made - made = omega arith in
    subst (λ (n : ℕ). HasDone core core numbers (replicate n (turn kind))) none (went_none core numbers opened)

-- each answer but that the power is off
pub not_off : (back : Back) → ((what : What) × (back ≡ Did what)) ⊎ ((back ≡ Idle) ⊎ ((back ≡ Failed) ⊎ (back ≡ Spent)))
    → back ≡ Off → ⊥
not_off back (inl did) off = let both : Did did.0 ≡ Off = sym did.1 ∙ off in cc
not_off back (inr (inl idle)) off = let both : Idle ≡ Off = sym idle ∙ off in cc
not_off back (inr (inr (inl failed))) off = let both : Failed ≡ Off = sym failed ∙ off in cc
not_off back (inr (inr (inr spent))) off = let both : Spent ≡ Off = sym spent ∙ off in cc

begin_turns : (count : ℕ) (kind : Kind) → 0 < count → BeginWithWork (replicate count (turn kind))
begin_turns zero kind some = absurd (omega arith)
begin_turns (suc count) kind some = tt

-- a turn of a row was cut, behind so many
pub cut_turns : {T E : Type 0} (a b c : CoreView T E) (numbers : List ℕ) (kind : Kind) (count made at : ℕ) → made ≤ at → at < count
    → HasDone a b numbers (replicate (at - made) (turn kind)) → IsBackEvent b kind Off c
    → GoesOffByCut (flash_under b.hierarchy) (flash_under c.hierarchy)
    → IsCutIn a c (replicate (count - made) (turn kind)) (replicate (count - at) (turn kind))
cut_turns a b c numbers kind count made at from within first event goes =
    let both : (at - made) + (count - at) ≡ count - made = omega arith in
    let cut = cut_first b numbers c first.opened event.same event.history event.logged.0 (turn_rise b kind Off c event)
    (goes first.opened.on event.logged.1) in
    record {
      done = replicate (at - made) (turn kind);
      split = sym (replicate-append-replicate (at - made) (count - at) (turn kind) ∙ ap (λ (n : ℕ). replicate n (turn kind)) both);
      cut = subst (λ (items : List Item). IsCutBehind a c items) (append-nil (replicate (at - made) (turn kind)))
          (cut_then a b c numbers (replicate (at - made) (turn kind)) [] first cut);
      begin = begin_turns (count - at) kind (omega arith);
    }
