-- What a call makes of an open session.
use Rattle.std.proofs.Common.{◌≡◌, ◌<◌, ◌≤◌, ◌+◌, ℕ, true, false, List, [], ◌∷◌, ◌++◌, length, get_or, set, refl, sym, ap, ◌∙◌, subst, arith, length-append}
use Rattle.std.proofs.lemmas.List.{append-nil}
use Rattle.ff_base.specs.declared.geometry.Geometry.{Geometry}
use Rattle.ff_base.specs.declared.numbers.Caller.{Caller}
use Rattle.ff_core.specs.Core.{CoreView, spare_calls, with_entry}
use Rattle.ff_core.specs.CoreSound.{IsCoreSound}
use Rattle.ff_core.specs.Drives.{IsAnswered, IsDriven, SameSession, cut, most_events, served}
use Rattle.ff_core.specs.Hierarchy.{flash_under}
use Rattle.ff_core.specs.Log.{LogView}
use Rattle.ff_core.specs.Powered.{GoesOffByCut}
use Rattle.ff_core.specs.declared.log.Turned.{Turned}
use Rattle.ff_core.specs.declared.turn.Driven.{Driven}
use Rattle.ff_core.specs.declared.turn.Driven.TheVariants.{Off, Served}
use Rattle.ff_model.specs.History.{Entries}
use Rattle.ff_model.specs.declared.history.Entry.{Entry}
use Rattle.ff_model.specs.declared.op.Op.{Op}
use Rattle.ff_model.specs.declared.op.Op.TheVariants.{Load, Store, Verify, Mark, Release}
use Rattle.ff_model.specs.declared.op.Reply.{Reply}
use Rattle.ff_sessions.specs.Age.{RisesBy, age_of, most_per_item}
use Rattle.ff_sessions.specs.Items.{IsWork, call}
use Rattle.ff_sessions.specs.Making.{AreNext, DidItems, HasDone, IsOpen}
use Rattle.ff_sessions.specs.RowStops.{IsCutIn}
use Rattle.ff_sessions.proofs.Making.{cut_first}
use Rattle.ff_sessions.proofs.Numbers.{next_more, numbered_more}
use Rattle.ff_sessions.proofs.Work.{work_append}

-- the history has one more entry, of this call, and the power is on
record HasEntry {T E : Type 0} (old : CoreView T E) (caller : Caller) (number : ℕ) (op : Op) (new : CoreView T E) : Type 0 where
  entry : Entry
  by : entry.caller ≡ caller
  at : entry.number ≡ number
  op_is : entry.op ≡ op
  history : new.history ≡ with_entry entry old.history
  on : (flash_under new.hierarchy).on ≡ true

entry_of : {T E : Type 0} (old : CoreView T E) (caller : Caller) (number : ℕ) (op : Op) (reply : Reply) (new : CoreView T E)
    → IsAnswered old caller number op (Served reply) new → HasEntry old caller number op new
entry_of old caller number op reply new (served other event faults is history on) = record {
  entry = record { event = event; caller = caller; number = number; op = op; reply = other; faults = faults };
  by = refl;
  at = refl;
  op_is = refl;
  history = history;
  on = on;
}
entry_of old caller number op reply new (cut is same off) = absurd (cc)

called_on : {T E : Type 0} (old : CoreView T E) (caller : Caller) (number : ℕ) (op : Op) (new : CoreView T E) → 0 < spare_calls old
    → SameSession old new → new.log ≡ old.log → HasEntry old caller number op new → DidItems old new (call caller op ∷ [])
called_on old caller number op new spare same log has =
    let entries : new.history.entries ≡ old.history.entries ++ has.entry ∷ [] = ap (λ (h : Entries). h.entries) has.history in
    let turns : new.log.turns ≡ old.log.turns = ap (λ (l : LogView). l.turns) log in
    let size = ap length entries in
    let more = length-append old.history.entries (has.entry ∷ []) in
    let room = same.room in
    let turns_room = same.turns_room in
    let logged = ap length turns in
    record {
      same = same;
      work = λ before work. rw (entries, turns)
          (subst (λ (ts : List Turned). IsWork 0 (old.history.entries ++ has.entry ∷ []) ts (before ++ call caller op ∷ []))
          (append-nil old.log.turns)
          (work_append 0 old.history.entries old.log.turns before (has.entry ∷ []) [] (call caller op ∷ []) work
          (has.by, has.op_is, (refl, refl))));
      calls = omega arith;
      turns = omega arith;
    }

-- a call takes few events
few_events : (geometry : Geometry) (op : Op) → geometry.per_block ≤ 256 → most_events geometry op ≤ most_per_item
few_events geometry (Load at len) few = omega arith
few_events geometry (Store at bytes) few = omega arith
few_events geometry (Mark page from count) few = omega arith
few_events geometry Verify few = omega arith
few_events geometry (Release page from count) few = omega arith

few_per_block : {T E : Type 0} (core : CoreView T E) → IsCoreSound core → core.geometry.per_block ≤ 256
few_per_block core sound = sound.sized.limits.per_block.high

call_rise : {T E : Type 0} (old : CoreView T E) (caller : Caller) (number : ℕ) (op : Op) (driven : Driven) (new : CoreView T E)
    → IsCoreSound old → IsDriven old caller number op driven new → RisesBy (age_of old) (age_of new) 1
call_rise old caller number op driven new sound drives =
    let few = few_events old.geometry op (few_per_block old sound) in
    let made = drives.events in
    let high = drives.operations in
    record { no_fall = drives.no_fall; events = omega arith; operations = omega arith }

-- a call was answered
pub went_call : {T E : Type 0} (old : CoreView T E) (numbers : List ℕ) (caller : Caller) (number : ℕ) (op : Op) (reply : Reply)
    (new : CoreView T E) → IsCoreSound old → IsOpen old numbers → caller.0 < 64 → number ≡ get_or numbers caller.0 0
    → 0 < spare_calls old → IsDriven old caller number op (Served reply) new
    → HasDone old new (set numbers caller.0 (get_or numbers caller.0 0 + 1)) (call caller op ∷ [])
went_call old numbers caller number op reply new sound opened cursor is spare drives =
    let has = entry_of old caller number op reply new drives.answer in
    let entries : new.history.entries ≡ old.history.entries ++ has.entry ∷ [] = ap (λ (h : Entries). h.entries) has.history in
    let by = ap (λ (c : Caller). c.0) has.by in
    let within : has.entry.caller.0 < 64 = omega arith in
    let due : has.entry.number ≡ get_or numbers has.entry.caller.0 0 =
    has.at ∙ is ∙ ap (λ (n : ℕ). get_or numbers n 0) (sym by) in
    record {
      opened = record {
        on = has.on;
        numbered = λ k. rw entries (numbered_more old.history.entries has.entry numbers opened.numbered opened.next within due k);
        next = subst (λ (es : List Entry). AreNext (set numbers caller.0 (get_or numbers caller.0 0 + 1)) es) (sym entries)
            (subst (λ (k : ℕ). AreNext (set numbers k (get_or numbers k 0 + 1)) (old.history.entries ++ has.entry ∷ [])) by
            (next_more old.history.entries has.entry numbers opened.next within));
      };
      did = called_on old caller number op new spare drives.same drives.log has;
      rise = call_rise old caller number op (Served reply) new sound drives;
    }

-- the power went off in a call
record IsUnanswered {T E : Type 0} (old new : CoreView T E) : Type 0 where
  history : new.history ≡ old.history
  off : (flash_under new.hierarchy).on ≡ false

unanswered : {T E : Type 0} (old : CoreView T E) (caller : Caller) (number : ℕ) (op : Op) (new : CoreView T E)
    → IsAnswered old caller number op Off new → IsUnanswered old new
unanswered old caller number op new (served reply event faults is history on) = absurd (cc)
unanswered old caller number op new (cut is same off) = record { history = same; off = off }

-- a call was cut
pub cut_call : {T E : Type 0} (old : CoreView T E) (numbers : List ℕ) (caller : Caller) (number : ℕ) (op : Op) (new : CoreView T E)
    → IsCoreSound old → IsOpen old numbers → IsDriven old caller number op Off new
    → GoesOffByCut (flash_under old.hierarchy) (flash_under new.hierarchy) → IsCutIn old new (call caller op ∷ []) (call caller op ∷ [])
cut_call old numbers caller number op new sound opened drives goes =
    let left = unanswered old caller number op new drives.answer in
    record {
      done = [];
      split = refl;
      cut = cut_first old numbers new opened drives.same left.history drives.log
          (call_rise old caller number op Off new sound drives) (goes opened.on left.off);
      begin = tt;
    }
