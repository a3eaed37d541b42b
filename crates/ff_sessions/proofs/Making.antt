-- What a call, a turn and several of them make of an open session.
use Rattle.std.proofs.Common.{◌≡◌, ◌<◌, ◌≤◌, ◌+◌, ◌-◌, ℕ, List, [], ◌++◌, length, refl, ap, subst, arith, append_assoc, length-append}
use Rattle.std.specs.Prelude.{replicate}
use Rattle.std.proofs.lemmas.List.{append-nil}
use Rattle.ff_core.specs.Core.{CoreView, spare_calls, spare_turns}
use Rattle.ff_core.specs.Drives.{SameSession}
use Rattle.ff_core.specs.Hierarchy.{flash_under}
use Rattle.ff_core.specs.Log.{LogView}
use Rattle.ff_core.specs.Powered.{IsCutOff}
use Rattle.ff_core.proofs.Driving.{session_more}
use Rattle.ff_core.proofs.MissRuns.{store_same}
use Rattle.ff_model.specs.History.{Entries}
use Rattle.ff_model.specs.declared.counts.Kind.{Kind}
use Rattle.ff_sessions.specs.Age.{Age, RisesBy, age_of}
use Rattle.ff_sessions.specs.Items.{IsWork, Item, turn}
use Rattle.ff_sessions.specs.Making.{DidItems, HasDone, HasRoomFor, IsCutBehind, IsOpen, is_call, is_turn}
use Rattle.ff_sessions.proofs.Work.{count_append, turns_counted}

pub session_same : {T E : Type 0} (core : CoreView T E) → SameSession core core
session_same core = record {
  opening = refl;
  geometry = refl;
  from_counts = refl;
  room = refl;
  turns_room = refl;
  floor = refl;
  picker = refl;
  store = store_same core.hierarchy.device.store;
}

pub rise_then : (a b c : Age) (m n k : ℕ) → RisesBy a b m → RisesBy b c n → m + n ≤ k → RisesBy a c k
rise_then a b c m n k first second all =
    let low = first.no_fall in
    let lower = second.no_fall in
    let made = first.events in
    let made_then = second.events in
    let high = first.operations in
    let higher = second.operations in
    record { no_fall = omega arith; events = omega arith; operations = omega arith }

-- nothing was done
did_none : {T E : Type 0} (core : CoreView T E) → DidItems core core []
did_none core = record {
  same = session_same core;
  work = λ before work. rw (append-nil before) work;
  calls = omega arith;
  turns = omega arith;
}

pub went_none : {T E : Type 0} (core : CoreView T E) (numbers : List ℕ) → IsOpen core numbers → HasDone core core numbers []
went_none core numbers opened =
    record { opened = opened; did = did_none core; rise = record { no_fall = omega arith; events = omega arith; operations = omega arith } }

-- a cut came in front of the first item
pub cut_first : {T E : Type 0} (old : CoreView T E) (numbers : List ℕ) (new : CoreView T E) → IsOpen old numbers
    → SameSession old new → new.history ≡ old.history → new.log ≡ old.log
    → RisesBy (age_of old) (age_of new) 1
    → IsCutOff (flash_under old.hierarchy) (flash_under new.hierarchy) → IsCutBehind old new []
cut_first old numbers new opened same history log rise cut =
    let entries : new.history.entries ≡ old.history.entries = ap (λ (h : Entries). h.entries) history in
    let turns : new.log.turns ≡ old.log.turns = ap (λ (l : LogView). l.turns) log in
    let called : spare_calls new ≡ spare_calls old = ap (λ (h : Entries). h.room - length h.entries) history in
    let turned : spare_turns new ≡ spare_turns old = ap (λ (l : LogView). l.room - length l.turns) log in
    record {
      did = record {
        same = same;
        work = λ before work. rw (entries, turns, append-nil before) work;
        calls = omega arith;
        turns = omega arith;
      };
      numbered = λ caller. rw entries (opened.numbered caller);
      rise = rise;
      cut = cut;
    }

-- some items were done, and then others
did_then : {T E : Type 0} (a b c : CoreView T E) (xs ys : List Item) → DidItems a b xs → DidItems b c ys → DidItems a c (xs ++ ys)
did_then a b c xs ys first second =
    let calls = count_append is_call xs ys in
    let turns = count_append is_turn xs ys in
    let called = first.calls in
    let called_then = second.calls in
    let turned = first.turns in
    let turned_then = second.turns in
    record {
      same = session_more a b c first.same second.same;
      work = λ before work. subst (λ (items : List Item). IsWork 0 c.history.entries c.log.turns items) (append_assoc before xs ys)
          (second.work (before ++ xs) (first.work before work));
      calls = omega arith;
      turns = omega arith;
    }

pub went_then : {T E : Type 0} (a b c : CoreView T E) (m n : List ℕ) (xs ys : List Item) → HasDone a b m xs → HasDone b c n ys
    → HasDone a c n (xs ++ ys)
went_then a b c m n xs ys first second =
    let size = length-append xs ys in
    record {
      opened = second.opened;
      did = did_then a b c xs ys first.did second.did;
      rise = rise_then (age_of a) (age_of b) (age_of c) (length xs) (length ys)
          (length (xs ++ ys)) first.rise second.rise (omega arith);
    }

-- some items were done, and then a cut came behind others
pub cut_then : {T E : Type 0} (a b c : CoreView T E) (m : List ℕ) (xs ys : List Item) → HasDone a b m xs → IsCutBehind b c ys
    → IsCutBehind a c (xs ++ ys)
cut_then a b c m xs ys first second =
    let size = length-append xs ys in
    let low = first.rise.no_fall in
    let counted = second.cut.counted in
    record {
      did = did_then a b c xs ys first.did second.did;
      numbered = second.numbered;
      rise = rise_then (age_of a) (age_of b) (age_of c) (length xs) (length ys + 1)
          (length (xs ++ ys) + 1) first.rise second.rise (omega arith);
      cut = record { cut = second.cut.cut; counted = omega arith };
    }

-- there is room for one turn more
pub spare_turn : {T E : Type 0} (a b : CoreView T E) (numbers : List ℕ) (kind : Kind) (so_far count : ℕ) → so_far < count
    → HasRoomFor a (replicate count (turn kind)) → HasDone a b numbers (replicate so_far (turn kind)) → 0 < spare_turns b
spare_turn a b numbers kind so_far count more room went =
    let asked = turns_counted count kind in
    let done = turns_counted so_far kind in
    let fits = room.turns in
    let left = went.did.turns in
    omega arith

-- there is room for the items that are left
pub room_left : {T E : Type 0} (a b : CoreView T E) (numbers : List ℕ) (xs ys : List Item) → HasRoomFor a (xs ++ ys)
    → HasDone a b numbers xs → HasRoomFor b ys
room_left a b numbers xs ys room went =
    let calls = count_append is_call xs ys in
    let turns = count_append is_turn xs ys in
    let called = went.did.calls in
    let turned = went.did.turns in
    let fits = room.calls in
    let fits_too = room.turns in
    record { calls = omega arith; turns = omega arith }

-- and for the first of them
pub room_front : {T E : Type 0} (core : CoreView T E) (xs ys : List Item) → HasRoomFor core (xs ++ ys) → HasRoomFor core xs
room_front core xs ys room =
    let calls = count_append is_call xs ys in
    let turns = count_append is_turn xs ys in
    let fits = room.calls in
    let fits_too = room.turns in
    record { calls = omega arith; turns = omega arith }
