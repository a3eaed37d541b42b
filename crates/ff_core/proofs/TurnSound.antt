-- A core stays sound after one event of a call.
use Rattle.std.proofs.Common.{◌≡◌, ◌<◌, ◌==◌, ℕ, Bool, true, false, not, None, Some, if◌then◌else◌, refl, sym, subst, arith}
use Rattle.std.proofs.lemmas.Bool.{eqb-false, eqb-true}
use Rattle.ff_base.specs.Count.{last_event}
use Rattle.ff_base.specs.declared.numbers.Caller.{Caller}
use Rattle.ff_calls.specs.Told.{IsTold}
use Rattle.ff_calls.proofs.ToldAnswered.{IsAnswered, told-range, told-spent}
use Rattle.ff_calls.proofs.ToldServed.{told-served}
use Rattle.ff_lines.specs.DeviceState.{IsDevice}
use Rattle.ff_memory.specs.Memory.{IsMemorySound}
use Rattle.ff_memory.specs.declared.access.Access.TheVariants.{Served as AccessServed}
use Rattle.ff_model.specs.Spans.{is_in_range}
use Rattle.ff_model.specs.declared.history.Entry.{Entry}
use Rattle.ff_model.specs.declared.op.Op.{Op}
use Rattle.ff_model.specs.declared.op.Op.TheVariants.{Load, Store, Verify, Mark, Release}
use Rattle.ff_model.specs.declared.op.Reply.{Reply}
use Rattle.ff_model.specs.declared.op.Reply.TheVariants.{Range, Spent}
use Rattle.ff_policy.specs.Policy.{PolicyView}
use Rattle.ff_core.specs.Core.{CoreView, entry_now, next_number, with_entry}
use Rattle.ff_core.specs.CoreSound.{IsCoreSound, IsTimed, is_fault, is_served_op}
use Rattle.ff_core.specs.Hierarchy.{HierarchyView, flash_under, lines_under}
use Rattle.ff_core.specs.Serving.{page_asked}
use Rattle.ff_core.specs.EventTally.{served_by}
use Rattle.ff_core.specs.Turns.{IsAttempt, IsServed, IsTurn, IsTurnBy, answered, misses, serves}
use Rattle.ff_core.specs.declared.turn.Turn.{Turn}
use Rattle.ff_core.proofs.MissSound.{miss-sound}
use Rattle.ff_core.proofs.Recounting.{recounted-answered}
use Rattle.ff_core.proofs.Sides.{access-sided, is_side, served-side}
use Rattle.ff_core.proofs.Sizes.{KeepsParts, access-parts, counted-counters}
use Rattle.ff_core.proofs.SoundOver.{counted-alike, sound-over, still-parts}
use Rattle.ff_core.proofs.Tallied.{served-alike}
use Rattle.ff_core.proofs.Timing.{later-answered}

-- a call is answered now
now-answered : {T E : Type 0} (core : CoreView T E) (caller : Caller) (number : ℕ) (op : Op) (reply : Reply) → IsTimed core
    → IsAnswered core.opening core.history.entries (lines_under core.hierarchy)
    (entry_now core caller number op reply (flash_under core.hierarchy).faults)
now-answered core caller number op reply timed = record { later = timed.next; not_past = timed.not_past; faults = refl }

-- a call was refused at once
refused-sound : {T E : Type 0} (old : CoreView T E) (caller : Caller) (number : ℕ) (op : Op) (reply : Reply) → IsCoreSound old
    → (flash_under old.hierarchy).on ≡ true → is_served_op op reply ≡ false → is_fault reply ≡ false
    → IsTold old.opening
    (with_entry (entry_now old caller number op reply (flash_under old.hierarchy).faults) old.history).entries old.hierarchy.memory
    (lines_under old.hierarchy)
    → IsCoreSound (answered old caller number op reply)
refused-sound old caller number op reply sound on unserved well told =
    let faults : ℕ = (flash_under old.hierarchy).faults in
    let not_past = sound.timed.not_past in
    sound-over old (with_entry (entry_now old caller number op reply faults) old.history) (next_number old.events) old.log old.tally
    old.hierarchy sound on
    (record {
      parts = still-parts old.hierarchy;
      calls = refl;
      turns = refl;
      told = told;
      later = later-answered old caller number op reply faults old.hierarchy sound.timed refl;
      counts = recounted-answered old caller number op reply faults false (next_number old.events) old.tally old.hierarchy unserved
          well (record { served = omega arith; promoted = refl; moves = refl }) (counted-alike old sound) (omega arith) refl;
    })

range-unserved : (op : Op) → is_served_op op Range ≡ false
range-unserved (Load at len) = refl
range-unserved (Store at bytes) = refl
range-unserved Verify = refl
range-unserved (Mark page from count) = refl
range-unserved (Release page from count) = refl

spent-unserved : (op : Op) → is_served_op op Spent ≡ false
spent-unserved (Load at len) = refl
spent-unserved (Store at bytes) = refl
spent-unserved Verify = refl
spent-unserved (Mark page from count) = refl
spent-unserved (Release page from count) = refl

-- a call was served
served-sound : {T E : Type 0} (answers : T → ℕ → ℕ → ℕ → ℕ → Type 0) (old : CoreView T E) (caller : Caller) (number : ℕ) (op : Op)
    (reply : Reply) (new : CoreView T E) → IsCoreSound old → IsMemorySound old.hierarchy.memory
    → IsDevice (lines_under old.hierarchy) → (flash_under old.hierarchy).on ≡ true → is_in_range old.opening.pages op ≡ true
    → old.events < last_event → IsServed answers old caller number op reply new → IsCoreSound new
served-sound {T} {E} answers old caller number op reply new sound memory device on range going is =
    let faults : ℕ = (flash_under old.hierarchy).faults in
    let entry : Entry = entry_now old caller number op reply faults in
    let served : HierarchyView T E = is.between in
    let policy : PolicyView T = new.hierarchy.policy in
    let after : HierarchyView T E = record served { policy = policy } in
    let asked = access-parts op _ old.hierarchy (AccessServed reply is.side) served is.access in
    let sided = access-sided op _ reply is.side old.hierarchy.memory (lines_under old.hierarchy) served.memory (lines_under served)
    is.access.accesses in
    let counts = served-side is.side old.tally in
    let parts : KeepsParts old.hierarchy after = record {
      sizes = asked.sizes;
      shape = asked.shape;
      counters = counted-counters is.side (page_asked op) answers old.hierarchy.policy policy is.policy;
      hand = asked.hand;
    } in
    subst (λ (c : CoreView T E). IsCoreSound c) (sym is.core)
    (sound-over old (with_entry entry old.history) (next_number old.events) old.log (served_by is.side old.tally) after sound on
    (record {
      parts = parts;
      calls = refl;
      turns = refl;
      told = told-served old.opening old.history.entries entry is.side old.hierarchy.memory (lines_under old.hierarchy) served.memory
          (lines_under served)
          (record {
            told = sound.told;
            sound = memory;
            device = device;
            now = now-answered old caller number op reply sound.timed;
            within = range;
            going = going;
          })
          is.access.accesses is.access.located is.access.lines;
      later = later-answered old caller number op reply faults after sound.timed is.access.store;
      counts = recounted-answered old caller number op reply faults (is_side is.side) (next_number old.events)
          (served_by is.side old.tally) after sided.counts sided.well
          (record { served = counts.served; promoted = counts.promoted; moves = counts.moves })
          (served-alike is.side (page_asked op) answers old.hierarchy.policy policy old.tally is.policy (counted-alike old sound))
          (omega arith) is.access.store;
    }))

attempt-sound : {T E : Type 0} (answers : T → ℕ → ℕ → ℕ → ℕ → Type 0) (old : CoreView T E) (caller : Caller) (number : ℕ) (op : Op)
    (turn : Turn) (new : CoreView T E) → IsCoreSound old → IsMemorySound old.hierarchy.memory → IsDevice (lines_under old.hierarchy)
    → (flash_under old.hierarchy).on ≡ true → is_in_range old.opening.pages op ≡ true → old.events < last_event
    → IsAttempt answers old caller number op turn new → IsCoreSound new
attempt-sound answers old caller number op turn new sound memory device on range going (serves reply is serving) =
    served-sound answers old caller number op reply new sound memory device on range going serving
attempt-sound answers old caller number op turn new sound memory device on range going (misses missing) =
    miss-sound old caller number op turn new sound memory device on range going missing

-- a call by whether it is in range, and by whether the last event is reached
asked-sound : {T E : Type 0} (within spent : Bool) (answers : T → ℕ → ℕ → ℕ → ℕ → Type 0) (old : CoreView T E) (caller : Caller)
    (number : ℕ) (op : Op) (turn : Turn) (new : CoreView T E) → IsCoreSound old → IsMemorySound old.hierarchy.memory
    → IsDevice (lines_under old.hierarchy) → (flash_under old.hierarchy).on ≡ true → is_in_range old.opening.pages op ≡ within
    → (old.events == last_event) ≡ spent
    → IsTurnBy (if not within then Some Range else if spent then Some Spent else None) answers old caller number op turn new
    → IsCoreSound new
asked-sound {T} {E} false spent answers old caller number op turn new sound memory device on range last is =
    subst (λ (c : CoreView T E). IsCoreSound c) (sym is.1)
    (refused-sound old caller number op Range sound on (range-unserved op) refl
    (told-range old.opening old.history.entries _ old.hierarchy.memory (lines_under old.hierarchy) sound.told
    (now-answered old caller number op Range sound.timed) refl range))
asked-sound {T} {E} true true answers old caller number op turn new sound memory device on range last is =
    subst (λ (c : CoreView T E). IsCoreSound c) (sym is.1)
    (refused-sound old caller number op Spent sound on (spent-unserved op) refl
    (told-spent old.opening old.history.entries _ old.hierarchy.memory (lines_under old.hierarchy) sound.told
    (now-answered old caller number op Spent sound.timed) refl range (eqb-true old.events last_event last)))
asked-sound true false answers old caller number op turn new sound memory device on range last is =
    let other = eqb-false old.events last_event last in
    let not_past = sound.timed.not_past in
    attempt-sound answers old caller number op turn new sound memory device on range (omega arith) is

turn-sound-by : {T E : Type 0} (on : Bool) (answers : T → ℕ → ℕ → ℕ → ℕ → Type 0) (old : CoreView T E) (caller : Caller) (number : ℕ)
    (op : Op) (turn : Turn) (new : CoreView T E) → IsCoreSound old → IsMemorySound old.hierarchy.memory
    → IsDevice (lines_under old.hierarchy) → (flash_under old.hierarchy).on ≡ on → IsTurn on answers old caller number op turn new
    → IsCoreSound new
turn-sound-by {T} {E} false answers old caller number op turn new sound memory device on is =
    subst (λ (c : CoreView T E). IsCoreSound c) (sym is.1) sound
turn-sound-by true answers old caller number op turn new sound memory device on is =
    asked-sound (is_in_range old.opening.pages op) (old.events == last_event) answers old caller number op turn new sound memory device
    on refl refl is

-- one event of a call
pub turn-sound : {T E : Type 0} (answers : T → ℕ → ℕ → ℕ → ℕ → Type 0) (old : CoreView T E) (caller : Caller) (number : ℕ) (op : Op)
    (turn : Turn) (new : CoreView T E) → IsCoreSound old → IsMemorySound old.hierarchy.memory → IsDevice (lines_under old.hierarchy)
    → IsTurn (flash_under old.hierarchy).on answers old caller number op turn new → IsCoreSound new
turn-sound answers old caller number op turn new sound memory device is =
    turn-sound-by (flash_under old.hierarchy).on answers old caller number op turn new sound memory device refl is
