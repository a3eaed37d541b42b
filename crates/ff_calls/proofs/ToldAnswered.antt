-- What a history says once a call was answered that stores and marks nothing: one that was refused, met a fault, or loaded.
use Rattle.std.proofs.Common.{◌≡◌, ◌≤◌, ◌<◌, inl, inr, ℕ, ◌==◌, Bool, true, false, List, [], ◌∷◌, ◌++◌, refl, sym, ap, ◌∙◌, arith}
use Rattle.std.specs.Prelude.{◌||◌}
use Rattle.std.proofs.lemmas.Bool.{eq-eqb, ne_eqb}
use Rattle.ff_base.specs.Count.{last_event}
use Rattle.ff_kept.proofs.KeepingAnswered.{keeping-undone}
use Rattle.ff_lines.specs.DeviceState.{DeviceState, IsDevice}
use Rattle.ff_memory.specs.Memory.{IsMemorySound, MemoryView}
use Rattle.ff_memory.specs.LineBytes.{byte_of}
use Rattle.ff_model.specs.Flat.{bears, flat_byte_of, is_born, is_done}
use Rattle.ff_model.specs.Legal.{MayFollow, Opening, due_reply, faults_after, is_refused, is_served, may_fault, next_event, served_reply}
use Rattle.ff_model.specs.Spans.{is_in_range}
use Rattle.ff_model.specs.declared.history.Entry.{Entry}
use Rattle.ff_model.specs.declared.op.Op.{Op}
use Rattle.ff_model.specs.declared.op.Op.TheVariants.{Load, Store, Verify, Mark, Release}
use Rattle.ff_model.specs.declared.op.Reply.TheVariants.{Range, Spent, Fault}
use Rattle.ff_model.proofs.Appended.{faults_after-append, flat-append, is_born-append, legal-append}
use Rattle.ff_model.proofs.AppendedCalls.{is_marked-append}
use Rattle.ff_calls.specs.Told.{IsTold}

-- a call is answered now: at an event that the history allows, with the faults that the device counts
pub record IsAnswered (opening : Opening) (entries : List Entry) (d : DeviceState) (entry : Entry) : Type 0 where
  pub later : next_event opening entries ≤ entry.event
  pub not_past : entry.event ≤ last_event
  pub faults : entry.faults ≡ d.faults

-- a call in range is answered now, before the last event
pub record IsCalled (opening : Opening) (entries : List Entry) (m : MemoryView) (d : DeviceState) (entry : Entry) : Type 0 where
  pub told : IsTold opening entries m d
  pub sound : IsMemorySound m
  pub device : IsDevice d
  pub now : IsAnswered opening entries d entry
  pub within : is_in_range opening.pages entry.op ≡ true
  pub going : entry.event < last_event

-- the same of its kind
pub within-op : (opening : Opening) (entries : List Entry) (m : MemoryView) (d : DeviceState) (entry : Entry) (op : Op)
    → IsCalled opening entries m d entry → entry.op ≡ op → is_in_range opening.pages op ≡ true
within-op opening entries m d entry op called is = ap (λ (o : Op). is_in_range opening.pages o) (sym is) ∙ called.within

or_false : (b : Bool) → b ≡ (b || false)
or_false true = refl
or_false false = refl

-- an entry that bears no page leaves those that are born
pub is_born-same : (opening : Opening) (entries : List Entry) (entry : Entry) (page : ℕ) → bears page entry ≡ false
    → is_born opening.base entries page ≡ is_born opening.base (entries ++ entry ∷ []) page
is_born-same opening entries entry page none =
    or_false (is_born opening.base entries page)
    ∙ ap (λ (b : Bool). is_born opening.base entries page || b) (sym none)
    ∙ sym (is_born-append opening.base entries entry page)

-- a call was answered otherwise than Done
pub told-undone : (opening : Opening) (entries : List Entry) (entry : Entry) (m : MemoryView) (d : DeviceState)
    → IsTold opening entries m d → MayFollow opening entries entry → entry.faults ≤ d.faults → is_done entry.reply ≡ false
    → IsTold opening (entries ++ entry ∷ []) m d
told-undone opening entries entry m d told follows faults undone =
    let after = faults_after-append opening entries entry in
    record {
      legal = legal-append opening entries entry told.legal follows;
      faults = omega arith;
      pages = told.pages;
      capacity = told.capacity;
      flat = flat-append opening.base entries entry opening.pages (byte_of m d) (byte_of m d) told.flat
          (λ address within. rw undone refl);
      born = λ page within. told.born page within ∙ is_born-same opening entries entry page (rw undone refl);
      marks = λ page line low.
          told.marks page line low ∙ sym (is_marked-append opening.base entries entry page line ∙ rw undone refl);
      located = told.located;
      keeping = keeping-undone opening.base entries entry d undone told.keeping;
    }

-- the entry of a call that is answered as is due may stand behind the history
pub due-follows : (opening : Opening) (entries : List Entry) (entry : Entry) (m : MemoryView) (d : DeviceState)
    → IsTold opening entries m d → IsAnswered opening entries d entry
    → entry.reply ≡ due_reply opening entries entry.event entry.op → MayFollow opening entries entry
due-follows opening entries entry m d told now due =
    let before = told.faults in
    let same = now.faults in
    record { later = now.later; not_past = now.not_past; faults = omega arith; reply = inl due }

-- a call that isn't served was answered as is due
pub told-refused : (opening : Opening) (entries : List Entry) (entry : Entry) (m : MemoryView) (d : DeviceState)
    → IsTold opening entries m d → IsAnswered opening entries d entry
    → entry.reply ≡ due_reply opening entries entry.event entry.op → is_done entry.reply ≡ false
    → IsTold opening (entries ++ entry ∷ []) m d
told-refused opening entries entry m d told now due undone =
    let same = now.faults in
    told-undone opening entries entry m d told (due-follows opening entries entry m d told now due) (omega arith) undone

-- a call that names what isn't there was refused
pub told-range : (opening : Opening) (entries : List Entry) (entry : Entry) (m : MemoryView) (d : DeviceState)
    → IsTold opening entries m d → IsAnswered opening entries d entry → entry.reply ≡ Range
    → is_in_range opening.pages entry.op ≡ false → IsTold opening (entries ++ entry ∷ []) m d
told-range opening entries entry m d told now reply outside =
    told-refused opening entries entry m d told now (rw outside reply) (rw reply refl)

-- a call at the last event was refused
pub told-spent : (opening : Opening) (entries : List Entry) (entry : Entry) (m : MemoryView) (d : DeviceState)
    → IsTold opening entries m d → IsAnswered opening entries d entry → entry.reply ≡ Spent
    → is_in_range opening.pages entry.op ≡ true → entry.event ≡ last_event → IsTold opening (entries ++ entry ∷ []) m d
told-spent opening entries entry m d told now reply within last =
    let spent : (entry.event == last_event) ≡ true = eq-eqb entry.event last_event last in
    told-refused opening entries entry m d told now (rw (within, spent) reply) (rw reply refl)

-- the reply that is due to a call that isn't refused
pub due_reply-served : (opening : Opening) (entries : List Entry) (event : ℕ) (op : Op) → is_in_range opening.pages op ≡ true
    → event < last_event → is_refused opening entries op ≡ false
    → due_reply opening entries event op ≡ served_reply (flat_byte_of opening.base entries) op
due_reply-served opening entries event op within going allowed =
    let before : (event == last_event) ≡ false = ne_eqb event last_event (omega arith) in
    rw (within, before, allowed) refl

is_served-served : (byte : ℕ → ℕ) (op : Op) → is_served (served_reply byte op) ≡ true
is_served-served byte (Load at len) = refl
is_served-served byte (Store at bytes) = refl
is_served-served byte Verify = refl
is_served-served byte (Mark page from count) = refl
is_served-served byte (Release page from count) = refl

-- a call that isn't refused would be served
pub is_served-due : (opening : Opening) (entries : List Entry) (event : ℕ) (op : Op) → is_in_range opening.pages op ≡ true
    → event < last_event → is_refused opening entries op ≡ false → is_served (due_reply opening entries event op) ≡ true
is_served-due opening entries event op within going allowed =
    ap is_served (due_reply-served opening entries event op within going allowed)
    ∙ is_served-served (flat_byte_of opening.base entries) op

-- the flash failed in the event of a call that isn't refused
pub told-fault : (opening : Opening) (entries : List Entry) (entry : Entry) (m : MemoryView) (d : DeviceState)
    → IsTold opening entries m d → IsAnswered opening entries d entry → entry.reply ≡ Fault → may_fault entry.op ≡ true
    → is_served (due_reply opening entries entry.event entry.op) ≡ true → faults_after opening entries < d.faults
    → IsTold opening (entries ++ entry ∷ []) m d
told-fault opening entries entry m d told now reply may due rose =
    let same = now.faults in
    told-undone opening entries entry m d told
    (record {
      later = now.later;
      not_past = now.not_past;
      faults = omega arith;
      reply = inr (record { reply = reply; op = may; due = due; rose = omega arith });
    })
    (omega arith) (rw reply refl)

-- a call that isn't refused may be answered as it is served
pub served-follows : (opening : Opening) (entries : List Entry) (entry : Entry) (op : Op) (m : MemoryView) (d : DeviceState)
    → IsCalled opening entries m d entry → entry.op ≡ op → is_refused opening entries op ≡ false
    → entry.reply ≡ served_reply (flat_byte_of opening.base entries) op → MayFollow opening entries entry
served-follows opening entries entry op m d called is allowed reply =
    due-follows opening entries entry m d called.told called.now
    (reply
    ∙ sym (due_reply-served opening entries entry.event op (within-op opening entries m d entry op called is) called.going allowed)
    ∙ ap (λ (o : Op). due_reply opening entries entry.event o) (sym is))
