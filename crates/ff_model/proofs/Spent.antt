-- A call is answered that the session is spent at the last event number alone, which no later entry leaves.
use Rattle.std.proofs.Common.{◌≡◌, ◌≢◌, ◌<◌, ◌≤◌, ℕ, List, [], ◌∷◌, ◌++◌, Bool, false, inl, inr, sym, ap, ◌∙◌, append_assoc, arith}
use Rattle.std.specs.Prelude.{All, ◌==◌}
use Rattle.std.proofs.lemmas.Bool.{cases_Bool, eqb-true}
use Rattle.std.proofs.lemmas.List.{append-nil}
use Rattle.std.proofs.lemmas.List.Elements.{All-cons, All-nil}
use Rattle.ff_base.specs.Count.{last_event}
use Rattle.ff_model.specs.Legal.{LegalAfter, MayFollow, Opening, is_refused, next_event, reply_over, served_reply}
use Rattle.ff_model.specs.Flat.{flat_byte_of}
use Rattle.ff_model.specs.Spans.{is_in_range}
use Rattle.ff_model.specs.declared.history.Entry.{Entry}
use Rattle.ff_model.specs.declared.op.Op.{Op}
use Rattle.ff_model.specs.declared.op.Op.TheVariants.{Load, Store, Verify, Mark, Release}
use Rattle.ff_model.specs.declared.op.Reply.TheVariants.{Fault, Full, Range, Spent}
use Rattle.ff_model.proofs.Appended.{next_event-append}

served_unspent : (byte : ℕ → ℕ) (op : Op) → served_reply byte op ≢ Spent
served_unspent byte (Load at len) is = absurd (cc)
served_unspent byte (Store at bytes) is = absurd (cc)
served_unspent byte Verify is = absurd (cc)
served_unspent byte (Mark page from count) is = absurd (cc)
served_unspent byte (Release page from count) is = absurd (cc)

due_unspent : (pages : ℕ) (refused : Bool) (byte : ℕ → ℕ) (event : ℕ) (op : Op) → (event == last_event) ≡ false
    → reply_over pages refused byte event op ≢ Spent
due_unspent pages refused byte event op going is = elim (cases_Bool (is_in_range pages op)) [
  | inl within ↦ elim (cases_Bool refused) [
    | inl full ↦ absurd (let both : Full ≡ Spent = rw (within, going, full) at is in cc)
    | inr served ↦ served_unspent byte op (rw (within, going, served) at is)
  ]
  | inr outside ↦ absurd (let both : Range ≡ Spent = rw outside at is in cc)
]

-- an entry that is answered so has the last event number
spent_last : (opening : Opening) (before : List Entry) (entry : Entry) → MayFollow opening before entry → entry.reply ≡ Spent
    → entry.event ≡ last_event
spent_last opening before entry follows is = elim (cases_Bool (entry.event == last_event)) [
  | inl last ↦ eqb-true entry.event last_event last
  | inr going ↦ elim follows.reply [
    | inl due ↦ absurd (due_unspent opening.pages (is_refused opening before entry.op) (flat_byte_of opening.base before) entry.event
        entry.op going (sym due ∙ is))
    | inr fault ↦ absurd (let both : Fault ≡ Spent = sym fault.reply ∙ is in cc)
  ]
]

-- the next event number doesn't fall over entries that may stand behind others
pub next_event-rises : (opening : Opening) (before later : List Entry) → LegalAfter opening before later
    → next_event opening before ≤ next_event opening (before ++ later)
next_event-rises opening before [] legal =
    let same = ap (next_event opening) (append-nil before) in
    omega arith
next_event-rises opening before (entry ∷ later) legal =
    let from = legal.0.later in
    let not_past = legal.0.not_past in
    let here = next_event-append opening before entry in
    let rest = next_event-rises opening (before ++ entry ∷ []) later legal.1 in
    let same = ap (next_event opening) (append_assoc before (entry ∷ []) later) in
    omega arith

-- while an event number is left behind legal entries, none of them is answered so
pub legal-unspent : (opening : Opening) (before later : List Entry) → LegalAfter opening before later
    → next_event opening (before ++ later) < last_event → All (λ entry. entry.reply ≢ Spent) later
legal-unspent opening before [] legal left = All-nil (λ (entry : Entry). entry.reply ≢ Spent)
legal-unspent opening before (entry ∷ later) legal left =
    let same = ap (next_event opening) (append_assoc before (entry ∷ []) later) in
    All-cons (λ (e : Entry). e.reply ≢ Spent) entry later
    (λ is.
    let last = spent_last opening before entry legal.0 is in
    let here = next_event-append opening before entry in
    let rest = next_event-rises opening (before ++ entry ∷ []) later legal.1 in
    absurd (omega arith))
    (legal-unspent opening (before ++ entry ∷ []) later legal.1 (omega arith))
