-- What one more entry at the end of a history changes.
use Rattle.std.proofs.Common.{◌≡◌, ◌<◌, ◌*◌, ℕ, Bool, true, false, List, [], ◌∷◌, ◌++◌, Option, Some, None, refl, sym, ap, subst, ◌∙◌, append_assoc}
use Rattle.std.specs.Prelude.{unwrap_or, min, ◌+◌, ◌||◌, is_some}
use Rattle.std.specs.List.{list_any}
use Rattle.std.proofs.lemmas.List.Folds.{list_any-append}
use Rattle.ff_base.specs.declared.numbers.TheConstants.{PAGE_BYTES}
use Rattle.std.specs.Option.{option_or}
use Rattle.std.proofs.lemmas.List.{append-nil}
use Rattle.std.proofs.lemmas.List.Sums.{fold-append}
use Rattle.ff_base.specs.Count.{last_event}
use Rattle.ff_model.specs.Image.{Content, byte_at, held_page}
use Rattle.ff_model.specs.Flat.{latest, stored_byte, byte_after, flat_byte_of, IsFlat, is_born, bears}
use Rattle.ff_model.specs.Legal.{Opening, MayFollow, LegalAfter, IsLegal, next_event, faults_after}
use Rattle.ff_model.specs.declared.history.Entry.{Entry}

option_or-none : {A : Type 0} (o : Option A) → option_or o None ≡ o
option_or-none None = refl
option_or-none (Some x) = refl

option_or-assoc : {A : Type 0} (a b c : Option A) → option_or (option_or a b) c ≡ option_or a (option_or b c)
option_or-assoc None b c = refl
option_or-assoc (Some x) b c = refl

or_last : (a b c : Bool) → (a || (b || (c || false))) ≡ ((a || b) || c)
or_last true b c = refl
or_last false true c = refl
or_last false false true = refl
or_last false false false = refl

-- the last entry speaks first
pub latest-append : {A : Type 0} (says : Entry → Option A) (before : List Entry) (entry : Entry) → latest says (before ++ entry ∷ []) ≡ option_or (says entry) (latest says before)
latest-append says [] entry = sym (option_or-none (says entry))
latest-append says (first ∷ before) entry =
    ap (λ o. option_or o (says first)) (latest-append says before entry) ∙ option_or-assoc (says entry) (latest says before) (says first)

pub or-default : {A : Type 0} (o p : Option A) (d : A) → unwrap_or (option_or o p) d ≡ unwrap_or o (unwrap_or p d)
or-default None p d = refl
or-default (Some x) p d = refl

-- a byte is what the last entry leaves there
pub flat_byte_of-append : (base : Content) (before : List Entry) (entry : Entry) (address : ℕ)
    → flat_byte_of base (before ++ entry ∷ []) address
    ≡ byte_after address entry.op entry.reply (flat_byte_of base before address)
flat_byte_of-append base before entry address =
    ap (λ (o : Option ℕ). unwrap_or o (byte_at base address)) (latest-append (stored_byte address) before entry)
    ∙ or-default (stored_byte address entry) (latest (stored_byte address) before) (byte_at base address)

-- the bytes of the pages stay the flat ones where a call leaves the bytes that it stores, and no others
pub flat-append : (base : Content) (before : List Entry) (entry : Entry) (pages : ℕ) (old new : ℕ → ℕ)
    → IsFlat base before pages old
    → ((address : ℕ) → address < PAGE_BYTES * pages → new address ≡ byte_after address entry.op entry.reply (old address))
    → IsFlat base (before ++ entry ∷ []) pages new
flat-append base before entry pages old new flat after address within =
    after address within
    ∙ ap (λ (byte : ℕ). byte_after address entry.op entry.reply byte) (flat address within)
    ∙ sym (flat_byte_of-append base before entry address)

-- a page is born by the last entry, or was before
pub is_born-append : (base : Content) (before : List Entry) (entry : Entry) (page : ℕ)
    → is_born base (before ++ entry ∷ []) page ≡ (is_born base before page || bears page entry)
is_born-append base before entry page =
    ap (λ (b : Bool). is_some (held_page base page) || b) (list_any-append (bears page) before (entry ∷ []))
    ∙ or_last (is_some (held_page base page)) (list_any (bears page) before) (bears page entry)

pub next_event-append : (opening : Opening) (before : List Entry) (entry : Entry) → next_event opening (before ++ entry ∷ []) ≡ min (entry.event + 1) last_event
next_event-append opening before entry = fold-append (λ (event : ℕ) (e : Entry). min (e.event + 1) last_event) opening.event before (entry ∷ [])

pub faults_after-append : (opening : Opening) (before : List Entry) (entry : Entry) → faults_after opening (before ++ entry ∷ []) ≡ entry.faults
faults_after-append opening before entry = fold-append (λ (faults : ℕ) (e : Entry). e.faults) opening.faults before (entry ∷ [])

legal-more : (opening : Opening) (before later : List Entry) (entry : Entry) → LegalAfter opening before later → MayFollow opening (before ++ later) entry
    → LegalAfter opening before (later ++ entry ∷ [])
legal-more opening before [] entry legal follows = (subst (λ (es : List Entry). MayFollow opening es entry) (append-nil before) follows, tt)
legal-more opening before (first ∷ later) entry legal follows =
    (legal.0, legal-more opening (before ++ first ∷ []) later entry legal.1 (subst (λ (es : List Entry). MayFollow opening es entry) (sym (append_assoc before (first ∷ []) later)) follows))

-- a legal history with an entry behind it that may stand there
pub legal-append : (opening : Opening) (before : List Entry) (entry : Entry) → IsLegal opening before → MayFollow opening before entry → IsLegal opening (before ++ entry ∷ [])
legal-append opening before entry legal follows = legal-more opening [] before entry legal follows
