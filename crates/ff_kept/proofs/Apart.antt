-- A store of a legal history lies in one line: where it is to no marked line, it leaves the bytes of marked lines.
use Rattle.std.proofs.Common.{◌≡◌, ◌≢◌, ◌≤◌, inl, inr, ℕ, ◌+◌, ◌-◌, ◌/◌, ◌%◌, Bool, true, false, List, [], ◌∷◌, ◌++◌, None, length, refl, sym, ap, ◌∙◌, arith}
use Rattle.std.specs.Prelude.{All, IsTrue, nat_le}
use Rattle.std.proofs.lemmas.Bool.{cases_Bool, cases_lt, le-leb, lt-leb}
use Rattle.std.proofs.lemmas.List.Elements.{All-cons, All-nil}
use Rattle.std.proofs.lemmas.Option.{slice_get_past}
use Rattle.ff_model.specs.Flat.{covering_byte, is_done, stored_byte}
use Rattle.ff_model.specs.Legal.{IsLegal, LegalAfter, MayFollow, Opening}
use Rattle.ff_model.specs.Spans.{is_in_range}
use Rattle.ff_model.specs.declared.history.Entry.{Entry}
use Rattle.ff_model.specs.declared.op.Op.{Op}
use Rattle.ff_model.specs.declared.op.Op.TheVariants.{Load, Store, Verify, Mark, Release}
use Rattle.ff_model.proofs.Replies.{span_one_line}
use Rattle.ff_kept.specs.Marked.{is_marked_store, stores_marked}

-- the addresses of a line are all marked or all not
abbrev pub IsByLine : (ℕ → Bool) → Type 0
IsByLine marked = (a b : ℕ) → a / 64 ≡ b / 64 → marked a ≡ marked b

-- an entry leaves the bytes of marked lines, unless it is a store to one
pub record IsApart (marked : ℕ → Bool) (entry : Entry) : Type 0 where
  pub none : is_marked_store marked entry ≡ false → (address : ℕ) → marked address ≡ true → stored_byte address entry ≡ None

-- bytes cover no address that is before or past them
pub covering_byte-past : (address at : ℕ) (bytes : List ℕ) → (at ≤ address → at + length bytes ≤ address)
    → covering_byte address (Store at bytes) ≡ None
covering_byte-past address at bytes past = elim (cases_lt address at) [
  | inl before ↦ let test : nat_le at address ≡ false = lt-leb at address before in rw test refl
  | inr from_on ↦
      let test : nat_le at address ≡ true = le-leb at address from_on in
      let behind = past from_on in
      let none = slice_get_past bytes (address - at) (omega arith) in
      rw (test, none) refl
]

-- bytes within one line cover no address of another
covering_byte-other : (address at : ℕ) (bytes : List ℕ) → at % 64 + length bytes ≤ 64 → address / 64 ≢ at / 64
    → covering_byte address (Store at bytes) ≡ None
covering_byte-other address at bytes fits apart =
    covering_byte-past address at bytes (λ from_on. elim (cases_lt address (at + length bytes)) [
      | inl inside ↦ let same : address / 64 ≡ at / 64 = omega arith in absurd (apart same)
      | inr behind ↦ behind
    ])

-- an entry that was answered Done is in range
pub in_range-done : (opening : Opening) (before : List Entry) (entry : Entry) → MayFollow opening before entry
    → is_done entry.reply ≡ true → IsTrue (is_in_range opening.pages entry.op)
in_range-done opening before entry follows done = elim (cases_Bool (is_in_range opening.pages entry.op)) [
  | inl within ↦ within
  | inr outside ↦ elim follows.reply [
    | inl due ↦ let refused : is_done entry.reply ≡ false = ap is_done due ∙ rw outside refl in absurd (cc (done, refused))
    | inr fault ↦ let failed : is_done entry.reply ≡ false = ap is_done fault.reply in absurd (cc (done, failed))
  ]
]

-- what a call that is in range stores
covering_byte-apart : (marked : ℕ → Bool) (pages : ℕ) (op : Op) → IsByLine marked → IsTrue (is_in_range pages op)
    → stores_marked marked op ≡ false → (address : ℕ) → marked address ≡ true → covering_byte address op ≡ None
covering_byte-apart marked pages (Store at bytes) lines within none address is =
    covering_byte-other address at bytes (span_one_line pages at (length bytes) within)
    (λ same. let there : marked at ≡ true = sym (lines address at same) ∙ is in absurd (cc (there, none)))
covering_byte-apart marked pages (Load at len) lines within none address is = refl
covering_byte-apart marked pages Verify lines within none address is = refl
covering_byte-apart marked pages (Mark page from count) lines within none address is = refl
covering_byte-apart marked pages (Release page from count) lines within none address is = refl

apart-entry : (marked : ℕ → Bool) (opening : Opening) (before : List Entry) (entry : Entry) → IsByLine marked
    → MayFollow opening before entry → is_marked_store marked entry ≡ false
    → (address : ℕ) → marked address ≡ true → stored_byte address entry ≡ None
apart-entry marked opening before entry lines follows none address is = elim (cases_Bool (is_done entry.reply)) [
  | inl done ↦
      let within = in_range-done opening before entry follows done in
      let other : stores_marked marked entry.op ≡ false = rw done at none in
      rw done (covering_byte-apart marked opening.pages entry.op lines within other address is)
  | inr undone ↦ rw undone refl
]

apart-after : (marked : ℕ → Bool) (opening : Opening) (before later : List Entry) → IsByLine marked
    → LegalAfter opening before later → All (IsApart marked) later
apart-after marked opening before [] lines legal = All-nil (IsApart marked)
apart-after marked opening before (entry ∷ later) lines legal =
    All-cons (IsApart marked) entry later
    (record { none = apart-entry marked opening before entry lines legal.0 })
    (apart-after marked opening (before ++ entry ∷ []) later lines legal.1)

-- each entry of a legal history leaves the bytes of marked lines, unless it is a store to one
pub apart : (marked : ℕ → Bool) (opening : Opening) (history : List Entry) → IsByLine marked → IsLegal opening history
    → All (IsApart marked) history
apart marked opening history lines legal = apart-after marked opening [] history lines legal
