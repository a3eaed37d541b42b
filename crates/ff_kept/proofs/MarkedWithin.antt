-- Only lines of the pages are marked.
use Rattle.std.proofs.Common.{◌≡◌, ◌≤◌, ◌<◌, inl, inr, ℕ, ◌+◌, ◌*◌, ◌/◌, ◌%◌, Bool, true, false, List, [], ◌∷◌, ◌++◌, Option, Some, None, length, get_or, refl, ap, arith}
use Rattle.std.specs.Prelude.{IsTrue, ◌==◌, ◌&&◌, nat_le, nat_lt, unwrap_or}
use Rattle.std.specs.Int.{bit_at}
use Rattle.std.specs.Option.{option_or}
use Rattle.std.proofs.lemmas.Bool.{and_parts, cases_Bool, cases_lt, eqb-true, ltb-true}
use Rattle.std.proofs.lemmas.List.{get_or_past}
use Rattle.std.proofs.lemmas.Nat.Bits.{bit_at-zero}
use Rattle.ff_model.specs.Callers.{is_in_lines, mark_by, marked_by}
use Rattle.ff_model.specs.Flat.{is_done, latest}
use Rattle.ff_model.specs.Image.{Content}
use Rattle.ff_model.specs.Legal.{IsLegal, LegalAfter, MayFollow, Opening}
use Rattle.ff_model.specs.Spans.{is_in_range}
use Rattle.ff_model.specs.declared.history.Entry.{Entry}
use Rattle.ff_model.specs.declared.op.Op.{Op}
use Rattle.ff_model.specs.declared.op.Op.TheVariants.{Load, Store, Verify, Mark, Release}
use Rattle.ff_kept.specs.Marked.{marked_at}
use Rattle.ff_kept.proofs.Apart.{in_range-done}

-- a call in range marks lines of the pages
mark_by-within : (pages page line : ℕ) (op : Op) → IsTrue (is_in_range pages op) → mark_by page line op ≡ Some true
    → page < pages
mark_by-within pages page line (Mark marked from count) within is =
    elim (cases_Bool ((marked.0 == page) && is_in_lines line from count)) [
      | inl marks ↦
          let same = eqb-true marked.0 page (and_parts (marked.0 == page) (is_in_lines line from count) marks).0 in
          let low = ltb-true marked.0 pages (and_parts (nat_lt marked.0 pages) (nat_le 1 count) (and_parts (nat_lt marked.0 pages && nat_le 1 count) (nat_le (from + count) 64) within).0).0 in
          omega arith
      | inr keeps ↦ let none = rw keeps at is in absurd (cc none)
    ]
mark_by-within pages page line (Load at len) within is = absurd (cc is)
mark_by-within pages page line (Store at bytes) within is = absurd (cc is)
mark_by-within pages page line Verify within is = absurd (cc is)
mark_by-within pages page line (Release released from count) within is =
    elim (cases_Bool ((released.0 == page) && is_in_lines line from count)) [
      | inl clears ↦ let cleared = rw clears at is in absurd (cc cleared)
      | inr keeps ↦ let none = rw keeps at is in absurd (cc none)
    ]

marked_by-within : (opening : Opening) (before : List Entry) (entry : Entry) (page line : ℕ) → MayFollow opening before entry
    → marked_by page line entry ≡ Some true → page < opening.pages
marked_by-within opening before entry page line follows is = elim (cases_Bool (is_done entry.reply)) [
  | inl done ↦
      mark_by-within opening.pages page line entry.op (in_range-done opening before entry follows done) (rw done at is)
  | inr undone ↦ let none = rw undone at is in absurd (cc none)
]

either-within : (opening : Opening) (before : List Entry) (entry : Entry) (page line : ℕ) (later : Option Bool)
    → MayFollow opening before entry → (later ≡ Some true → page < opening.pages)
    → option_or later (marked_by page line entry) ≡ Some true → page < opening.pages
either-within opening before entry page line None follows rest is = marked_by-within opening before entry page line follows is
either-within opening before entry page line (Some mark) follows rest is = rest is

latest-within : (opening : Opening) (before later : List Entry) (page line : ℕ) → LegalAfter opening before later
    → latest (marked_by page line) later ≡ Some true → page < opening.pages
latest-within opening before [] page line legal is = absurd (cc is)
latest-within opening before (entry ∷ later) page line legal is =
    either-within opening before entry page line (latest (marked_by page line) later) legal.0
    (latest-within opening (before ++ entry ∷ []) later page line legal.1) is

base-within : (base : Content) (pages page line : ℕ) (last : Option Bool) → length base.marks ≤ pages
    → (last ≡ Some true → page < pages)
    → unwrap_or last (bit_at (get_or base.marks page 0) line == 1) ≡ true → page < pages
base-within base pages page line (Some mark) size rest is = rest (ap Some is)
base-within base pages page line None size rest is = elim (cases_lt page pages) [
  | inl low ↦ low
  | inr past ↦
      let none : get_or base.marks page 0 ≡ 0 = get_or_past base.marks page 0 (omega arith) in
      let clear : (bit_at (get_or base.marks page 0) line == 1) ≡ false = rw (none, bit_at-zero line) refl in
      absurd (cc (is, clear))
]

-- a marked address lies within the pages
pub marked_at-within : (opening : Opening) (history : List Entry) (address : ℕ) → IsLegal opening history
    → length opening.base.marks ≤ opening.pages → marked_at opening.base history address ≡ true
    → address < 4096 * opening.pages
marked_at-within opening history address legal size is =
    let page : ℕ = address / 4096 in
    let line : ℕ = address % 4096 / 64 in
    let low = base-within opening.base opening.pages page line (latest (marked_by page line) history) size
    (latest-within opening [] history page line legal) is in
    omega arith
