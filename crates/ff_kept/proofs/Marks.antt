-- What one more entry changes of the marked lines.
use Rattle.std.proofs.Common.{◌≡◌, inl, inr, ℕ, ◌/◌, ◌%◌, Bool, true, false, List, [], ◌∷◌, ◌++◌, refl, sym, ap, ◌∙◌, arith}
use Rattle.std.specs.Prelude.{◌==◌, ◌&&◌, ◌||◌, not, unwrap_or}
use Rattle.std.proofs.lemmas.Bool.{cases_Bool}
use Rattle.ff_base.specs.declared.numbers.PageNo.{PageNo}
use Rattle.ff_model.specs.Callers.{acknowledges, is_in_lines, is_marked, mark_by, marked_by}
use Rattle.ff_model.specs.Flat.{is_done}
use Rattle.ff_model.specs.Image.{Content}
use Rattle.ff_model.specs.declared.history.Entry.{Entry}
use Rattle.ff_model.specs.declared.op.Op.{Op}
use Rattle.ff_model.specs.declared.op.Op.TheVariants.{Load, Store, Verify, Mark, Release}
use Rattle.ff_model.proofs.AppendedCalls.{is_marked-append}
use Rattle.ff_kept.specs.Marked.{marked_at}
use Rattle.ff_kept.proofs.Apart.{IsByLine}

-- the addresses of a line are all marked or all not
pub marked_at-by_line : (base : Content) (history : List Entry) → IsByLine (marked_at base history)
marked_at-by_line base history a b same =
    let page : a / 4096 ≡ b / 4096 = omega arith in
    let line : a % 4096 / 64 ≡ b % 4096 / 64 = omega arith in
    ap (λ (q : ℕ). is_marked base history q (a % 4096 / 64)) page
    ∙ ap (λ (i : ℕ). is_marked base history (b / 4096) i) line

-- a line is marked as the last entry says, else as it was
pub marked_at-append : (base : Content) (history : List Entry) (entry : Entry) (address : ℕ)
    → marked_at base (history ++ entry ∷ []) address
    ≡ unwrap_or (marked_by (address / 4096) (address % 4096 / 64) entry) (marked_at base history address)
marked_at-append base history entry address =
    is_marked-append base history entry (address / 4096) (address % 4096 / 64)

-- a call that acknowledges nothing marks no line
mark_by-silent : (page line : ℕ) (op : Op) (before : Bool) → acknowledges op ≡ false
    → unwrap_or (mark_by page line op) before ≡ true → before ≡ true
mark_by-silent page line (Load at len) before silent is = is
mark_by-silent page line (Store at bytes) before silent is = is
mark_by-silent page line Verify before silent is = is
mark_by-silent page line (Mark marked from count) before silent is = absurd (cc silent)
mark_by-silent page line (Release released from count) before silent is =
    elim (cases_Bool ((released.0 == page) && is_in_lines line from count)) [
      | inl clears ↦ let cleared = rw clears at is in absurd (cc cleared)
      | inr keeps ↦ rw keeps at is
    ]

-- an entry that acknowledges nothing marks no line
pub marked_at-silent : (base : Content) (history : List Entry) (entry : Entry) (address : ℕ)
    → (is_done entry.reply && acknowledges entry.op) ≡ false
    → marked_at base (history ++ entry ∷ []) address ≡ true → marked_at base history address ≡ true
marked_at-silent base history entry address silent is =
    let now = sym (marked_at-append base history entry address) ∙ is in
    elim (cases_Bool (is_done entry.reply)) [
      | inr undone ↦ rw undone at now
      | inl done ↦
          mark_by-silent (address / 4096) (address % 4096 / 64) entry.op (marked_at base history address)
          (rw done at silent) (rw done at now)
    ]

-- a Mark marks the lines of its range, beside those that were
pub marked_at-mark : (base : Content) (history : List Entry) (entry : Entry) (page : PageNo) (from count address : ℕ)
    → is_done entry.reply ≡ true → entry.op ≡ Mark page from count
    → marked_at base (history ++ entry ∷ []) address
    ≡ (((page.0 == address / 4096) && is_in_lines (address % 4096 / 64) from count) || marked_at base history address)
marked_at-mark base history entry page from count address done op =
    marked_at-append base history entry address
    ∙ rw (done, op) (elim (cases_Bool ((page.0 == address / 4096) && is_in_lines (address % 4096 / 64) from count)) [
      | inl marks ↦ rw marks refl
      | inr keeps ↦ rw keeps refl
    ])

-- a Release clears the marks of the lines of its range, and no other
pub marked_at-release : (base : Content) (history : List Entry) (entry : Entry) (page : PageNo) (from count address : ℕ)
    → is_done entry.reply ≡ true → entry.op ≡ Release page from count
    → marked_at base (history ++ entry ∷ []) address
    ≡ (not ((page.0 == address / 4096) && is_in_lines (address % 4096 / 64) from count) && marked_at base history address)
marked_at-release base history entry page from count address done op =
    marked_at-append base history entry address
    ∙ rw (done, op) (elim (cases_Bool ((page.0 == address / 4096) && is_in_lines (address % 4096 / 64) from count)) [
      | inl clears ↦ rw clears refl
      | inr keeps ↦ rw keeps refl
    ])
