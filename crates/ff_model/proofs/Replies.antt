-- Replies depend on the bytes of the pages alone, and not on how they are kept.
use Rattle.std.proofs.Common.{◌≡◌, ◌≤◌, ◌<◌, inl, inr, ℕ, zero, suc, ◌+◌, ◌*◌, ◌/◌, ◌%◌, Bool, false, List, ◌∷◌, length, map, refl, ap, ◌∙◌, arith}
use Rattle.std.specs.Prelude.{IsTrue, ◌==◌}
use Rattle.std.specs.List.{range_with_len}
use Rattle.std.proofs.lemmas.Bool.{cases_Bool}
use Rattle.std.proofs.lemmas.Bool.Decides.{nat_tests}
use Rattle.ff_model.proofs.Ranges.{count_by-less}
use Rattle.ff_base.specs.Count.{last_event}
use Rattle.ff_base.specs.declared.numbers.TheConstants.{PAGE_BYTES}
use Rattle.ff_model.specs.Flat.{is_born, born_count}
use Rattle.ff_model.specs.Spans.{is_in_range, is_span}
use Rattle.ff_model.specs.Legal.{Opening, is_refused, reply_over, served_reply}
use Rattle.ff_model.specs.declared.history.Entry.{Entry}
use Rattle.ff_model.specs.declared.op.Op.{Op}
use Rattle.ff_model.specs.declared.op.Op.TheVariants.{Load, Store, Verify, Mark, Release}
use Rattle.ff_model.specs.declared.op.Reply.TheVariants.{Bytes}

-- a span in range lies in one line
pub span_one_line : (pages at len : ℕ) → IsTrue (is_span pages at len) → at % 64 + len ≤ 64
span_one_line pages at len span = grind (arith, nat_tests)

-- a span in range has a byte
pub span_some : (pages at len : ℕ) → IsTrue (is_span pages at len) → 1 ≤ len
span_some pages at len span = grind (arith, nat_tests)

-- a span in range ends within the pages
pub span_within : (pages at len : ℕ) → IsTrue (is_span pages at len) → at + len ≤ pages * 4096
span_within pages at len span = grind (arith, nat_tests)

-- a span reads the same by two readings that agree below a limit
span_same : (f g : ℕ → ℕ) (limit at n : ℕ) → ((a : ℕ) → a < limit → f a ≡ g a) → at + n ≤ limit
    → map f (range_with_len at n) ≡ map g (range_with_len at n)
span_same f g limit at zero same fits = refl
span_same f g limit at (suc n) same fits =
    ap (λ (b : ℕ). b ∷ map f (range_with_len (at + 1) n)) (same at (omega arith))
    ∙ ap (λ (bs : List ℕ). g at ∷ bs) (span_same f g limit (at + 1) n same (omega arith))

-- a served call in range is answered alike over pages that read the same
pub served_reply-same : (f g : ℕ → ℕ) (pages : ℕ) (op : Op)
    → ((a : ℕ) → a < PAGE_BYTES * pages → f a ≡ g a) → IsTrue (is_in_range pages op)
    → served_reply f op ≡ served_reply g op
served_reply-same f g pages (Load at len) same span =
    ap Bytes (span_same f g (PAGE_BYTES * pages) at len same
    (let within = span_within pages at len span in omega arith))
served_reply-same f g pages (Store at bytes) same span = refl
served_reply-same f g pages Verify same span = refl
served_reply-same f g pages (Mark page from count) same span = refl
served_reply-same f g pages (Release page from count) same span = refl

-- a call is answered alike over pages that read the same
pub reply_over-same : (f g : ℕ → ℕ) (pages : ℕ) (refused : Bool) (event : ℕ) (op : Op)
    → ((a : ℕ) → a < PAGE_BYTES * pages → f a ≡ g a)
    → reply_over pages refused f event op ≡ reply_over pages refused g event op
reply_over-same f g pages refused event op same = elim (cases_Bool (is_in_range pages op)) [
  | inl within ↦ elim (cases_Bool (event == last_event)) [
    | inl spent ↦ rw (within, spent) refl
    | inr going ↦ elim (cases_Bool refused) [
      | inl full ↦ rw (within, going, full) refl
      | inr served ↦ rw (within, going, served) (served_reply-same f g pages op same within)
    ]
  ]
  | inr outside ↦ rw outside refl
]

store_within : (pages at len : ℕ) → IsTrue (is_span pages at len) → at / 4096 < pages
store_within pages at len span =
    let some = span_some pages at len span in
    let within = span_within pages at len span in
    omega arith

-- while there is room for every page, no call in range is refused for want of it
pub is_refused-none : (opening : Opening) (before : List Entry) (op : Op) → opening.pages ≤ opening.capacity
    → IsTrue (is_in_range opening.pages op) → is_refused opening before op ≡ false
is_refused-none opening before (Store at bytes) room span =
    elim (cases_Bool (is_born opening.base before (at / PAGE_BYTES))) [
      | inl passes ↦ rw passes refl
      | inr unborn ↦
          let within : at / PAGE_BYTES < opening.pages = store_within opening.pages at (length bytes) span in
          let fewer = count_by-less (is_born opening.base before) 0 opening.pages (at / PAGE_BYTES) (omega arith) (omega arith) unborn in
          let differs : (born_count opening.base before opening.pages == opening.capacity) ≡ false = grind (arith, nat_tests) in
          rw (unborn, differs) refl
    ]
is_refused-none opening before (Load at len) room span = refl
is_refused-none opening before Verify room span = refl
is_refused-none opening before (Mark page from count) room span = refl
is_refused-none opening before (Release page from count) room span = refl
