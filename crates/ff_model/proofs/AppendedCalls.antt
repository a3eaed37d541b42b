-- What one more entry at the end of a history changes of one caller's calls, of what is acknowledged and of what is
-- marked.
use Rattle.std.proofs.Common.{◌≡◌, inl, inr, ℕ, ◌+◌, Bool, true, false, cond, List, [], ◌∷◌, ◌++◌, length, map, Option, refl, sym, ap, ◌∙◌, length-append, arith}
use Rattle.std.specs.Prelude.{unwrap_or, ◌==◌, ◌&&◌, nat_lt}
use Rattle.std.specs.Int.{bit_at}
use Rattle.std.specs.Prelude.{slice_index}
use Rattle.std.specs.List.{range_with_len}
use Rattle.std.proofs.lemmas.Bool.{cases_Bool}
use Rattle.std.proofs.lemmas.Bool.Decides.{nat_tests}
use Rattle.std.proofs.lemmas.List.{append-nil, map-append}
use Rattle.std.proofs.lemmas.List.Elements.{filter-append}
use Rattle.ff_model.specs.Callers.{entries_of, calls_of, AreNumbered, acknowledges, acknowledged_length, marked_by, is_marked}
use Rattle.ff_model.specs.Flat.{latest, is_done}
use Rattle.ff_model.specs.Image.{Content}
use Rattle.ff_model.specs.declared.history.Entry.{Entry}
use Rattle.ff_model.proofs.Appended.{latest-append, or-default}
use Rattle.ff_model.proofs.Ranges.{range_with_len-more}

-- a caller's entries end with the last one, where it is the caller's
pub entries_of-append : (caller : ℕ) (before : List Entry) (entry : Entry)
    → entries_of caller (before ++ entry ∷ [])
    ≡ entries_of caller before ++ cond (entry.caller.0 == caller) (entry ∷ []) []
entries_of-append caller before entry = filter-append (λ e. e.caller.0 == caller) before (entry ∷ [])

-- the same of another caller's entry
pub entries_of-append_other : (caller : ℕ) (before : List Entry) (entry : Entry) → (entry.caller.0 == caller) ≡ false
    → entries_of caller (before ++ entry ∷ []) ≡ entries_of caller before
entries_of-append_other caller before entry other = rw other at (entries_of-append caller before entry) ∙ append-nil (entries_of caller before)

-- the same of the caller's own entry
pub entries_of-append_same : (caller : ℕ) (before : List Entry) (entry : Entry) → (entry.caller.0 == caller) ≡ true
    → entries_of caller (before ++ entry ∷ []) ≡ entries_of caller before ++ entry ∷ []
entries_of-append_same caller before entry same = rw same at (entries_of-append caller before entry)

-- a caller's calls end with that of its own last entry
pub calls_of-append_same : (caller : ℕ) (before : List Entry) (entry : Entry) → (entry.caller.0 == caller) ≡ true
    → calls_of caller (before ++ entry ∷ []) ≡ calls_of caller before ++ entry.op ∷ []
calls_of-append_same caller before entry same =
    ap (λ (es : List Entry). map (λ e. e.op) es) (entries_of-append_same caller before entry same)
    ∙ map-append (λ e. e.op) (entries_of caller before) (entry ∷ [])

-- another caller's entry is none of a caller's calls
pub calls_of-append_other : (caller : ℕ) (before : List Entry) (entry : Entry) → (entry.caller.0 == caller) ≡ false
    → calls_of caller (before ++ entry ∷ []) ≡ calls_of caller before
calls_of-append_other caller before entry other =
    ap (λ (es : List Entry). map (λ e. e.op) es) (entries_of-append_other caller before entry other)

-- a caller's calls stay numbered from 0 where the last entry has the next number of its caller
pub AreNumbered-append : (caller : ℕ) (before : List Entry) (entry : Entry) → AreNumbered caller before
    → ((entry.caller.0 == caller) ≡ true → entry.number ≡ length (entries_of caller before))
    → AreNumbered caller (before ++ entry ∷ [])
AreNumbered-append caller before entry numbered next = elim (cases_Bool (entry.caller.0 == caller)) [
  | inl same ↦
      let mine = entries_of caller before in
      let number : entry.number ≡ length mine = next same in
      let size : length (mine ++ entry ∷ []) ≡ length mine + 1 = omega (arith, length-append mine (entry ∷ [])) in
      rw (entries_of-append_same caller before entry same)
      (map-append (λ e. e.number) mine (entry ∷ [])
      ∙ ap (λ (l : List ℕ). l ++ entry.number ∷ []) numbered
      ∙ ap (λ (n : ℕ). range_with_len 0 (length mine) ++ n ∷ []) number
      ∙ sym (range_with_len-more 0 (length mine) (length mine) (omega arith))
      ∙ ap (λ (n : ℕ). range_with_len 0 n) (sym size))
  | inr other ↦ rw (entries_of-append_other caller before entry other) numbered
]

-- the acknowledged length is the whole where the last entry acknowledges, else what it was
pub acknowledged_length-append : (before : List Entry) (entry : Entry)
    → acknowledged_length (before ++ entry ∷ [])
    ≡ cond (is_done entry.reply && acknowledges entry.op) (length before + 1) (acknowledged_length before)
acknowledged_length-append [] entry = refl
acknowledged_length-append (first ∷ before) entry =
    elim (cases_Bool (is_done entry.reply && acknowledges entry.op)) [
      | inl whole ↦
          let rest : acknowledged_length (before ++ entry ∷ []) ≡ length before + 1 =
          rw whole at (acknowledged_length-append before entry) in
          let some : nat_lt 0 (length before + 1) ≡ true = grind (arith, nat_tests) in
          let count : length before + 1 + 1 ≡ length (first ∷ before) + 1 = omega arith in
          rw (rest, some, whole) count
      | inr part ↦
          let rest : acknowledged_length (before ++ entry ∷ []) ≡ acknowledged_length before =
          rw part at (acknowledged_length-append before entry) in
          rw (rest, part) refl
    ]

-- a line is marked as the last entry says, else as it was
pub is_marked-append : (base : Content) (before : List Entry) (entry : Entry) (page line : ℕ)
    → is_marked base (before ++ entry ∷ []) page line
    ≡ unwrap_or (marked_by page line entry) (is_marked base before page line)
is_marked-append base before entry page line =
    ap (λ (o : Option Bool). unwrap_or o (bit_at (slice_index base.marks page) line == 1)) (latest-append (marked_by page line) before entry)
    ∙ or-default (marked_by page line entry) (latest (marked_by page line) before) (bit_at (slice_index base.marks page) line == 1)
