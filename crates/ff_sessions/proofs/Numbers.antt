-- The number of each caller's next call.
use Rattle.std.proofs.Common.{◌≡◌, ◌≢◌, ◌+◌, ◌<◌, ◌≤◌, ℕ, Bool, true, inl, inr, List, [], ◌∷◌, ◌++◌, length, get_or, set, sym, ap, ◌∙◌, arith, length-append, get_or-set_same, get_or-set_other}
use Rattle.std.proofs.Math.ListN.{length-set}
use Rattle.std.proofs.lemmas.Bool.{cases_Bool}
use Rattle.std.specs.Prelude.{◌==◌, replicate}
use Rattle.std.proofs.lemmas.Bool.{eq-eqb, eqb-true}
use Rattle.std.proofs.lemmas.List.{get_or-replicate, length-replicate}
use Rattle.std.proofs.lemmas.List.Sums.{count_by-le-length, length-filter}
use Rattle.ff_model.specs.Callers.{AreNumbered, entries_of}
use Rattle.ff_model.specs.declared.history.Entry.{Entry}
use Rattle.ff_model.proofs.AppendedCalls.{AreNumbered-append, entries_of-append_other, entries_of-append_same}
use Rattle.ff_sessions.specs.Making.{AreNext}

-- no caller has made a call
pub next_none : (numbers : List ℕ) → numbers ≡ replicate 64 0 → AreNext numbers []
next_none numbers is = record {
  size = ap length is ∙ length-replicate {A = ℕ} 64 0;
  each = λ k within. ap (λ (l : List ℕ). get_or l k 0) is ∙ get_or-replicate 64 k 0 0 within;
}

-- one more call of a caller
pub next_more : (entries : List Entry) (entry : Entry) (numbers : List ℕ) → AreNext numbers entries → entry.caller.0 < 64
    → AreNext (set numbers entry.caller.0 (get_or numbers entry.caller.0 0 + 1)) (entries ++ entry ∷ [])
next_more entries entry numbers had cursor =
    let size = had.size in
    let by = entry.caller.0 in
    let number = get_or numbers by 0 in
    record {
      size = length-set numbers by (number + 1) ∙ had.size;
      each = λ k within. elim (cases_Bool (by == k)) [
        | inl same ↦
            let k_is : by ≡ k = eqb-true by k same in
            let counted = ap length (entries_of-append_same k entries entry same) in
            let more = length-append (entries_of k entries) (entry ∷ []) in
            let here : get_or (set numbers by (number + 1)) by 0 ≡ number + 1 =
            get_or-set_same numbers by (number + 1) 0 (omega arith) in
            let own : number ≡ length (entries_of k entries) = ap (λ (n : ℕ). get_or numbers n 0) k_is ∙ had.each k within in
            ap (λ (n : ℕ). get_or (set numbers by (number + 1)) n 0) (sym k_is) ∙ here ∙ omega arith
        | inr differs ↦
            let apart : k ≢ by = λ e. absurd (let same : (by == k) ≡ true = eq-eqb by k (sym e) in cc) in
            get_or-set_other numbers by k (number + 1) 0 apart ∙ had.each k within
            ∙ sym (ap length (entries_of-append_other k entries entry differs))
      ];
    }

-- each caller's calls stay numbered from 0
pub numbered_more : (entries : List Entry) (entry : Entry) (numbers : List ℕ) → ((caller : ℕ) → AreNumbered caller entries)
    → AreNext numbers entries → entry.caller.0 < 64 → entry.number ≡ get_or numbers entry.caller.0 0
    → (caller : ℕ) → AreNumbered caller (entries ++ entry ∷ [])
numbered_more entries entry numbers had next cursor number caller =
    AreNumbered-append caller entries entry (had caller)
    (λ same. let is : entry.caller.0 ≡ caller = eqb-true entry.caller.0 caller same in
    number ∙ ap (λ (n : ℕ). get_or numbers n 0) is ∙ next.each caller (omega arith))

-- a caller has made no more calls than all have
pub few_of : (caller : ℕ) (entries : List Entry) → length (entries_of caller entries) ≤ length entries
few_of caller entries =
    let p : Entry → Bool = λ e. e.caller.0 == caller in
    let size = length-filter p entries in
    let most = count_by-le-length p entries in
    omega arith
