-- The history grows by entries, and at most one more post waits.
use Rattle.std.proofs.Common.{◌≡◌, ◌≤◌, inl, inr, ℕ, Bool, false, cond, List, [], ◌∷◌, ◌++◌, length, take, drop, refl, sym, ap, subst, ◌∙◌, length-append, arith}
use Rattle.std.specs.Prelude.{◌&&◌}
use Rattle.std.proofs.lemmas.Bool.{cases_lt}
use Rattle.std.proofs.lemmas.List.{append-nil, drop-append-le, take-append-le, take_all}
use Rattle.ff_lines.specs.declared.post.Post.{Post}
use Rattle.ff_model.specs.Callers.{acknowledged_length, acknowledges}
use Rattle.ff_model.specs.Flat.{is_done}
use Rattle.ff_model.specs.Image.{Content}
use Rattle.ff_model.specs.declared.history.Entry.{Entry}
use Rattle.ff_model.proofs.AppendedCalls.{acknowledged_length-append}
use Rattle.ff_kept.specs.Keeping.{IsKeeping, IsPast, ReadsAfter}
use Rattle.ff_kept.specs.Marked.{is_marked_store, marked_stores}
use Rattle.ff_kept.specs.Posted.{byte_over}
use Rattle.ff_kept.specs.Waiting.{AllWait}
use Rattle.ff_kept.proofs.MarkedStores.{marked_stores-append, marked_stores-cons}
use Rattle.ff_kept.proofs.Prefixes.{flat_byte_of-longer}
use Rattle.ff_kept.proofs.Waiting.{waits-longer}

-- a line that reads as after some entries still does when the history has grown
reads-longer : (base : Content) (history later : List Entry) (byte : ℕ → ℕ) (line count : ℕ)
    → ReadsAfter base history byte line count → ReadsAfter base (history ++ later) byte line count
reads-longer base history later byte line count reads =
    let within = reads.within in
    record {
      within = omega (arith, length-append history later);
      bytes = λ address on.
          reads.bytes address on ∙ sym (flat_byte_of-longer base history later count address reads.within);
    }

pub past-longer : (base : Content) (history later : List Entry) (byte : ℕ → ℕ) → IsPast base history byte
    → IsPast base (history ++ later) byte
past-longer base history later byte past line =
    let reads = past line in (reads.0, reads-longer base history later byte line reads.0 reads.1)

pub past-laid : (base : Content) (history : List Entry) (below : ℕ → ℕ) (xs ys : List Post) → xs ≡ ys
    → IsPast base history (λ address. byte_over address xs (below address))
    → IsPast base history (λ address. byte_over address ys (below address))
past-laid base history below xs ys same past =
    subst (λ (posts : List Post). IsPast base history (λ address. byte_over address posts (below address))) same past

-- the history has grown, and at most one more post waits: it is what the posts owe, and each line reads as after some
-- entries when it is laid
pub keeps-longer : (base : Content) (history later : List Entry) (marked : ℕ → Bool) (posts tail : List Post) (below : ℕ → ℕ)
    → length tail ≤ 1 → acknowledged_length (history ++ later) ≡ acknowledged_length history
    → ((from : ℕ) → from ≤ length history → marked_stores marked (drop from history) ≡ 0
    → AllWait marked (history ++ later) from tail)
    → IsPast base (history ++ later) (λ address. byte_over address (posts ++ tail) (below address))
    → IsKeeping base history marked posts below → IsKeeping base (history ++ later) marked (posts ++ tail) below
keeps-longer base history later marked posts tail below few same last laid keeping =
    let low = keeping.within in
    let acknowledged = keeping.acknowledged in
    record {
      from = keeping.from;
      acknowledged = omega arith;
      within = omega (arith, length-append history later);
      bytes = λ address is.
          keeping.bytes address is ∙ sym (flat_byte_of-longer base history later keeping.from address keeping.within);
      waits = waits-longer marked history later tail last posts keeping.from keeping.within keeping.waits;
      past = λ count. elim (cases_lt (length posts) count) [
        | inr old ↦
            past-laid base (history ++ later) below (take count posts) (take count (posts ++ tail))
            (sym (take-append-le count posts tail old))
            (past-longer base history later (λ address. byte_over address (take count posts) (below address)) (keeping.past count))
        | inl all ↦
            let whole : length (posts ++ tail) ≤ count = omega (arith, length-append posts tail) in
            past-laid base (history ++ later) below (posts ++ tail) (take count (posts ++ tail))
            (sym (take_all count (posts ++ tail) whole)) laid
      ];
    }

-- each line of a device with all its posts reads as after some entries
pub past-all : (base : Content) (history : List Entry) (marked : ℕ → Bool) (posts : List Post) (below : ℕ → ℕ)
    → IsKeeping base history marked posts below → IsPast base history (λ address. byte_over address posts (below address))
past-all base history marked posts below keeping =
    past-laid base history below (take (length posts) posts) posts (take_all (length posts) posts (omega arith))
    (keeping.past (length posts))

-- an entry that acknowledges nothing
pub acknowledged_length-same : (history : List Entry) (entry : Entry) → (is_done entry.reply && acknowledges entry.op) ≡ false
    → acknowledged_length (history ++ entry ∷ []) ≡ acknowledged_length history
acknowledged_length-same history entry silent = rw silent at (acknowledged_length-append history entry)

-- an entry that is no store to a marked line
none-more : (marked : ℕ → Bool) (history : List Entry) (entry : Entry) → is_marked_store marked entry ≡ false
    → (from : ℕ) → from ≤ length history → marked_stores marked (drop from history) ≡ 0
    → marked_stores marked (drop from (history ++ entry ∷ [])) ≡ 0
none-more marked history entry isnt from low none =
    let one : cond {A = ℕ} (is_marked_store marked entry) 1 0 ≡ 0 = rw isnt refl in
    ap (λ (entries : List Entry). marked_stores marked entries) (drop-append-le from history (entry ∷ []) low)
    ∙ marked_stores-append marked (drop from history) (entry ∷ [])
    ∙ omega (arith, marked_stores-cons marked entry [])

-- an entry that is no store to a marked line and acknowledges nothing
pub keeps-entry : (base : Content) (history : List Entry) (entry : Entry) (marked : ℕ → Bool) (posts : List Post) (below : ℕ → ℕ)
    → is_marked_store marked entry ≡ false → (is_done entry.reply && acknowledges entry.op) ≡ false
    → IsKeeping base history marked posts below → IsKeeping base (history ++ entry ∷ []) marked posts below
keeps-entry base history entry marked posts below isnt silent keeping =
    let laid = past-laid base (history ++ entry ∷ []) below posts (posts ++ []) (sym (append-nil posts))
    (past-longer base history (entry ∷ []) (λ address. byte_over address posts (below address)) (past-all base history marked posts below keeping)) in
    subst (λ (all : List Post). IsKeeping base (history ++ entry ∷ []) marked all below) (append-nil posts)
    (keeps-longer base history (entry ∷ []) marked posts [] below (omega arith) (acknowledged_length-same history entry silent)
    (none-more marked history entry isnt) laid keeping)
