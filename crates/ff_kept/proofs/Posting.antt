-- A post is put behind the others: a caller's store, or a landed line of a retreat.
use Rattle.std.proofs.Common.{◌≡◌, ◌≢◌, ◌≤◌, inl, inr, ℕ, ◌+◌, ◌*◌, ◌/◌, Bool, true, false, List, [], ◌∷◌, ◌++◌, Option, Some, None, length, drop, refl, sym, ap, subst, ◌∙◌, length-append, arith}
use Rattle.std.specs.Prelude.{◌&&◌, slice_range, unwrap_or}
use Rattle.std.proofs.lemmas.Bool.{cases_eq, cases_lt}
use Rattle.std.proofs.lemmas.List.{append-nil, drop_all, take_all, take_rest}
use Rattle.ff_lines.specs.Posts.{IsPost}
use Rattle.ff_lines.specs.declared.post.Post.{Post}
use Rattle.ff_model.specs.Callers.{acknowledged_length, acknowledges}
use Rattle.ff_model.specs.Flat.{flat_byte_of, is_done}
use Rattle.ff_model.specs.Image.{Content}
use Rattle.ff_model.specs.declared.history.Entry.{Entry}
use Rattle.ff_model.proofs.Appended.{flat_byte_of-append}
use Rattle.ff_kept.specs.Keeping.{IsKeeping, IsPast}
use Rattle.ff_kept.specs.Marked.{marked_stores}
use Rattle.ff_kept.specs.Posted.{byte_over, posted_byte, store_of}
use Rattle.ff_kept.specs.Waiting.{AllWait, IsNextStore, LeavesMarked, WaitsFirst}
use Rattle.ff_kept.proofs.Apart.{covering_byte-past}
use Rattle.ff_kept.proofs.Draining.{byte_after-posted, byte_over-append}
use Rattle.ff_kept.proofs.Growing.{acknowledged_length-same, keeps-longer, past-all, past-longer}
use Rattle.ff_kept.proofs.Prefixes.{slice_get-last, slice_range-longer}

-- the line of a post, counted through all pages
abbrev pub line_number : Post → ℕ
line_number post = 64 * post.page.0 + post.line

-- a post stores nothing to another line
pub posted_byte-other : (address : ℕ) (post : Post) → IsPost post → address / 64 ≢ line_number post → posted_byte address post ≡ None
posted_byte-other address post is apart =
    let at : ℕ = 4096 * post.page.0 + (64 * post.line + post.from) in
    let span = is.span in
    covering_byte-past address at post.bytes (λ from_on. elim (cases_lt address (at + length post.bytes)) [
      | inl inside ↦ let same : address / 64 ≡ line_number post = omega arith in absurd (apart same)
      | inr behind ↦ behind
    ])

-- with one more post each line reads as after some entries, where the post's own line reads as after all
past-posted : (base : Content) (history later : List Entry) (marked : ℕ → Bool) (posts : List Post) (post : Post) (below : ℕ → ℕ)
    → IsPost post
    → ((address : ℕ) → address / 64 ≡ line_number post
    → byte_over address (posts ++ post ∷ []) (below address) ≡ flat_byte_of base (history ++ later) address)
    → IsKeeping base history marked posts below
    → IsPast base (history ++ later) (λ address. byte_over address (posts ++ post ∷ []) (below address))
past-posted base history later marked posts post below is right keeping line = elim (cases_eq line (line_number post)) [
  | inl same ↦ (
    length (history ++ later),
    record {
      within = omega arith;
      bytes = λ address on.
          right address (on ∙ same)
          ∙ ap (λ (entries : List Entry). flat_byte_of base entries address)
          (sym (take_all (length (history ++ later)) (history ++ later) (omega arith)));
    },
  )
  | inr other ↦
      let old = past-longer base history later (λ address. byte_over address posts (below address)) (past-all base history marked posts below keeping) line in (
        old.0,
        record {
          within = old.1.within;
          bytes = λ address on.
              let none = posted_byte-other address post is (λ same. other (sym on ∙ same)) in
              byte_over-append address posts (post ∷ []) (below address) ∙ rw none (old.1.bytes address on);
        },
      )
]

-- the last entry of a history is what the last post is to it
waits-last : (marked : ℕ → Bool) (history : List Entry) (entry : Entry) (post : Post)
    → post.position ≡ Some (length history) → is_done entry.reply ≡ true → entry.op ≡ store_of post
    → (from : ℕ) → from ≤ length history → marked_stores marked (drop from history) ≡ 0
    → AllWait marked (history ++ entry ∷ []) from (post ∷ [])
waits-last marked history entry post position done store from low none =
    let size : length (history ++ entry ∷ []) ≤ length history + 1 = omega (arith, length-append history (entry ∷ [])) in
    let between : slice_range (history ++ entry ∷ []) from (length history) ≡ drop from history =
    slice_range-longer history (entry ∷ []) from (length history) low (omega arith) ∙ take_rest history from in
    let next : IsNextStore marked (history ++ entry ∷ []) from (length history) post = record {
      from_on = low;
      entry = entry;
      there = slice_get-last history entry;
      done = done;
      store = store;
      none_between = ap (λ (entries : List Entry). marked_stores marked entries) between ∙ none;
    } in
    let behind : marked_stores marked (drop (length history + 1) (history ++ entry ∷ [])) ≡ 0 =
    ap (λ (entries : List Entry). marked_stores marked entries) (drop_all (length history + 1) (history ++ entry ∷ []) size) in
    subst (λ (at : Option ℕ). WaitsFirst marked (history ++ entry ∷ []) from post
    (λ n. AllWait marked (history ++ entry ∷ []) n []) at) (sym position) (next, behind)

-- a store of a caller was posted, and its line had the flat bytes
pub keeps-stored : (base : Content) (history : List Entry) (entry : Entry) (marked : ℕ → Bool) (posts : List Post) (post : Post) (below : ℕ → ℕ)
    → IsPost post → post.position ≡ Some (length history) → is_done entry.reply ≡ true → entry.op ≡ store_of post
    → ((address : ℕ) → address / 64 ≡ line_number post
    → byte_over address posts (below address) ≡ flat_byte_of base history address)
    → IsKeeping base history marked posts below
    → IsKeeping base (history ++ entry ∷ []) marked (posts ++ post ∷ []) below
keeps-stored base history entry marked posts post below is position done store right keeping =
    let silent : (is_done entry.reply && acknowledges entry.op) ≡ false = rw (done, store) refl in
    let after : (address : ℕ) → address / 64 ≡ line_number post
    → byte_over address (posts ++ post ∷ []) (below address) ≡ flat_byte_of base (history ++ entry ∷ []) address =
    λ address on.
    byte_over-append address posts (post ∷ []) (below address)
    ∙ ap (λ (byte : ℕ). unwrap_or (posted_byte address post) byte) (right address on)
    ∙ sym (byte_after-posted address entry post (flat_byte_of base history address) done store)
    ∙ sym (flat_byte_of-append base history entry address) in
    keeps-longer base history (entry ∷ []) marked posts (post ∷ []) below (omega arith)
    (acknowledged_length-same history entry silent) (waits-last marked history entry post position done store)
    (past-posted base history (entry ∷ []) marked posts post below is after keeping) keeping

-- a landed line of a retreat was posted: it isn't marked, and then it has the flat bytes
pub keeps-landed : (base : Content) (history : List Entry) (marked : ℕ → Bool) (posts : List Post) (post : Post) (below : ℕ → ℕ)
    → IsPost post → post.position ≡ None → LeavesMarked marked post
    → ((address : ℕ) → address / 64 ≡ line_number post
    → byte_over address (posts ++ post ∷ []) (below address) ≡ flat_byte_of base history address)
    → IsKeeping base history marked posts below → IsKeeping base history marked (posts ++ post ∷ []) below
keeps-landed base history marked posts post below is position leaves right keeping =
    let same : history ++ [] ≡ history = append-nil history in
    let after : (address : ℕ) → address / 64 ≡ line_number post
    → byte_over address (posts ++ post ∷ []) (below address) ≡ flat_byte_of base (history ++ []) address =
    λ address on.
    right address on ∙ ap (λ (entries : List Entry). flat_byte_of base entries address) (sym same) in
    let last : (from : ℕ) → from ≤ length history → marked_stores marked (drop from history) ≡ 0
    → AllWait marked (history ++ []) from (post ∷ []) =
    λ from low none. rw same
    (subst (λ (at : Option ℕ). WaitsFirst marked history from post (λ n. AllWait marked history n []) at) (sym position)
    (leaves, none)) in
    subst (λ (entries : List Entry). IsKeeping base entries marked (posts ++ post ∷ []) below) same
    (keeps-longer base history [] marked posts (post ∷ []) below (omega arith) (ap acknowledged_length same) last
    (past-posted base history [] marked posts post below is after keeping) keeping)
