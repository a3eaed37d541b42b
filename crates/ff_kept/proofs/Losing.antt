-- A power loss: so many of the oldest posts arrive, and the others are lost.
use Rattle.std.proofs.Common.{◌≡◌, ◌≤◌, ℕ, ◌+◌, Bool, List, [], ◌∷◌, Option, Some, None, length, take, drop, sym, ap, subst, ◌∙◌, length-drop, arith}
use Rattle.std.specs.Prelude.{All, slice_range, unwrap_or}
use Rattle.std.proofs.lemmas.List.{take-append-drop, take_rest}
use Rattle.ff_lines.specs.declared.post.Post.{Post}
use Rattle.ff_model.specs.Image.{Content}
use Rattle.ff_model.specs.declared.history.Entry.{Entry}
use Rattle.ff_kept.specs.Keeping.{IsKeeping, KeepsAt, PowerLossKeeps}
use Rattle.ff_kept.specs.Marked.{marked_at, marked_stores}
use Rattle.ff_kept.specs.Posted.{byte_over}
use Rattle.ff_kept.specs.Waiting.{AllWait, WaitsFirst, kept_length}
use Rattle.ff_kept.proofs.Apart.{IsApart, apart}
use Rattle.ff_kept.proofs.Draining.{keeps-drained}
use Rattle.ff_kept.proofs.MarkedStores.{flat_byte_of-unmarked, marked_stores-split}
use Rattle.ff_kept.proofs.Marks.{marked_at-by_line}
use Rattle.ff_kept.proofs.Waiting.{next-within, waits-few}

-- the first entry that is lost, from a position of the history on
record IsLostFrom (marked : ℕ → Bool) (history : List Entry) (from kept : ℕ) : Type 0 where
  from_on : from ≤ kept
  within : kept ≤ length history
  none_between : marked_stores marked (slice_range history from kept) ≡ 0

first-lost : (marked : ℕ → Bool) (history : List Entry) (from kept : ℕ) (post : Post) (waiting : ℕ → Type 0)
    → (waiting from → IsLostFrom marked history from kept) → (position : Option ℕ)
    → WaitsFirst marked history from post waiting position → IsLostFrom marked history from (unwrap_or position kept)
first-lost marked history from kept post waiting rest None waits = rest waits.1
first-lost marked history from kept post waiting rest (Some position) waits =
    let next = waits.0 in
    let within = next-within marked history from position post next in
    record { from_on = next.from_on; within = omega arith; none_between = next.none_between }

-- no store to a marked line lies between what is read and what is lost
lost-from : (marked : ℕ → Bool) (history : List Entry) (posts : List Post) (from : ℕ) → from ≤ length history
    → AllWait marked history from posts → IsLostFrom marked history from (kept_length posts (length history))
lost-from marked history [] from low waits = record {
  from_on = low;
  within = omega arith;
  none_between = ap (λ (entries : List Entry). marked_stores marked entries) (take_rest history from) ∙ waits;
}
lost-from marked history (post ∷ posts) from low waits =
    first-lost marked history from (kept_length posts (length history)) post (λ next. AllWait marked history next posts)
    (lost-from marked history posts from low) post.position waits

-- every post is lost
all-lost : (base : Content) (history : List Entry) (marked : ℕ → Bool) (posts : List Post) (below : ℕ → ℕ) (lost : ℕ)
    → All (IsApart marked) history → length posts ≤ lost → IsKeeping base history marked posts below
    → PowerLossKeeps base history marked below (kept_length posts (length history)) lost
all-lost base history marked posts below lost apart few keeping =
    let kept : ℕ = kept_length posts (length history) in
    let is = lost-from marked history posts keeping.from keeping.within keeping.waits in
    let low = is.from_on in
    let acknowledged = keeping.acknowledged in
    record {
      acknowledged = omega arith;
      within = is.within;
      bytes = λ address on.
          keeping.bytes address on
          ∙ sym (flat_byte_of-unmarked base history marked keeping.from kept address is.from_on apart is.none_between on);
      few = omega (
        arith,
        marked_stores-split marked history keeping.from kept is.from_on,
        is.none_between,
        waits-few marked history posts keeping.from keeping.waits,
      );
      past = keeping.past 0;
    }

-- so many of the oldest posts arrive, and the others are lost
pub keeps-lost : (base : Content) (history : List Entry) (marked : ℕ → Bool) (posts : List Post) (below : ℕ → ℕ) (arrive lost : ℕ)
    → All (IsApart marked) history → length posts ≤ arrive + lost → IsKeeping base history marked posts below
    → PowerLossKeeps base history marked (λ address. byte_over address (take arrive posts) (below address))
    (kept_length (drop arrive posts) (length history)) lost
keeps-lost base history marked posts below arrive lost apart few keeping =
    all-lost base history marked (drop arrive posts) (λ address. byte_over address (take arrive posts) (below address)) lost apart
    (omega (arith, length-drop arrive posts))
    (keeps-drained base history marked (take arrive posts) (drop arrive posts) below apart
    (subst (λ (all : List Post). IsKeeping base history marked all below) (sym (take-append-drop arrive posts)) keeping))

-- so many entries are kept of each history that is kept over the posts
pub keeps_at : (posts : List Post) (arrive entries kept : ℕ) → kept ≡ kept_length (drop arrive posts) entries
    → KeepsAt posts arrive entries kept
keeps_at posts arrive entries kept is = record {
  keeps = λ opening history below lost legal size few keeping.
      let base = opening.base in
      let marked : ℕ → Bool = marked_at base history in
      let same : kept_length (drop arrive posts) (length history) ≡ kept =
      ap (λ (n : ℕ). kept_length (drop arrive posts) n) size ∙ sym is in
      subst (λ (n : ℕ). PowerLossKeeps base history marked (λ address. byte_over address (take arrive posts) (below address)) n lost) same
      (keeps-lost base history marked posts below arrive lost
      (apart marked opening history (marked_at-by_line base history) legal) few keeping);
}
