-- The oldest posts are drained.
use Rattle.std.proofs.Common.{◌≡◌, ℕ, suc, ◌+◌, Bool, true, List, [], ◌∷◌, ◌++◌, Option, Some, None, take, refl, sym, ap, ◌∙◌, arith}
use Rattle.std.specs.Prelude.{All, unwrap_or}
use Rattle.ff_lines.specs.declared.post.Post.{Post}
use Rattle.ff_model.specs.Flat.{byte_after, flat_byte_of, is_done}
use Rattle.ff_model.specs.Image.{Content}
use Rattle.ff_model.specs.declared.history.Entry.{Entry}
use Rattle.ff_kept.specs.Keeping.{IsKeeping}
use Rattle.ff_kept.specs.Posted.{byte_over, posted_byte, store_of}
use Rattle.ff_kept.specs.Waiting.{AllWait, WaitsFirst}
use Rattle.ff_kept.proofs.Apart.{IsApart}
use Rattle.ff_kept.proofs.MarkedStores.{flat_byte_of-unmarked}
use Rattle.ff_kept.proofs.Prefixes.{flat_byte_of-next}
use Rattle.ff_kept.proofs.Waiting.{next-within}

-- a byte after posts, and then after some more
pub byte_over-append : (address : ℕ) (xs ys : List Post) (byte : ℕ)
    → byte_over address (xs ++ ys) byte ≡ byte_over address ys (byte_over address xs byte)
byte_over-append address [] ys byte = refl
byte_over-append address (post ∷ later) ys byte =
    byte_over-append address later ys (unwrap_or (posted_byte address post) byte)

-- what the store that a post is leaves at an address
pub byte_after-posted : (address : ℕ) (entry : Entry) (post : Post) (byte : ℕ) → is_done entry.reply ≡ true
    → entry.op ≡ store_of post
    → byte_after address entry.op entry.reply byte ≡ unwrap_or (posted_byte address post) byte
byte_after-posted address entry post byte done store = rw (done, store) refl

-- the oldest post was drained
oldest-drained : (base : Content) (history : List Entry) (marked : ℕ → Bool) (post : Post) (posts : List Post) (below : ℕ → ℕ)
    → All (IsApart marked) history → (keeping : IsKeeping base history marked (post ∷ posts) below)
    → (position : Option ℕ)
    → WaitsFirst marked history keeping.from post (λ next. AllWait marked history next posts) position
    → IsKeeping base history marked posts (λ address. unwrap_or (posted_byte address post) (below address))
oldest-drained base history marked post posts below apart keeping None waits = record {
  from = keeping.from;
  acknowledged = keeping.acknowledged;
  within = keeping.within;
  bytes = λ address is. rw (waits.0 address is) (keeping.bytes address is);
  waits = waits.1;
  past = λ count. keeping.past (suc count);
}
oldest-drained base history marked post posts below apart keeping (Some position) waits =
    let next = waits.0 in
    let within = next-within marked history keeping.from position post next in
    let low = next.from_on in
    let acknowledged = keeping.acknowledged in
    record {
      from = position + 1;
      acknowledged = omega arith;
      within = omega arith;
      bytes = λ address is.
          let before = flat_byte_of-unmarked base history marked keeping.from position address low apart next.none_between is in
          let after = flat_byte_of-next base history position address next.entry next.there in
          let stored = byte_after-posted address next.entry post (flat_byte_of base (take position history) address) next.done next.store in
          sym (after ∙ stored ∙ ap (λ (byte : ℕ). unwrap_or (posted_byte address post) byte) (before ∙ sym (keeping.bytes address is)));
      waits = waits.1;
      past = λ count. keeping.past (suc count);
    }

-- the oldest posts were drained
pub keeps-drained : (base : Content) (history : List Entry) (marked : ℕ → Bool) (drained posts : List Post) (below : ℕ → ℕ)
    → All (IsApart marked) history → IsKeeping base history marked (drained ++ posts) below
    → IsKeeping base history marked posts (λ address. byte_over address drained (below address))
keeps-drained base history marked [] posts below apart keeping = keeping
keeps-drained base history marked (post ∷ drained) posts below apart keeping =
    keeps-drained base history marked drained posts (λ address. unwrap_or (posted_byte address post) (below address)) apart
    (oldest-drained base history marked post (drained ++ posts) below apart keeping post.position keeping.waits)
