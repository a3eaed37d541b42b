-- What becomes of the waiting posts when a history grows, when marks are cleared, and how many stores are lost.
use Rattle.std.proofs.Common.{◌≡◌, ◌≤◌, ◌<◌, ℕ, ◌+◌, Bool, true, List, [], ◌∷◌, ◌++◌, Option, Some, None, length, drop, ap, ◌∙◌, arith}
use Rattle.std.specs.Prelude.{slice_range}
use Rattle.std.proofs.lemmas.Option.{slice_get_within}
use Rattle.ff_lines.specs.declared.post.Post.{Post}
use Rattle.ff_model.specs.declared.history.Entry.{Entry}
use Rattle.ff_kept.specs.Marked.{marked_stores}
use Rattle.ff_kept.specs.Waiting.{AllWait, IsNextStore, WaitsFirst}
use Rattle.ff_kept.proofs.MarkedStores.{marked_stores-cons, marked_stores-fewer, marked_stores-split, weight_le}
use Rattle.ff_kept.proofs.Prefixes.{drop_next, slice_get-append_left, slice_range-longer}

pub next-within : (marked : ℕ → Bool) (history : List Entry) (from position : ℕ) (post : Post)
    → IsNextStore marked history from position post → position < length history
next-within marked history from position post next = slice_get_within history position next.entry next.there

next-longer : (marked : ℕ → Bool) (history later : List Entry) (from position : ℕ) (post : Post)
    → IsNextStore marked history from position post → IsNextStore marked (history ++ later) from position post
next-longer marked history later from position post next =
    let within = next-within marked history from position post next in
    record {
      from_on = next.from_on;
      entry = next.entry;
      there = slice_get-append_left history later position next.entry next.there;
      done = next.done;
      store = next.store;
      none_between = ap (λ (entries : List Entry). marked_stores marked entries)
          (slice_range-longer history later from position next.from_on (omega arith))
          ∙ next.none_between;
    }

first-longer : (marked : ℕ → Bool) (history later : List Entry) (from : ℕ) (post : Post) (old new : ℕ → Type 0)
    → ((next : ℕ) → next ≤ length history → old next → new next) → from ≤ length history → (position : Option ℕ)
    → WaitsFirst marked history from post old position → WaitsFirst marked (history ++ later) from post new position
first-longer marked history later from post old new rest low None waits = (waits.0, rest from low waits.1)
first-longer marked history later from post old new rest low (Some position) waits =
    let within = next-within marked history from position post waits.0 in
    (next-longer marked history later from position post waits.0, rest (position + 1) (omega arith) waits.1)

-- what waited still waits when the history has grown, with more posts behind where these are what is behind it
pub waits-longer : (marked : ℕ → Bool) (history later : List Entry) (tail : List Post)
    → ((from : ℕ) → from ≤ length history → marked_stores marked (drop from history) ≡ 0
    → AllWait marked (history ++ later) from tail)
    → (posts : List Post) (from : ℕ) → from ≤ length history → AllWait marked history from posts
    → AllWait marked (history ++ later) from (posts ++ tail)
waits-longer marked history later tail last [] from low waits = last from low waits
waits-longer marked history later tail last (post ∷ posts) from low waits =
    first-longer marked history later from post
    (λ next. AllWait marked history next posts) (λ next. AllWait marked (history ++ later) next (posts ++ tail))
    (waits-longer marked history later tail last posts) low post.position waits

first-fewer : (fewer marked : ℕ → Bool) (history : List Entry) (from : ℕ) (post : Post) (old new : ℕ → Type 0)
    → ((address : ℕ) → fewer address ≡ true → marked address ≡ true)
    → ((next : ℕ) → old next → new next) → (position : Option ℕ)
    → WaitsFirst marked history from post old position → WaitsFirst fewer history from post new position
first-fewer fewer marked history from post old new less rest None waits =
    (λ address is. waits.0 address (less address is), rest from waits.1)
first-fewer fewer marked history from post old new less rest (Some position) waits =
    let next = waits.0 in
    let most = marked_stores-fewer fewer marked (slice_range history from position) less in (
      record {
        from_on = next.from_on;
        entry = next.entry;
        there = next.there;
        done = next.done;
        store = next.store;
        none_between = omega (arith, next.none_between, most);
      },
      rest (position + 1) waits.1,
    )

-- what waits, waits where fewer lines are marked
pub waits-fewer : (fewer marked : ℕ → Bool) (history : List Entry)
    → ((address : ℕ) → fewer address ≡ true → marked address ≡ true)
    → (posts : List Post) (from : ℕ) → AllWait marked history from posts → AllWait fewer history from posts
waits-fewer fewer marked history less [] from waits =
    let most = marked_stores-fewer fewer marked (drop from history) less in omega arith
waits-fewer fewer marked history less (post ∷ posts) from waits =
    first-fewer fewer marked history from post
    (λ next. AllWait marked history next posts) (λ next. AllWait fewer history next posts)
    less (waits-fewer fewer marked history less posts) post.position waits

first-few : (marked : ℕ → Bool) (history : List Entry) (from count : ℕ) (post : Post) (waiting : ℕ → Type 0)
    → ((next : ℕ) → waiting next → marked_stores marked (drop next history) ≤ count) → (position : Option ℕ)
    → WaitsFirst marked history from post waiting position → marked_stores marked (drop from history) ≤ count + 1
first-few marked history from count post waiting rest None waits =
    let most = rest from waits.1 in omega arith
first-few marked history from count post waiting rest (Some position) waits =
    let next = waits.0 in
    let most = rest (position + 1) waits.1 in
    let split = marked_stores-split marked history from position next.from_on in
    let none : marked_stores marked (slice_range history from position) ≡ 0 = next.none_between in
    let later : marked_stores marked (drop position history) ≤ count + 1 =
    rw (drop_next history position next.entry next.there)
    (omega (arith, marked_stores-cons marked next.entry (drop (position + 1) history), weight_le marked next.entry, most)) in
    omega arith

-- no more stores to marked lines are lost than posts are
pub waits-few : (marked : ℕ → Bool) (history : List Entry) (posts : List Post) (from : ℕ)
    → AllWait marked history from posts → marked_stores marked (drop from history) ≤ length posts
waits-few marked history [] from waits = omega arith
waits-few marked history (post ∷ posts) from waits =
    let most = first-few marked history from (length posts) post (λ next. AllWait marked history next posts)
    (waits-few marked history posts) post.position waits in
    omega arith
