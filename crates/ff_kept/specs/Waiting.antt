-- What the waiting posts are to a history: each later store to a marked line, in order.
use Rattle.std.specs.Prelude.{ℕ, ◌+◌, ◌≤◌, ◌≡◌, Bool, true, List, [], ◌∷◌, Option, Some, None, unwrap_or, slice_get, slice_range, drop}
use Rattle.ff_lines.specs.declared.post.Post.{Post}
use Rattle.ff_model.specs.Flat.{is_done}
use Rattle.ff_model.specs.declared.history.Entry.{Entry}
use Rattle.ff_kept.specs.Marked.{marked_stores}
use Rattle.ff_kept.specs.Posted.{posted_byte, store_of}

-- the post stores nothing to a marked line
abbrev pub LeavesMarked : (ℕ → Bool) → Post → Type 0
LeavesMarked marked post = (address : ℕ) → marked address ≡ true → posted_byte address post ≡ None

-- the post is the store at a position of the history, and no store to a marked line lies between an earlier one and it
pub record IsNextStore (marked : ℕ → Bool) (history : List Entry) (from position : ℕ) (post : Post) : Type 0 where
  pub from_on : from ≤ position
  pub entry : Entry
  pub there : slice_get history position ≡ Some entry
  pub done : is_done entry.reply ≡ true
  pub store : entry.op ≡ store_of post
  pub none_between : marked_stores marked (slice_range history from position) ≡ 0

-- what the oldest post is to the history from a position on, by the post's own: without one it leaves the marked lines,
-- else it is the next store to them. `Later` is what the posts behind it are to the history from a position on
abbrev pub WaitsFirst : (ℕ → Bool) → List Entry → ℕ → Post → (ℕ → Type 0) → Option ℕ → Type 0
WaitsFirst marked history from post Later None = LeavesMarked marked post × Later from
WaitsFirst marked history from post Later (Some position) =
    IsNextStore marked history from position post × Later (position + 1)

-- each store to a marked line from a position of the history on waits, in order; a post without a position is to none
abbrev pub AllWait : (ℕ → Bool) → List Entry → ℕ → List Post → Type 0
AllWait marked history from [] = marked_stores marked (drop from history) ≡ 0
AllWait marked history from (post ∷ later) =
    WaitsFirst marked history from post (λ next. AllWait marked history next later) post.position

-- of so many entries, how many are kept where these posts are lost: those before the first position that is lost
abbrev pub kept_length : List Post → ℕ → ℕ
kept_length [] entries = entries
kept_length (post ∷ later) entries = unwrap_or post.position (kept_length later entries)
