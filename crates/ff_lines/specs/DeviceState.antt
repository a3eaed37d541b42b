-- What a contract sees of a device of lines, and what its calls make of it.
use Rattle.std.specs.Prelude.{ℕ, ◌<◌, ◌≤◌, ◌≡◌, ◌↔◌, Bool, true, List, [], ◌∷◌, ◌++◌, length, All, if◌then◌else◌, ◌==◌}
use Rattle.ff_base.specs.declared.numbers.TheConstants.{LINE_BYTES}
use Rattle.ff_lines.specs.PageSets.{count_below, with_page, SameSet}
use Rattle.ff_lines.specs.Posts.{laid, waits_in, IsPost}
use Rattle.ff_lines.specs.declared.post.Post.{Post}

pub record DeviceState : Type 0 where
  -- how many pages there are
  pub pages : ℕ
  -- the posts that wait, from the oldest on
  pub posts : List Post
  -- the lines below the posts, by page and line
  pub below : ℕ → ℕ → List ℕ
  -- which pages are served
  pub resident : ℕ → Bool
  -- which pages work must leave resident
  pub pinned : ℕ → Bool
  -- which pages hold what was posted at some time
  pub written : ℕ → Bool
  -- how many pages may be written
  pub room : ℕ
  -- the power is on
  pub on : Bool
  -- how many operations were begun
  pub used : ℕ
  -- how many operations failed
  pub faults : ℕ
  -- how many steps of work a page may take until it is resident
  pub steps : ℕ → ℕ
  -- the most steps that a page may take
  pub most_steps : ℕ
  -- how many posts may wait
  pub most_posts : ℕ

-- the bytes of a line: the waiting posts over the line below them
abbrev pub line_at : DeviceState → ℕ → ℕ → List ℕ
line_at d page line = laid page line d.posts (d.below page line)

-- a post to the page waits
abbrev pub waits : DeviceState → ℕ → Bool
waits d page = waits_in d.posts page

-- with this page, no more pages are written than there is room for
abbrev pub HasRoom : DeviceState → ℕ → Type 0
HasRoom d page = count_below (with_page page d.written) d.pages ≤ d.room

-- what every device keeps
pub record IsDevice (d : DeviceState) : Type 0 where
  pub sizes : (page line : ℕ) → length (d.below page line) ≡ LINE_BYTES
  pub within : (page : ℕ) → d.resident page ≡ true → page < d.pages
  pub posts : All IsPost d.posts
  pub waiting : (page : ℕ) → waits d page ≡ true → d.resident page ≡ true
  pub pins : (page : ℕ) → d.pinned page ≡ true → d.resident page ≡ true
  pub few : count_below d.written d.pages ≤ d.room
  pub zero_steps : (page : ℕ) → (d.steps page ≡ 0) ↔ (d.resident page ≡ true)
  pub few_steps : (page : ℕ) → d.steps page ≤ d.most_steps
  pub few_posts : length d.posts ≤ d.most_posts

-- what no call changes
pub record SameSizes (old new : DeviceState) : Type 0 where
  pub pages : new.pages ≡ old.pages
  pub room : new.room ≡ old.room
  pub most_steps : new.most_steps ≡ old.most_steps
  pub most_posts : new.most_posts ≡ old.most_posts

-- what no call but work changes
pub record SameResidence (old new : DeviceState) : Type 0 where
  pub sizes : SameSizes old new
  pub resident : SameSet old.resident new.resident
  pub on : new.on ≡ old.on
  pub used : new.used ≡ old.used
  pub faults : new.faults ≡ old.faults

-- no post was drained
pub record SameLines (old new : DeviceState) : Type 0 where
  pub posts : new.posts ≡ old.posts
  pub below : (page line : ℕ) → new.below page line ≡ old.below page line

-- every waiting post was drained
pub record AllDrained (old new : DeviceState) : Type 0 where
  pub posts : new.posts ≡ []
  pub below : (page line : ℕ) → new.below page line ≡ line_at old page line

-- the oldest posts, in their order, were drained, and the others wait
pub record Drains (drained kept : List Post) (old new : DeviceState) : Type 0 where
  pub split : old.posts ≡ drained ++ kept
  pub below : (page line : ℕ) → new.below page line ≡ laid page line drained (old.below page line)

-- every waiting post was drained, and nothing else was done
pub record IsDrained (old new : DeviceState) : Type 0 where
  pub lines : AllDrained old new
  pub pinned : SameSet old.pinned new.pinned
  pub written : SameSet old.written new.written
  pub residence : SameResidence old new

-- a post was put last, after at most the oldest was drained
pub record IsPosted (post : Post) (old new : DeviceState) : Type 0 where
  pub drained : List Post
  pub few : length drained ≤ 1
  pub kept : List Post
  pub drains : Drains drained kept old new
  pub posts : new.posts ≡ kept ++ post ∷ []
  pub pinned : SameSet old.pinned new.pinned
  pub written : SameSet (with_page post.page.0 old.written) new.written
  pub residence : SameResidence old new

-- a page was pinned or let go, and nothing else was done
pub record IsPinned (page : ℕ) (on : Bool) (old new : DeviceState) : Type 0 where
  pub lines : SameLines old new
  pub pinned : (q : ℕ) → new.pinned q ≡ (if q == page then on else old.pinned q)
  pub written : SameSet old.written new.written
  pub residence : SameResidence old new
