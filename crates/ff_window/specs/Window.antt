-- What a contract sees of a window of posts, and what it keeps.
use Rattle.std.specs.Prelude.{ℕ, ◌≤◌, List, [], ◌∷◌, length, All, Option, None}
use Rattle.std.specs.Option.{option_or}
use Rattle.ff_lines.specs.Posts.{IsPost}
use Rattle.ff_lines.specs.declared.post.Post.{Post}

pub record WindowView : Type 0 where
  -- the posts that wait, from the oldest on
  pub posts : List Post
  -- how many may wait
  pub room : ℕ

-- the first position that a post has
abbrev pub first_position : List Post → Option ℕ
first_position [] = None
first_position (post ∷ later) = option_or post.position (first_position later)

-- no more posts wait than may, and each is to bytes of a line
pub record IsWindowSound (window : WindowView) : Type 0 where
  pub few : length window.posts ≤ window.room
  pub posts : All IsPost window.posts
