-- Posted stores, and what they make of a line.
use Rattle.std.specs.Prelude.{ℕ, ◌+◌, ◌<◌, ◌≤◌, ◌==◌, ◌&&◌, Bool, List, [], ◌∷◌, length, if◌then◌else◌}
use Rattle.std.specs.List.{list_any}
use Rattle.ff_base.specs.declared.numbers.TheConstants.{LINE_BYTES, PAGE_LINES}
use Rattle.ff_lines.specs.Overlay.{overlaid}
use Rattle.ff_lines.specs.declared.post.Post.{Post}

-- the post is to this line of this page
abbrev pub is_to : ℕ → ℕ → Post → Bool
is_to page line post = (post.page.0 == page) && (post.line == line)

-- a line after a post
abbrev pub laid_on : ℕ → ℕ → Post → List ℕ → List ℕ
laid_on page line post bytes =
    if is_to page line post then overlaid bytes post.from post.bytes else bytes

-- a line after posts, in their order
abbrev pub laid : ℕ → ℕ → List Post → List ℕ → List ℕ
laid page line [] bytes = bytes
laid page line (post ∷ later) bytes = laid page line later (laid_on page line post bytes)

-- a post to the page is among them
abbrev pub waits_in : List Post → ℕ → Bool
waits_in posts page = list_any (λ post. post.page.0 == page) posts

-- the post is to bytes of one line
pub record IsPost (post : Post) : Type 0 where
  pub line : post.line < PAGE_LINES
  pub span : post.from + length post.bytes ≤ LINE_BYTES
