-- What a contract sees of a plain device.
use Rattle.std.specs.Prelude.{ℕ, ◌<◌, ◌≡◌, Bool, true, false, List, length, All, nat_lt, if◌then◌else◌, Option, Some, None, replicate, slice_set, slice_index_or}
use Rattle.std.specs.Option.{option_to_list}
use Rattle.ff_base.specs.declared.numbers.TheConstants.{PAGE_BYTES}
use Rattle.ff_base.specs.Page.{blank_page}
use Rattle.ff_lines.specs.BlankLine.{line_or_blank}
use Rattle.ff_lines.specs.DeviceState.{DeviceState}
use Rattle.ff_lines.specs.Overlay.{page_overlaid}
use Rattle.ff_lines.specs.Posts.{waits_in, IsPost}
use Rattle.ff_lines.specs.declared.post.Post.{Post}
use Rattle.ff_plain.specs.declared.plain.PlainPage.{PlainPage}

-- the pages, and the post that waits
pub record PlainView : Type 0 where
  pub pages : List PlainPage
  pub post : Option Post

-- a page of zeros that was never posted to
abbrev pub fresh_page : PlainPage
fresh_page = record { bytes = blank_page; pinned = false; written = false }

-- the page of a number; past the last it is fresh
abbrev pub page_at : List PlainPage → ℕ → PlainPage
page_at pages page = slice_index_or pages page fresh_page

-- so many fresh pages
abbrev pub fresh_view : ℕ → PlainView
fresh_view pages = record { pages = replicate pages fresh_page; post = None }

-- the page with a post laid over it
abbrev pub after_post : Post → PlainPage → PlainPage
after_post post page =
    record page { bytes = page_overlaid page.bytes post.line post.from post.bytes }

-- the page after something was posted to it
abbrev pub written_page : PlainPage → PlainPage
written_page page = record page { written = true }

-- the page that is pinned, or let go
abbrev pub pinned_page : Bool → PlainPage → PlainPage
pinned_page on page = record page { pinned = on }

-- the pages after the post, if one waits
abbrev pub pages_after : Option Post → List PlainPage → List PlainPage
pages_after None pages = pages
pages_after (Some post) pages =
    slice_set pages post.page.0 (after_post post (page_at pages post.page.0))

-- nothing waits, and what did is laid over its page
abbrev pub drained_view : PlainView → PlainView
drained_view plain = record { pages = pages_after plain.post plain.pages; post = None }

-- each page has its size, and the post is to bytes of a line of one of them
pub record IsPlainSound (plain : PlainView) : Type 0 where
  pub sizes : (page : ℕ) → length (page_at plain.pages page).bytes ≡ PAGE_BYTES
  pub posts : All IsPost (option_to_list plain.post)
  pub waiting : (page : ℕ) → waits_in (option_to_list plain.post) page ≡ true
      → page < length plain.pages

-- the plain device as one of lines: every page is resident, and all of them may be written
abbrev pub state_of : PlainView → DeviceState
state_of plain = record {
  pages = length plain.pages;
  posts = option_to_list plain.post;
  below = λ page line. line_or_blank (page_at plain.pages page).bytes line;
  resident = λ page. nat_lt page (length plain.pages);
  pinned = λ page. (page_at plain.pages page).pinned;
  written = λ page. (page_at plain.pages page).written;
  room = length plain.pages;
  on = true;
  used = 0;
  faults = 0;
  steps = λ page. if nat_lt page (length plain.pages) then 0 else 1;
  most_steps = 1;
  most_posts = 1;
}
