-- What an image holds.
use Rattle.std.specs.Prelude.{ℕ, ◌/◌, ◌%◌, List, Option, Some, None, unwrap_or, slice_get, slice_index, slice_set, replicate}
use Rattle.ff_base.specs.Page.{blank_line, line_of}
use Rattle.ff_base.specs.declared.numbers.TheConstants.{PAGE_BYTES}

-- for each page its bytes, where the image holds it, and for each page the mask of its marked lines
pub record Content : Type 0 where
  pub pages : List (Option (List ℕ))
  pub marks : List ℕ

-- nothing is held or marked
abbrev pub empty_content : ℕ → Content
empty_content pages = record { pages = replicate pages None; marks = replicate pages 0 }

-- the bytes of a page, where the image holds it
abbrev pub held_page : Content → ℕ → Option (List ℕ)
held_page image page = unwrap_or (slice_get image.pages page) None

-- the image with these bytes held for a page
abbrev pub with_held : Content → ℕ → List ℕ → Content
with_held image page bytes = record image { pages = slice_set image.pages page (Some bytes) }

-- the image with these lines of a page marked, and no other line of it
abbrev pub with_marked : Content → ℕ → ℕ → Content
with_marked image page lines = record image { marks = slice_set image.marks page lines }

-- a byte of a page, and zero where the page isn't held
abbrev pub byte_in : Option (List ℕ) → ℕ → ℕ
byte_in None offset = 0
byte_in (Some page) offset = slice_index page offset

-- the byte at an address
abbrev pub byte_at : Content → ℕ → ℕ
byte_at image at = byte_in (held_page image (at / PAGE_BYTES)) (at % PAGE_BYTES)

-- a line of a page, and zeros where the page isn't held
abbrev pub line_in : Option (List ℕ) → ℕ → List ℕ
line_in None line = blank_line
line_in (Some page) line = line_of page line
