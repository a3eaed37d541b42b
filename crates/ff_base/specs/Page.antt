-- A page is a list of 4,096 bytes, and has 64 lines of 64 bytes.
use Rattle.std.specs.Prelude.{ℕ, ◌+◌, ◌*◌, List, ◌++◌, take, drop, replicate, slice_range}

-- how many lines a page has
abbrev pub page_lines : ℕ
page_lines = 64

-- the bytes of a line
abbrev pub line_of : List ℕ → ℕ → List ℕ
line_of page line = slice_range page (64 * line) (64 * line + 64)

-- the page with these bytes in a line
abbrev pub with_line : List ℕ → ℕ → List ℕ → List ℕ
with_line page line bytes = take (64 * line) page ++ bytes ++ drop (64 * line + 64) page

-- a line of zeros
unfoldable pub blank_line : List ℕ
blank_line = replicate 64 0

-- a page of zeros
unfoldable pub blank_page : List ℕ
blank_page = replicate 4096 0
