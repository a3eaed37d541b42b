-- A line, and a page, of which some bytes are replaced.
use Rattle.std.specs.Prelude.{ℕ, ◌+◌, List, ◌++◌, length, take, drop}
use Rattle.ff_base.specs.Page.{line_of, with_line}

-- the bytes of a line with some of them replaced, from an offset on
abbrev pub overlaid : List ℕ → ℕ → List ℕ → List ℕ
overlaid line from bytes = take from line ++ bytes ++ drop (from + length bytes) line

-- the bytes of a page with some of a line replaced, from an offset on
abbrev pub page_overlaid : List ℕ → ℕ → ℕ → List ℕ → List ℕ
page_overlaid page line from bytes = with_line page line (overlaid (line_of page line) from bytes)
