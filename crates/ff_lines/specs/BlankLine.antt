-- The lines of a page, for every line number.
use Rattle.std.specs.Prelude.{ℕ, List, nat_lt, if◌then◌else◌}
use Rattle.ff_base.specs.declared.numbers.TheConstants.{PAGE_LINES}
use Rattle.ff_base.specs.Page.{blank_line, line_of}

-- a line of a page, and a line of zeros past the page's last
abbrev pub line_or_blank : List ℕ → ℕ → List ℕ
line_or_blank page line = if nat_lt line PAGE_LINES then line_of page line else blank_line
