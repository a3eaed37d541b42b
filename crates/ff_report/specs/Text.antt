-- The texts of a session. Every line ends with LF, numbers are decimal, and bytes are lower-case
-- hexadecimal digits.
use Rattle.std.specs.Prelude.{ℕ, List, [], ◌∷◌, ◌++◌, codes, decimal, length}
use Rattle.std.specs.List.{flat_map}
use Rattle.ff_model.specs.declared.history.Entry.{Entry}
use Rattle.ff_report.specs.CountsText.{turns_line, lines_line, moves_line, flash_line, kept_line}
use Rattle.ff_report.specs.EntryText.{entries_text}
use Rattle.ff_report.specs.ImageText.{image_line, image_text}
use Rattle.ff_report.specs.SessionParts.{SessionPartsView}

-- lines, one after the other
abbrev pub lines_text : List (List ℕ) → List ℕ
lines_text lines = flat_map (λ line. line) lines

-- the line that opens the text of a session, counted from 0
unfoldable pub session_line : ℕ → List ℕ
session_line at = codes "session " ++ decimal at ++ codes "\n"

-- the line that ends a text
unfoldable pub end_line : List ℕ
end_line = codes "end\n"

-- a session's calls
abbrev pub calls_text : ℕ → List Entry → List ℕ
calls_text at entries = session_line at ++ entries_text entries

-- the lines of a session's numbers: what it counted, and how many pages its image holds
abbrev pub number_lines : SessionPartsView → List (List ℕ)
number_lines session =
    turns_line session.turns ∷ lines_line session.counts ∷ moves_line session.counts
    ∷ flash_line session.counts ∷ kept_line session.kept ∷ image_line session.image ∷ []

-- the text of a session
abbrev pub session_text : ℕ → SessionPartsView → List ℕ
session_text at session =
    calls_text at session.entries
    ++ (lines_text (number_lines session) ++ (image_text session.image ++ end_line))

-- the line that opens the summary of a generated trace, with the number that it was made of
unfoldable pub load_line : ℕ → List ℕ
load_line number = codes "load " ++ decimal number ++ codes "\n"

-- the line of how many calls were answered
unfoldable pub calls_line : ℕ → List ℕ
calls_line calls = codes "calls " ++ decimal calls ++ codes "\n"

-- the summary of a session whose trace was generated
abbrev pub summary_text : ℕ → SessionPartsView → List ℕ
summary_text number session =
    lines_text (load_line number ∷ calls_line (length session.entries) ∷ [])
    ++ (lines_text (number_lines session) ++ end_line)
