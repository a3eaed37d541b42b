-- The lines of a page over one line of which a piece was laid.
use Rattle.std.proofs.Common.{◌≡◌, ◌≢◌, ◌≤◌, ◌<◌, inl, inr, ℕ, ◌+◌, ◌==◌, true, false, List, length, refl, sym, ap, ◌∙◌, arith}
use Rattle.std.specs.Prelude.{if◌then◌else◌, nat_lt}
use Rattle.std.proofs.lemmas.Bool.{cases_eq, cases_lt, eq-eqb, ne_eqb, lt-ltb, le-ltb}
use Rattle.ff_base.specs.Page.{blank_line, blank_page, line_of, with_line}
use Rattle.ff_base.proofs.PageLines.{length-line_of, length-with_line, line_of-with_line_same, line_of-with_line_other}
use Rattle.ff_lines.specs.BlankLine.{line_or_blank}
use Rattle.ff_lines.specs.Overlay.{overlaid, page_overlaid}
use Rattle.ff_lines.specs.Posts.{laid_on, IsPost}
use Rattle.ff_lines.specs.declared.post.Post.{Post}
use Rattle.ff_lines.proofs.Overlaid.{length-overlaid}

-- a line of zeros has 64 bytes
pub length-blank_line : length blank_line ≡ 64
unfolding blank_line
length-blank_line = refl

-- a page of zeros has 4,096 bytes
pub length-blank_page : length blank_page ≡ 4096
unfolding blank_page
length-blank_page = refl

-- each line of a page has 64 bytes
pub length-line_or_blank : (page : List ℕ) (line : ℕ) → length page ≡ 4096 → length (line_or_blank page line) ≡ 64
length-line_or_blank page line size = elim (cases_lt line 64) [
  | inl within ↦ rw (lt-ltb line 64 within) (length-line_of page line size within)
  | inr past ↦ rw (le-ltb line 64 past) length-blank_line
]

-- the line over which a piece was laid has 64 bytes
laid_size : (page : List ℕ) (line from : ℕ) (piece : List ℕ) → length page ≡ 4096 → line < 64
    → from + length piece ≤ 64 → length (overlaid (line_of page line) from piece) ≡ 64
laid_size page line from piece size within fits =
    let count : length (line_of page line) ≡ 64 = length-line_of page line size within in
    length-overlaid (line_of page line) from piece (omega arith) ∙ count

-- a page keeps its size
pub length-page_overlaid : (page : List ℕ) (line from : ℕ) (piece : List ℕ) → length page ≡ 4096 → line < 64
    → from + length piece ≤ 64 → length (page_overlaid page line from piece) ≡ 4096
length-page_overlaid page line from piece size within fits =
    length-with_line page line (overlaid (line_of page line) from piece) size within
    (laid_size page line from piece size within fits)

-- the line over which the piece was laid, and every other one
pub line_or_blank-page_overlaid : (page : List ℕ) (line other from : ℕ) (piece : List ℕ)
    → length page ≡ 4096 → line < 64 → from + length piece ≤ 64
    → line_or_blank (page_overlaid page line from piece) other
    ≡ (if line == other then overlaid (line_or_blank page other) from piece else line_or_blank page other)
line_or_blank-page_overlaid page line other from piece size within fits =
    let bytes : List ℕ = overlaid (line_of page line) from piece in
    let count : length bytes ≡ 64 = laid_size page line from piece size within fits in
    elim (cases_eq line other) [
      | inl same ↦
          let here : (line == other) ≡ true = eq-eqb line other same in
          let low : nat_lt other 64 ≡ true = lt-ltb other 64 (omega arith) in
          rw (here, low) (
          ap (λ k. line_of (with_line page line bytes) k) (sym same)
          ∙ line_of-with_line_same page line bytes size within count
          ∙ ap (λ k. overlaid (line_of page k) from piece) same)
      | inr apart ↦
          let elsewhere : (line == other) ≡ false = ne_eqb line other apart in
          rw elsewhere (elim (cases_lt other 64) [
            | inl low ↦
                let is : nat_lt other 64 ≡ true = lt-ltb other 64 low in
                rw is (line_of-with_line_other page line other bytes size within count apart)
            | inr past ↦ let is : nat_lt other 64 ≡ false = le-ltb other 64 past in rw is refl
          ])
    ]

-- a page over which a post to it was laid
pub line_or_blank-laid : (post : Post) (page : List ℕ) (line : ℕ) → length page ≡ 4096 → IsPost post
    → line_or_blank (page_overlaid page post.line post.from post.bytes) line
    ≡ laid_on post.page.0 line post (line_or_blank page line)
line_or_blank-laid post page line size is =
    let own : (post.page.0 == post.page.0) ≡ true = eq-eqb post.page.0 post.page.0 refl in
    rw own (line_or_blank-page_overlaid page post.line line post.from post.bytes size is.line is.span)

-- a post to another page leaves a line
pub laid_on-other : (post : Post) (page line : ℕ) (bytes : List ℕ) → post.page.0 ≢ page
    → laid_on page line post bytes ≡ bytes
laid_on-other post page line bytes apart =
    let elsewhere : (post.page.0 == page) ≡ false = ne_eqb post.page.0 page apart in rw elsewhere refl
