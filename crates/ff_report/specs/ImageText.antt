-- How the image that a remount found is spelled.
use Rattle.std.specs.Prelude.{ℕ, ◌==◌, ◌-◌, ◌^◌, if◌then◌else◌, Bool, List, [], ◌++◌, Option, None, Some, codes, decimal, length, is_some, count_by, slice_index}
use Rattle.std.specs.Int.{to_be_bytes, w64}
use Rattle.std.specs.List.{flat_map, list_all, range_with_len}
use Rattle.hex.specs.Hex.{encode_lower}
use Rattle.ff_base.specs.Page.{line_of, page_lines}
use Rattle.ff_model.specs.Image.{Content, held_page}
use Rattle.ff_report.specs.Remounted.{RemountedView, Found, Faulted, Cut}

-- how many pages are held
abbrev pub held_count : Content → ℕ
held_count image = count_by is_some image.pages

-- how many pages the image holds, or why there is none
unfoldable pub image_line : RemountedView → List ℕ
image_line (Found image) = codes "pages " ++ decimal (held_count image) ++ codes "\n"
image_line Faulted = codes "no image fault\n"
image_line Cut = codes "no image off\n"

-- a page and the mask of its marked lines in 16 digits: that of all lines is left out
unfoldable pub mark_line : ℕ → ℕ → List ℕ
mark_line page mask =
    codes "mark " ++ decimal page
    ++ (if mask == 2 ^ 64 - 1 then [] else codes " " ++ encode_lower (to_be_bytes w64 mask))
    ++ codes "\n"

-- a page without a marked line has no line of text
abbrev pub mark_text : Content → ℕ → List ℕ
mark_text image page =
    let mask = slice_index image.marks page in if mask == 0 then [] else mark_line page mask

-- the numbers of an image's pages
abbrev pub page_numbers : Content → List ℕ
page_numbers image = range_with_len 0 (length image.pages)

abbrev pub marks_text : Content → List ℕ
marks_text image = flat_map (mark_text image) (page_numbers image)

-- the bytes of one line of a page
unfoldable pub bytes_line : ℕ → ℕ → List ℕ → List ℕ
bytes_line page line bytes =
    codes "line " ++ decimal page ++ codes " " ++ decimal line ++ codes " " ++ encode_lower bytes
    ++ codes "\n"

abbrev pub is_all_zero : List ℕ → Bool
is_all_zero bytes = list_all (λ byte. byte == 0) bytes

-- a line of zeros has no line of text
abbrev pub line_text : ℕ → List ℕ → ℕ → List ℕ
line_text page bytes line =
    if is_all_zero (line_of bytes line) then [] else bytes_line page line (line_of bytes line)

-- the numbers of a page's lines
unfoldable pub line_numbers : List ℕ
line_numbers = range_with_len 0 page_lines

-- a page that isn't held has no line of text
abbrev pub page_text : ℕ → Option (List ℕ) → List ℕ
page_text page None = []
page_text page (Some bytes) = flat_map (line_text page bytes) line_numbers

abbrev pub pages_text : Content → List ℕ
pages_text image = flat_map (λ page. page_text page (held_page image page)) (page_numbers image)

-- the marks and bytes of the image, where there is one
abbrev pub image_text : RemountedView → List ℕ
image_text (Found image) = marks_text image ++ pages_text image
image_text Faulted = []
image_text Cut = []
