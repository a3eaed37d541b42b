-- The bytes of lines over which posts are laid, by address.
use Rattle.std.proofs.Common.{◌≡◌, inl, inr, ℕ, ◌+◌, ◌-◌, ◌*◌, ◌/◌, ◌%◌, true, false, List, [], ◌∷◌, ◌++◌, length, take, get_or, refl, sym, ap, ◌∙◌, arith}
use Rattle.std.specs.Prelude.{All, ◌==◌, nat_le, unwrap_or}
use Rattle.std.proofs.Math.Seq.{take-append_seam}
use Rattle.std.proofs.lemmas.Bool.{and_from, and_parts, cases_Bool, cases_lt, eq-eqb, eqb-true, le-leb, lt-leb}
use Rattle.std.proofs.lemmas.List.Elements.{All-cons, All-head, All-nil, All-same, All-tail, All-take}
use Rattle.ff_lines.specs.DeviceState.{DeviceState, Drains, IsDevice, line_at}
use Rattle.ff_lines.specs.Overlay.{overlaid}
use Rattle.ff_lines.specs.Posts.{IsPost, is_to, laid, laid_on}
use Rattle.ff_lines.specs.declared.post.Post.{Post}
use Rattle.ff_lines.proofs.DeviceLines.{length-laid}
use Rattle.ff_lines.proofs.Overlaid.{byte-overlaid}
use Rattle.ff_kept.specs.Posted.{below_byte, byte_in_lines, byte_over, device_byte, posted_byte}
use Rattle.ff_kept.proofs.Posting.{posted_byte-other}

-- a byte of the line that a post is to
byte-laid_here : (address : ℕ) (post : Post) (bytes : List ℕ) → IsPost post → length bytes ≡ 64
    → address / 4096 ≡ post.page.0 → address % 4096 / 64 ≡ post.line
    → get_or (overlaid bytes post.from post.bytes) (address % 64) 0
    ≡ unwrap_or (posted_byte address post) (get_or bytes (address % 64) 0)
byte-laid_here address post bytes is size page line =
    let at : ℕ = 4096 * post.page.0 + (64 * post.line + post.from) in
    let span = is.span in
    let offset : ℕ = address % 64 in
    let whole : address ≡ 4096 * post.page.0 + (64 * post.line + offset) = omega arith in
    byte-overlaid bytes post.from post.bytes offset (omega arith)
    ∙ elim (cases_lt offset post.from) [
      | inl before ↦
          let first : nat_le post.from offset ≡ false = lt-leb post.from offset before in
          let second : nat_le at address ≡ false = lt-leb at address (omega arith) in
          rw (first, second) refl
      | inr from_on ↦
          let first : nat_le post.from offset ≡ true = le-leb post.from offset from_on in
          let second : nat_le at address ≡ true = le-leb at address (omega arith) in
          let behind : offset - post.from ≡ address - at = omega arith in
          rw (first, second, behind) refl
    ]

-- a byte of a line after a post
byte-laid_on : (address : ℕ) (post : Post) (bytes : List ℕ) → IsPost post → length bytes ≡ 64
    → get_or (laid_on (address / 4096) (address % 4096 / 64) post bytes) (address % 64) 0
    ≡ unwrap_or (posted_byte address post) (get_or bytes (address % 64) 0)
byte-laid_on address post bytes is size = elim (cases_Bool (is_to (address / 4096) (address % 4096 / 64) post)) [
  | inl here ↦
      let both = and_parts (post.page.0 == address / 4096) (post.line == address % 4096 / 64) here in
      let page = eqb-true post.page.0 (address / 4096) both.0 in
      let line = eqb-true post.line (address % 4096 / 64) both.1 in
      rw here (byte-laid_here address post bytes is size (sym page) (sym line))
  | inr other ↦
      let none = posted_byte-other address post is (λ same.
      let low = is.line in
      let page : post.page.0 ≡ address / 4096 = omega arith in
      let line : post.line ≡ address % 4096 / 64 = omega arith in
      let here = and_from (post.page.0 == address / 4096) (post.line == address % 4096 / 64)
      (eq-eqb post.page.0 (address / 4096) page) (eq-eqb post.line (address % 4096 / 64) line) in
      absurd (cc (here, other))) in
      rw (other, none) refl
]

-- a byte of a line after posts
byte-laid : (address : ℕ) (posts : List Post) (bytes : List ℕ) → All IsPost posts → length bytes ≡ 64
    → get_or (laid (address / 4096) (address % 4096 / 64) posts bytes) (address % 64) 0
    ≡ byte_over address posts (get_or bytes (address % 64) 0)
byte-laid address [] bytes all size = refl
byte-laid address (post ∷ later) bytes all size =
    let page : ℕ = address / 4096 in
    let line : ℕ = address % 4096 / 64 in
    let is = All-head IsPost post later all in
    let one = All-cons IsPost post [] is (All-nil IsPost) in
    byte-laid address later (laid_on page line post bytes) (All-tail IsPost post later all)
    (length-laid page line (post ∷ []) bytes one size)
    ∙ ap (λ (byte : ℕ). byte_over address later byte) (byte-laid_on address post bytes is size)

-- the bytes of lines after posts are those of the posts over those of the lines
pub byte_in_lines-laid : (address : ℕ) (posts : List Post) (lines after : ℕ → ℕ → List ℕ) → All IsPost posts
    → ((page line : ℕ) → length (lines page line) ≡ 64)
    → ((page line : ℕ) → after page line ≡ laid page line posts (lines page line))
    → byte_in_lines after address ≡ byte_over address posts (byte_in_lines lines address)
byte_in_lines-laid address posts lines after all sizes is =
    let page : ℕ = address / 4096 in
    let line : ℕ = address % 4096 / 64 in
    ap (λ (bytes : List ℕ). get_or bytes (address % 64) 0) (is page line)
    ∙ byte-laid address posts (lines page line) all (sizes page line)

-- the bytes of a device are those of its posts over those below them
pub device_byte-over : (d : DeviceState) (address : ℕ) → IsDevice d
    → device_byte d address ≡ byte_over address d.posts (below_byte d address)
device_byte-over d address is =
    byte_in_lines-laid address d.posts d.below (line_at d) is.posts is.sizes (λ page line. refl)

All-left : {A : Type 0} (P : A → Type 0) (xs ys : List A) → All P (xs ++ ys) → All P xs
All-left {A} P xs ys all =
    All-same P xs (take (length xs) (xs ++ ys)) (sym (take-append_seam xs ys)) (All-take P (length xs) (xs ++ ys) all)

-- the bytes below the posts after the oldest were drained
pub below_byte-drains : (drained kept : List Post) (old new : DeviceState) (address : ℕ) → IsDevice old
    → Drains drained kept old new → below_byte new address ≡ byte_over address drained (below_byte old address)
below_byte-drains drained kept old new address is drains =
    let some = All-left IsPost drained kept (All-same IsPost (drained ++ kept) old.posts (sym drains.split) is.posts) in
    byte_in_lines-laid address drained old.below new.below some is.sizes drains.below
