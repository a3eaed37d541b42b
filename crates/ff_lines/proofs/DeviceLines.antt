-- The lines of a device after each of its calls.
use Rattle.std.proofs.Common.{◌≡◌, ◌≤◌, inl, inr, ℕ, ◌+◌, ◌==◌, Bool, true, false, List, [], ◌∷◌, ◌++◌, length, refl, sym, ap, ◌∙◌, arith, append_assoc}
use Rattle.std.specs.Prelude.{All, if◌then◌else◌}
use Rattle.std.proofs.lemmas.Bool.{or_parts, and_left}
use Rattle.std.proofs.lemmas.List.Elements.{All-head, All-tail}
use Rattle.ff_lines.specs.DeviceState.{DeviceState, line_at, waits, IsDevice, SameLines, AllDrained, Drains, IsDrained, IsPosted, IsPinned}
use Rattle.ff_lines.specs.Overlay.{overlaid}
use Rattle.ff_lines.specs.Posts.{is_to, laid_on, laid, waits_in, IsPost}
use Rattle.ff_lines.specs.Works.{KeepsLines}
use Rattle.ff_lines.specs.declared.post.Post.{Post}
use Rattle.ff_lines.proofs.Overlaid.{length-overlaid}

-- posts after posts
pub laid-append : (page line : ℕ) (xs ys : List Post) (bytes : List ℕ)
    → laid page line (xs ++ ys) bytes ≡ laid page line ys (laid page line xs bytes)
laid-append page line [] ys bytes = refl
laid-append page line (x ∷ xs) ys bytes = laid-append page line xs ys (laid_on page line x bytes)

overlaid_or_not : (to : Bool) (post : Post) (bytes : List ℕ) → IsPost post → length bytes ≡ 64
    → length (if to then overlaid bytes post.from post.bytes else bytes) ≡ 64
overlaid_or_not false post bytes is size = size
overlaid_or_not true post bytes is size =
    let fits : post.from + length post.bytes ≤ length bytes = omega (arith, is.span) in
    length-overlaid bytes post.from post.bytes fits ∙ size

-- posts leave a line its size
pub length-laid : (page line : ℕ) (posts : List Post) (bytes : List ℕ) → All IsPost posts → length bytes ≡ 64
    → length (laid page line posts bytes) ≡ 64
length-laid page line [] bytes all size = size
length-laid page line (post ∷ later) bytes all size =
    length-laid page line later (laid_on page line post bytes) (All-tail IsPost post later all)
    (overlaid_or_not (is_to page line post) post bytes (All-head IsPost post later all) size)

-- each line of a device has 64 bytes
pub length-line_at : (d : DeviceState) (page line : ℕ) → IsDevice d → length (line_at d page line) ≡ 64
length-line_at d page line is = length-laid page line d.posts (d.below page line) is.posts (is.sizes page line)

-- a page for which nothing waits reads as below
pub laid-unposted : (page line : ℕ) (posts : List Post) (bytes : List ℕ) → waits_in posts page ≡ false
    → laid page line posts bytes ≡ bytes
laid-unposted page line [] bytes none = refl
laid-unposted page line (post ∷ later) bytes none =
    let parts = or_parts (post.page.0 == page) (waits_in later page) none in
    let elsewhere : is_to page line post ≡ false = and_left (post.page.0 == page) (post.line == line) parts.0 in
    rw elsewhere (laid-unposted page line later bytes parts.1)

-- draining leaves every line
pub line_at-all_drained : (old new : DeviceState) (page line : ℕ) → AllDrained old new
    → line_at new page line ≡ line_at old page line
line_at-all_drained old new page line is = rw is.posts (is.below page line)

pub line_at-same : (old new : DeviceState) (page line : ℕ) → SameLines old new
    → line_at new page line ≡ line_at old page line
line_at-same old new page line is = rw (is.posts, is.below page line) refl

pub line_at-drained : (old new : DeviceState) (page line : ℕ) → IsDrained old new
    → line_at new page line ≡ line_at old page line
line_at-drained old new page line is = line_at-all_drained old new page line is.lines

-- the oldest posts are laid over the line, and then the others
pub line_at-drains : (drained kept : List Post) (old new : DeviceState) (page line : ℕ) → Drains drained kept old new
    → laid page line kept (new.below page line) ≡ line_at old page line
line_at-drains drained kept old new page line is =
    rw (is.below page line, is.split) (sym (laid-append page line drained kept (old.below page line)))

-- a post changes the line that it is to
pub line_at-posted : (post : Post) (old new : DeviceState) (page line : ℕ) → IsPosted post old new
    → line_at new page line ≡ laid_on page line post (line_at old page line)
line_at-posted post old new page line is =
    rw is.posts (
    laid-append page line is.kept (post ∷ []) (new.below page line)
    ∙ ap (λ bytes. laid_on page line post bytes) (line_at-drains is.drained is.kept old new page line is.drains))

-- a pin leaves every line
pub line_at-pinned : (q : ℕ) (on : Bool) (old new : DeviceState) (page line : ℕ) → IsPinned q on old new
    → line_at new page line ≡ line_at old page line
line_at-pinned q on old new page line is = line_at-same old new page line is.lines

-- a step of work leaves every line
pub line_at-worked : (old new : DeviceState) (page line : ℕ) → KeepsLines old new
    → line_at new page line ≡ line_at old page line
line_at-worked old new page line is = elim is.lines [
  | inl same ↦ line_at-same old new page line same
  | inr drained ↦ line_at-all_drained old new page line drained
]

-- nothing waits after all posts were drained
pub waits-all_drained : (old new : DeviceState) (page : ℕ) → AllDrained old new → waits new page ≡ false
waits-all_drained old new page is = rw is.posts refl

-- some posts were drained, and then some more
pub drains_more : (xs ys kept : List Post) (a b c : DeviceState) → Drains xs b.posts a b → Drains ys kept b c
    → Drains (xs ++ ys) kept a c
drains_more xs ys kept a b c first second = record {
  split = first.split ∙ ap (λ posts. xs ++ posts) second.split ∙ sym (append_assoc xs ys kept);
  below = λ page line. second.below page line ∙ ap (λ bytes. laid page line ys bytes) (first.below page line)
      ∙ sym (laid-append page line xs ys (a.below page line));
}
