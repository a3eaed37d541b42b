-- What a device keeps when posts are drained, at a step of work, and when a page is pinned.
use Rattle.std.proofs.Common.{◌≡◌, inl, inr, ℕ, ◌/◌, ◌%◌, Bool, List, [], ◌++◌, take, drop, get_or, sym, ap, subst}
use Rattle.std.specs.Prelude.{All}
use Rattle.std.proofs.Math.Path.{fun_ext}
use Rattle.std.proofs.lemmas.List.{append-nil, take-append-drop}
use Rattle.ff_lines.specs.DeviceState.{AllDrained, DeviceState, Drains, IsDevice, IsDrained, IsPinned, SameLines}
use Rattle.ff_lines.specs.Posts.{laid}
use Rattle.ff_lines.specs.Works.{KeepsLines}
use Rattle.ff_lines.specs.declared.post.Post.{Post}
use Rattle.ff_model.specs.Image.{Content}
use Rattle.ff_model.specs.Legal.{IsLegal, Opening}
use Rattle.ff_model.specs.declared.history.Entry.{Entry}
use Rattle.ff_kept.specs.Keeping.{IsKeeping, IsKeepingDevice}
use Rattle.ff_kept.specs.Marked.{marked_at}
use Rattle.ff_kept.specs.Posted.{below_byte, byte_over}
use Rattle.ff_kept.proofs.Apart.{IsApart, apart}
use Rattle.ff_kept.proofs.Draining.{keeps-drained}
use Rattle.ff_kept.proofs.LineBytes.{below_byte-drains}
use Rattle.ff_kept.proofs.Marks.{marked_at-by_line}

-- each entry of a legal history leaves the bytes of the marked lines, unless it is a store to one
pub legal-apart : (opening : Opening) (history : List Entry) → IsLegal opening history
    → All (IsApart (marked_at opening.base history)) history
legal-apart opening history legal =
    apart (marked_at opening.base history) opening history (marked_at-by_line opening.base history) legal

-- the same posts
pub same-posts : (base : Content) (history : List Entry) (marked : ℕ → Bool) (xs ys : List Post) (below : ℕ → ℕ) → xs ≡ ys
    → IsKeeping base history marked xs below → IsKeeping base history marked ys below
same-posts base history marked xs ys below same =
    subst (λ (posts : List Post). IsKeeping base history marked posts below) same

-- the same bytes
same-bytes : (base : Content) (history : List Entry) (marked : ℕ → Bool) (posts : List Post) (f g : ℕ → ℕ)
    → ((address : ℕ) → f address ≡ g address) → IsKeeping base history marked posts f → IsKeeping base history marked posts g
same-bytes base history marked posts f g same =
    subst (λ (below : ℕ → ℕ). IsKeeping base history marked posts below) (fun_ext same)

-- the posts that wait after the oldest were drained, and the bytes below them
pub keeps-rest : (opening : Opening) (history : List Entry) (drained kept : List Post) (old new : DeviceState)
    → IsLegal opening history → IsDevice old → Drains drained kept old new → IsKeepingDevice opening.base history old
    → IsKeeping opening.base history (marked_at opening.base history) kept (below_byte new)
keeps-rest opening history drained kept old new legal is drains keeping =
    let marked : ℕ → Bool = marked_at opening.base history in
    same-bytes opening.base history marked kept (λ address. byte_over address drained (below_byte old address))
    (below_byte new) (λ address. sym (below_byte-drains drained kept old new address is drains))
    (keeps-drained opening.base history marked drained kept (below_byte old) (legal-apart opening history legal)
    (same-posts opening.base history marked old.posts (drained ++ kept) (below_byte old) drains.split keeping))

-- the oldest posts were drained, and the others wait
pub keeping-drains : (opening : Opening) (history : List Entry) (drained kept : List Post) (old new : DeviceState)
    → IsLegal opening history → IsDevice old → Drains drained kept old new → new.posts ≡ kept
    → IsKeepingDevice opening.base history old → IsKeepingDevice opening.base history new
keeping-drains opening history drained kept old new legal is drains posts keeping =
    same-posts opening.base history (marked_at opening.base history) kept new.posts (below_byte new) (sym posts)
    (keeps-rest opening history drained kept old new legal is drains keeping)

-- so many of the oldest posts were drained
pub keeping-first_drained : (opening : Opening) (history : List Entry) (count : ℕ) (old new : DeviceState)
    → IsLegal opening history → IsDevice old → new.posts ≡ drop count old.posts
    → ((page line : ℕ) → new.below page line ≡ laid page line (take count old.posts) (old.below page line))
    → IsKeepingDevice opening.base history old → IsKeepingDevice opening.base history new
keeping-first_drained opening history count old new legal is posts below keeping =
    keeping-drains opening history (take count old.posts) (drop count old.posts) old new legal is
    (record { split = sym (take-append-drop count old.posts); below = below }) posts keeping

-- every post was drained
pub keeping-all_drained : (opening : Opening) (history : List Entry) (old new : DeviceState) → IsLegal opening history
    → IsDevice old → AllDrained old new → IsKeepingDevice opening.base history old
    → IsKeepingDevice opening.base history new
keeping-all_drained opening history old new legal is drained keeping =
    keeping-drains opening history old.posts [] old new legal is
    (record { split = sym (append-nil old.posts); below = drained.below }) drained.posts keeping

-- every post was drained, and nothing else was done
pub keeping-drained : (opening : Opening) (history : List Entry) (old new : DeviceState) → IsLegal opening history
    → IsDevice old → IsDrained old new → IsKeepingDevice opening.base history old
    → IsKeepingDevice opening.base history new
keeping-drained opening history old new legal is drained keeping =
    keeping-all_drained opening history old new legal is drained.lines keeping

-- no post was drained
pub keeping-same : (base : Content) (history : List Entry) (old new : DeviceState) → SameLines old new
    → IsKeepingDevice base history old → IsKeepingDevice base history new
keeping-same base history old new same keeping =
    let marked : ℕ → Bool = marked_at base history in
    same-bytes base history marked new.posts (below_byte old) (below_byte new)
    (λ address. ap (λ (bytes : List ℕ). get_or bytes (address % 64) 0)
    (sym (same.below (address / 4096) (address % 4096 / 64))))
    (same-posts base history marked old.posts new.posts (below_byte old) (sym same.posts) keeping)

-- a step of work
pub keeping-worked : (opening : Opening) (history : List Entry) (old new : DeviceState) → IsLegal opening history
    → IsDevice old → KeepsLines old new → IsKeepingDevice opening.base history old
    → IsKeepingDevice opening.base history new
keeping-worked opening history old new legal is worked keeping = elim worked.lines [
  | inl same ↦ keeping-same opening.base history old new same keeping
  | inr drained ↦ keeping-all_drained opening history old new legal is drained keeping
]

-- a page was pinned or let go
pub keeping-pinned : (base : Content) (history : List Entry) (page : ℕ) (on : Bool) (old new : DeviceState)
    → IsPinned page on old new → IsKeepingDevice base history old → IsKeepingDevice base history new
keeping-pinned base history page on old new pinned keeping = keeping-same base history old new pinned.lines keeping
