-- What a power loss keeps of a device.
use Rattle.std.proofs.Common.{◌≡◌, ◌≤◌, ℕ, ◌-◌, Bool, List, length, take, drop, sym, ap, subst, arith}
use Rattle.std.specs.Prelude.{min}
use Rattle.std.proofs.Math.Path.{fun_ext}
use Rattle.std.proofs.lemmas.List.{drop_all}
use Rattle.std.proofs.lemmas.List.Elements.{All-take}
use Rattle.ff_lines.specs.DeviceState.{DeviceState, IsDevice}
use Rattle.ff_lines.specs.Posts.{IsPost, laid}
use Rattle.ff_lines.specs.declared.post.Post.{Post}
use Rattle.ff_model.specs.Legal.{IsLegal, Opening}
use Rattle.ff_model.specs.declared.history.Entry.{Entry}
use Rattle.ff_kept.specs.Keeping.{IsKeepingDevice, PowerLossKeeps}
use Rattle.ff_kept.specs.Marked.{marked_at}
use Rattle.ff_kept.specs.Posted.{below_byte, byte_in_lines, byte_over}
use Rattle.ff_kept.specs.Waiting.{kept_length}
use Rattle.ff_kept.proofs.LineBytes.{byte_in_lines-laid}
use Rattle.ff_kept.proofs.Losing.{keeps-lost}
use Rattle.ff_kept.proofs.KeepingDrained.{legal-apart}

-- so many of the oldest posts arrive at a power loss, and the others are lost
pub keeping-lost : (opening : Opening) (history : List Entry) (d : DeviceState) (left : ℕ → ℕ → List ℕ) (arrive window : ℕ)
    → IsLegal opening history → IsDevice d → length d.posts ≤ window
    → ((page line : ℕ) → left page line ≡ laid page line (take arrive d.posts) (d.below page line))
    → IsKeepingDevice opening.base history d
    → PowerLossKeeps opening.base history (marked_at opening.base history) (byte_in_lines left)
    (kept_length (drop arrive d.posts) (length history)) (window - min arrive window)
keeping-lost opening history d left arrive window legal is few laid_are keeping =
    let base = opening.base in
    let marked : ℕ → Bool = marked_at base history in
    let bytes : (address : ℕ) → byte_over address (take arrive d.posts) (below_byte d address) ≡ byte_in_lines left address =
    λ address. sym (byte_in_lines-laid address (take arrive d.posts) d.below left (All-take IsPost arrive d.posts is.posts) is.sizes laid_are) in
    subst (λ (byte : ℕ → ℕ). PowerLossKeeps base history marked byte (kept_length (drop arrive d.posts) (length history)) (window - min arrive window))
    (fun_ext bytes)
    (keeps-lost base history marked d.posts (below_byte d) arrive (window - min arrive window) (legal-apart opening history legal)
    (omega arith) keeping)

-- where each post arrives, the whole history is kept
pub kept_length-all : (posts : List Post) (arrive entries : ℕ) → length posts ≤ arrive
    → kept_length (drop arrive posts) entries ≡ entries
kept_length-all posts arrive entries few =
    ap (λ (lost : List Post). kept_length lost entries) (drop_all arrive posts few)
