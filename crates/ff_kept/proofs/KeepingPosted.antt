-- What a device keeps when a post is put behind the others.
use Rattle.std.proofs.Common.{◌≡◌, ℕ, ◌+◌, ◌-◌, ◌*◌, ◌/◌, ◌%◌, Bool, true, false, List, [], ◌∷◌, ◌++◌, Some, None, length, get_or, refl, sym, ap, ◌∙◌, arith}
use Rattle.std.specs.Prelude.{◌&&◌, nat_le, slice_get, slice_index, unwrap_or}
use Rattle.std.proofs.lemmas.Bool.{le-leb}
use Rattle.std.proofs.lemmas.Option.{slice_get-get_or}
use Rattle.ff_base.specs.declared.numbers.TheConstants.{LINE_BYTES, PAGE_BYTES}
use Rattle.ff_lines.specs.DeviceState.{DeviceState, IsDevice, IsPosted}
use Rattle.ff_lines.specs.Posts.{IsPost}
use Rattle.ff_lines.specs.declared.post.Post.{Post}
use Rattle.ff_model.specs.Callers.{acknowledges, is_marked}
use Rattle.ff_model.specs.Flat.{flat_byte_of, is_done}
use Rattle.ff_model.specs.Image.{Content}
use Rattle.ff_model.specs.Legal.{IsLegal, Opening}
use Rattle.ff_model.specs.declared.history.Entry.{Entry}
use Rattle.ff_model.specs.declared.op.Op.TheVariants.{Store}
use Rattle.ff_kept.specs.Keeping.{IsKeepingDevice}
use Rattle.ff_kept.specs.Marked.{marked_at}
use Rattle.ff_kept.specs.Posted.{below_byte, byte_over, device_byte, posted_byte, store_of}
use Rattle.ff_kept.specs.Waiting.{LeavesMarked}
use Rattle.ff_kept.proofs.Draining.{byte_over-append}
use Rattle.ff_kept.proofs.LineBytes.{below_byte-drains, device_byte-over}
use Rattle.ff_kept.proofs.Posting.{keeps-landed, keeps-stored, line_number, posted_byte-other}
use Rattle.ff_kept.proofs.KeepingDrained.{keeps-rest, same-posts}
use Rattle.ff_kept.proofs.KeepingAnswered.{fewer-marked}

-- the store of a post at the page, the line and the offset of an address
pub store_of-at : (at : ℕ) (bytes : List ℕ) (post : Post) → post.page.0 ≡ at / PAGE_BYTES
    → post.line ≡ at % PAGE_BYTES / LINE_BYTES → post.from ≡ at % LINE_BYTES → post.bytes ≡ bytes
    → Store at bytes ≡ store_of post
store_of-at at bytes post page line from same =
    let whole : at ≡ 4096 * post.page.0 + (64 * post.line + post.from) = omega arith in
    ap (λ (a : ℕ). Store a bytes) whole
    ∙ ap (λ (l : List ℕ). Store (4096 * post.page.0 + (64 * post.line + post.from)) l) (sym same)

-- a line of a page reads as after the whole history
abbrev pub IsFlatLine : Content → List Entry → ℕ → ℕ → (ℕ → ℕ) → Type 0
IsFlatLine base history page line byte = (address : ℕ) → address / PAGE_BYTES ≡ page
    → address % PAGE_BYTES / LINE_BYTES ≡ line → byte address ≡ flat_byte_of base history address

-- a store of a caller was posted, and its line read as the history says
pub keeping-stored : (opening : Opening) (history : List Entry) (entry : Entry) (post : Post) (old new : DeviceState)
    → IsLegal opening history → IsDevice old → IsPost post → IsPosted post old new
    → post.position ≡ Some (length history) → is_done entry.reply ≡ true → entry.op ≡ store_of post
    → IsFlatLine opening.base history post.page.0 post.line (device_byte old)
    → IsKeepingDevice opening.base history old → IsKeepingDevice opening.base (history ++ entry ∷ []) new
keeping-stored opening history entry post old new legal is fits posted position done store right keeping =
    let base = opening.base in
    let marked : ℕ → Bool = marked_at base history in
    let silent : (is_done entry.reply && acknowledges entry.op) ≡ false = rw (done, store) refl in
    let before : (address : ℕ) → address / 64 ≡ line_number post
    → byte_over address posted.kept (below_byte new address) ≡ flat_byte_of base history address =
    λ address on.
    let low = fits.line in
    let split = posted.drains.split in
    ap (λ (byte : ℕ). byte_over address posted.kept byte) (below_byte-drains posted.drained posted.kept old new address is posted.drains)
    ∙ sym (byte_over-append address posted.drained posted.kept (below_byte old address))
    ∙ ap (λ (posts : List Post). byte_over address posts (below_byte old address)) (sym split)
    ∙ sym (device_byte-over old address is)
    ∙ right address (omega arith) (omega arith) in
    same-posts base (history ++ entry ∷ []) (marked_at base (history ++ entry ∷ [])) (posted.kept ++ post ∷ []) new.posts
    (below_byte new) (sym posted.posts)
    (fewer-marked base history entry (posted.kept ++ post ∷ []) (below_byte new) silent
    (keeps-stored base history entry marked posted.kept post (below_byte new) fits position done store before
    (keeps-rest opening history posted.drained posted.kept old new legal is posted.drains keeping)))

-- a post to a line that isn't marked leaves the marked lines
leaves_marked : (base : Content) (history : List Entry) (post : Post) → IsPost post
    → is_marked base history post.page.0 post.line ≡ false → LeavesMarked (marked_at base history) post
leaves_marked base history post fits unmarked address is = posted_byte-other address post fits (λ on.
    let low = fits.line in
    let page : address / 4096 ≡ post.page.0 = omega arith in
    let line : address % 4096 / 64 ≡ post.line = omega arith in
    let other : marked_at base history address ≡ false =
    ap (λ (q : ℕ). is_marked base history q (address % 4096 / 64)) page
    ∙ ap (λ (i : ℕ). is_marked base history post.page.0 i) line ∙ unmarked in
    absurd (cc (is, other)))

-- a byte of the line that a post replaces whole
byte-whole : (address : ℕ) (post : Post) (byte : ℕ) → post.from ≡ 0 → length post.bytes ≡ 64
    → address / 64 ≡ line_number post
    → unwrap_or (posted_byte address post) byte ≡ get_or post.bytes (address % 64) 0
byte-whole address post byte first size on =
    let at : ℕ = 4096 * post.page.0 + (64 * post.line + post.from) in
    let test : nat_le at address ≡ true = le-leb at address (omega arith) in
    let offset : address - at ≡ address % 64 = omega arith in
    let found : slice_get post.bytes (address % 64) ≡ Some (get_or post.bytes (address % 64) 0) =
    slice_get-get_or post.bytes (address % 64) 0 (omega arith) in
    rw (test, offset, found) refl

-- a landed line of a retreat was posted: the whole line, which isn't marked, with the flat bytes
pub keeping-landed : (opening : Opening) (history : List Entry) (post : Post) (old new : DeviceState)
    → IsLegal opening history → IsDevice old → IsPost post → IsPosted post old new → post.position ≡ None
    → is_marked opening.base history post.page.0 post.line ≡ false → post.from ≡ 0 → length post.bytes ≡ LINE_BYTES
    → IsFlatLine opening.base history post.page.0 post.line (λ address. slice_index post.bytes (address % LINE_BYTES))
    → IsKeepingDevice opening.base history old → IsKeepingDevice opening.base history new
keeping-landed opening history post old new legal is fits posted position unmarked first size right keeping =
    let base = opening.base in
    let marked : ℕ → Bool = marked_at base history in
    let after : (address : ℕ) → address / 64 ≡ line_number post
    → byte_over address (posted.kept ++ post ∷ []) (below_byte new address) ≡ flat_byte_of base history address =
    λ address on.
    let low = fits.line in
    byte_over-append address posted.kept (post ∷ []) (below_byte new address)
    ∙ byte-whole address post (byte_over address posted.kept (below_byte new address)) first size on
    ∙ right address (omega arith) (omega arith) in
    same-posts base history marked (posted.kept ++ post ∷ []) new.posts (below_byte new) (sym posted.posts)
    (keeps-landed base history marked posted.kept post (below_byte new) fits position
    (leaves_marked base history post fits unmarked) after
    (keeps-rest opening history posted.drained posted.kept old new legal is posted.drains keeping))
