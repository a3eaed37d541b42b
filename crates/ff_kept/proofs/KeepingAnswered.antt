-- What a device keeps when a call is answered and nothing is posted, and when a session begins.
use Rattle.std.proofs.Common.{◌≡◌, inl, inr, ℕ, ◌/◌, ◌%◌, true, false, List, [], ◌∷◌, ◌++◌, None, get_or, refl, sym, ap, ◌∙◌}
use Rattle.std.specs.Prelude.{◌&&◌}
use Rattle.std.proofs.lemmas.Bool.{and_left, and_right, cases_Bool}
use Rattle.ff_base.specs.declared.numbers.PageNo.{PageNo}
use Rattle.ff_lines.specs.DeviceState.{DeviceState}
use Rattle.ff_lines.specs.Posts.{laid}
use Rattle.ff_lines.specs.declared.post.Post.{Post}
use Rattle.ff_model.specs.Callers.{acknowledges}
use Rattle.ff_model.specs.Flat.{covering_byte, flat_byte_of, is_done, stored_byte}
use Rattle.ff_model.specs.Image.{Content, byte_at}
use Rattle.ff_model.specs.declared.history.Entry.{Entry}
use Rattle.ff_model.specs.declared.op.Op.{Op}
use Rattle.ff_model.specs.declared.op.Op.TheVariants.{Load, Store, Verify, Mark, Release}
use Rattle.ff_kept.specs.Keeping.{IsKeeping, IsKeepingDevice}
use Rattle.ff_kept.specs.Marked.{is_marked_store, marked_at, stores_marked}
use Rattle.ff_kept.specs.Posted.{below_byte, device_byte}
use Rattle.ff_kept.proofs.Acknowledging.{keeps-acknowledged, keeps-fewer, keeps-opened}
use Rattle.ff_kept.proofs.Growing.{keeps-entry}
use Rattle.ff_kept.proofs.Marks.{marked_at-silent}
use Rattle.ff_kept.proofs.KeepingDrained.{same-posts}

-- an entry that acknowledges nothing may clear marks
pub fewer-marked : (base : Content) (history : List Entry) (entry : Entry) (posts : List Post) (below : ℕ → ℕ)
    → (is_done entry.reply && acknowledges entry.op) ≡ false
    → IsKeeping base (history ++ entry ∷ []) (marked_at base history) posts below
    → IsKeeping base (history ++ entry ∷ []) (marked_at base (history ++ entry ∷ [])) posts below
fewer-marked base history entry posts below silent keeping =
    keeps-fewer base (history ++ entry ∷ []) (marked_at base history) (marked_at base (history ++ entry ∷ [])) posts below
    (λ address is. marked_at-silent base history entry address silent is) keeping

-- an entry that is no store to a marked line and acknowledges nothing
pub keeping-answered : (base : Content) (history : List Entry) (entry : Entry) (d : DeviceState)
    → is_marked_store (marked_at base history) entry ≡ false → (is_done entry.reply && acknowledges entry.op) ≡ false
    → IsKeepingDevice base history d → IsKeepingDevice base (history ++ entry ∷ []) d
keeping-answered base history entry d isnt silent keeping =
    fewer-marked base history entry d.posts (below_byte d) silent
    (keeps-entry base history entry (marked_at base history) d.posts (below_byte d) isnt silent keeping)

-- a call wasn't answered Done: a load, or one that was refused or met a fault
pub keeping-undone : (base : Content) (history : List Entry) (entry : Entry) (d : DeviceState)
    → is_done entry.reply ≡ false → IsKeepingDevice base history d → IsKeepingDevice base (history ++ entry ∷ []) d
keeping-undone base history entry d undone keeping =
    keeping-answered base history entry d
    (and_left (is_done entry.reply) (stores_marked (marked_at base history) entry.op) undone)
    (and_left (is_done entry.reply) (acknowledges entry.op) undone) keeping

-- a store to a line that isn't marked was answered, and nothing was posted
pub keeping-unmarked : (base : Content) (history : List Entry) (entry : Entry) (at : ℕ) (bytes : List ℕ) (d : DeviceState)
    → entry.op ≡ Store at bytes → marked_at base history at ≡ false
    → IsKeepingDevice base history d → IsKeepingDevice base (history ++ entry ∷ []) d
keeping-unmarked base history entry at bytes d op unmarked keeping =
    keeping-answered base history entry d
    (and_right (is_done entry.reply) (stores_marked (marked_at base history) entry.op) (rw op unmarked))
    (and_right (is_done entry.reply) (acknowledges entry.op) (rw op refl)) keeping

-- marks were cleared
pub keeping-released : (base : Content) (history : List Entry) (entry : Entry) (page : PageNo) (from count : ℕ) (d : DeviceState)
    → entry.op ≡ Release page from count
    → IsKeepingDevice base history d → IsKeepingDevice base (history ++ entry ∷ []) d
keeping-released base history entry page from count d op keeping =
    keeping-answered base history entry d
    (and_right (is_done entry.reply) (stores_marked (marked_at base history) entry.op) (rw op refl))
    (and_right (is_done entry.reply) (acknowledges entry.op) (rw op refl)) keeping

-- a call that acknowledges stores nothing
covering_byte-none : (address : ℕ) (op : Op) → acknowledges op ≡ true → covering_byte address op ≡ None
covering_byte-none address (Load at len) acknowledged = refl
covering_byte-none address (Store at bytes) acknowledged = absurd (cc acknowledged)
covering_byte-none address Verify acknowledged = refl
covering_byte-none address (Mark page from count) acknowledged = refl
covering_byte-none address (Release page from count) acknowledged = refl

stored_byte-none : (address : ℕ) (entry : Entry) → acknowledges entry.op ≡ true → stored_byte address entry ≡ None
stored_byte-none address entry acknowledged = elim (cases_Bool (is_done entry.reply)) [
  | inl done ↦ rw done (covering_byte-none address entry.op acknowledged)
  | inr undone ↦ rw undone refl
]

-- with nothing waiting, every store was acknowledged, and lines may have been marked: the marked lines read as the
-- history says
pub keeping-acknowledged : (base : Content) (history : List Entry) (entry : Entry) (d : DeviceState)
    → acknowledges entry.op ≡ true → d.posts ≡ []
    → ((address : ℕ) → marked_at base (history ++ entry ∷ []) address ≡ true
    → device_byte d address ≡ flat_byte_of base history address)
    → IsKeepingDevice base history d → IsKeepingDevice base (history ++ entry ∷ []) d
keeping-acknowledged base history entry d op none reads keeping =
    let below : (address : ℕ) → below_byte d address ≡ device_byte d address =
    λ address. ap (λ (posts : List Post). get_or (laid (address / 4096) (address % 4096 / 64) posts (d.below (address / 4096) (address % 4096 / 64))) (address % 64) 0) (sym none) in
    same-posts base (history ++ entry ∷ []) (marked_at base (history ++ entry ∷ [])) [] d.posts (below_byte d) (sym none)
    (keeps-acknowledged base history entry (marked_at base history) (marked_at base (history ++ entry ∷ [])) (below_byte d)
    (λ address. stored_byte-none address entry op) (λ address is. below address ∙ reads address is)
    (same-posts base history (marked_at base history) d.posts [] (below_byte d) none keeping))

-- a session begins: the device reads as the base
pub keeping-opened : (base : Content) (d : DeviceState) → d.posts ≡ []
    → ((address : ℕ) → below_byte d address ≡ byte_at base address) → IsKeepingDevice base [] d
keeping-opened base d none reads =
    same-posts base [] (marked_at base []) [] d.posts (below_byte d) (sym none)
    (keeps-opened base (marked_at base []) (below_byte d) reads)
