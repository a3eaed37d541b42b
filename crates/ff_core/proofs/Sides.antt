-- A served call has a side exactly where it is a load or a store that was served, and no served reply tells a fault.
use Rattle.std.proofs.Common.{◌≡◌, ◌+◌, ℕ, Bool, true, false, cond, List, Option, Some, None, refl, arith}
use Rattle.ff_calls.specs.Accesses.{Accesses}
use Rattle.ff_lines.specs.DeviceState.{DeviceState}
use Rattle.ff_memory.specs.Loads.{IsLoadBy, span_of}
use Rattle.ff_memory.specs.Marking.{IsMarkBy}
use Rattle.ff_memory.specs.Memory.{MemoryView}
use Rattle.ff_memory.specs.LineBytes.{is_home, line_in_page, page_of, offset_in_line, serving_frame, storing_frame}
use Rattle.ff_memory.specs.Stores.{IsStoreBy, is_store_refused}
use Rattle.ff_memory.specs.declared.access.Access.TheVariants.{Served}
use Rattle.ff_memory.specs.declared.access.Side.{Side}
use Rattle.ff_memory.specs.declared.access.Side.TheVariants.{Device, Host, Neither}
use Rattle.ff_model.specs.declared.op.Op.{Op}
use Rattle.ff_model.specs.declared.op.Op.TheVariants.{Load, Store, Verify, Mark, Release}
use Rattle.ff_model.specs.declared.op.Reply.{Reply}
use Rattle.ff_model.specs.declared.op.Reply.TheVariants.{Bytes, Done, Full}
use Rattle.ff_core.specs.CoreSound.{is_fault, is_served_op}
use Rattle.ff_core.specs.EventTally.{served_by}
use Rattle.ff_core.specs.declared.tally.EventTally.{EventTally}

-- the call was served by a frame or by the device
abbrev pub is_side : Side → Bool
is_side Device = true
is_side Host = true
is_side Neither = false

-- the side and the reply of a served call
pub record IsSided (op : Op) (reply : Reply) (side : Side) : Type 0 where
  pub counts : is_served_op op reply ≡ is_side side
  pub well : is_fault reply ≡ false

-- the reply and the side of an access
sided-as : (op : Op) (reply reply' : Reply) (side side' : Side) → Served reply side ≡ Served reply' side' → IsSided op reply' side'
    → IsSided op reply side
sided-as op reply reply' side side' same sided =
    let replies : reply ≡ reply' = cc same in
    let sides : side ≡ side' = cc same in
    rw (replies, sides) sided

load-sided : (to : Option ℕ) (resident : Bool) (at len page : ℕ) (bytes : List ℕ) (reply : Reply) (side : Side) (m : MemoryView)
    (d : DeviceState) (m' : MemoryView) (d' : DeviceState) → IsLoadBy to resident page bytes m d (Served reply side) m' d'
    → IsSided (Load at len) reply side
load-sided (Some frame) resident at len page bytes reply side m d m' d' is =
    sided-as (Load at len) reply (Bytes bytes) side Host is.access_is (record { counts = refl; well = refl })
load-sided None true at len page bytes reply side m d m' d' is =
    sided-as (Load at len) reply (Bytes bytes) side Device is.access_is (record { counts = refl; well = refl })
load-sided None false at len page bytes reply side m d m' d' is = absurd (let a = is.access_is in cc)

store-sided : (refused : Bool) (to : Option ℕ) (resident : Bool) (at page line from : ℕ) (piece : List ℕ) (position : ℕ) (reply : Reply)
    (side : Side) (m : MemoryView) (d : DeviceState) (m' : MemoryView) (d' : DeviceState)
    → IsStoreBy refused to resident page line from piece position m d (Served reply side) m' d' → IsSided (Store at piece) reply side
store-sided true to resident at page line from piece position reply side m d m' d' is =
    sided-as (Store at piece) reply Full side Neither is.access_is (record { counts = refl; well = refl })
store-sided false (Some frame) resident at page line from piece position reply side m d m' d' is =
    sided-as (Store at piece) reply Done side Host is.access_is (record { counts = refl; well = refl })
store-sided false None true at page line from piece position reply side m d m' d' is =
    sided-as (Store at piece) reply Done side Device is.access_is (record { counts = refl; well = refl })
store-sided false None false at page line from piece position reply side m d m' d' is = absurd (let a = is.access_is in cc)

mark-sided : (home : Bool) (op : Op) (page lines : ℕ) (reply : Reply) (side : Side) (m : MemoryView) (d : DeviceState)
    (m' : MemoryView) (d' : DeviceState) → IsSided op Done Neither → IsMarkBy home page lines m d (Served reply side) m' d'
    → IsSided op reply side
mark-sided true op page lines reply side m d m' d' sided is = sided-as op reply Done side Neither is.access_is sided
mark-sided false op page lines reply side m d m' d' sided is = absurd (let a = is.access_is in cc)

pub access-sided : (op : Op) (position : ℕ) (reply : Reply) (side : Side) (m : MemoryView) (d : DeviceState) (m' : MemoryView)
    (d' : DeviceState) → Accesses op position m d (Served reply side) m' d' → IsSided op reply side
access-sided (Load at len) position reply side m d m' d' is =
    load-sided (serving_frame m (page_of at) (line_in_page at)) (d.resident (page_of at)) at len (page_of at) (span_of m d at len)
    reply side m d m' d' is
access-sided (Store at bytes) position reply side m d m' d' is =
    store-sided (is_store_refused m (page_of at)) (storing_frame m (page_of at) (line_in_page at)) (d.resident (page_of at)) at
    (page_of at) (line_in_page at) (offset_in_line at) bytes position reply side m d m' d' is
access-sided Verify position reply side m d m' d' is =
    sided-as Verify reply Done side Neither is.access_is (record { counts = refl; well = refl })
access-sided (Mark page from count) position reply side m d m' d' is =
    mark-sided (is_home m page.0) (Mark page from count) page.0 is.mask.0 reply side m d m' d'
    (record { counts = refl; well = refl }) is.marks
access-sided (Release page from count) position reply side m d m' d' is =
    sided-as (Release page from count) reply Done side Neither is.access_is (record { counts = refl; well = refl })

-- a served call is counted on its side, and no move
pub record CountsSide (side : Side) (old new : EventTally) : Type 0 where
  pub served : new.device + new.host ≡ old.device + old.host + cond {A = ℕ} (is_side side) 1 0
  pub promoted : new.promoted ≡ old.promoted
  pub moves : new.landed + new.dropped + new.promoted + new.retreated ≡ old.landed + old.dropped + old.promoted + old.retreated

pub served-side : (side : Side) (tally : EventTally) → CountsSide side tally (served_by side tally)
served-side Device tally = record { served = omega arith; promoted = refl; moves = refl }
served-side Host tally = record { served = omega arith; promoted = refl; moves = refl }
served-side Neither tally = record { served = omega arith; promoted = refl; moves = refl }
