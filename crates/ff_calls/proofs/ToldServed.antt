-- What a history says once a call was served: its reply is the one that is due, and memory and device hold what the
-- history with its entry says.
use Rattle.std.proofs.Common.{◌≡◌, List, [], ◌∷◌, ◌++◌, length, refl}
use Rattle.ff_lines.specs.DeviceState.{DeviceState}
use Rattle.ff_memory.specs.Located.{IsLocated}
use Rattle.ff_memory.specs.Memory.{MemoryView}
use Rattle.ff_memory.specs.declared.access.Access.TheVariants.{Served}
use Rattle.ff_memory.specs.declared.access.Side.{Side}
use Rattle.ff_model.specs.Legal.{Opening}
use Rattle.ff_model.specs.declared.history.Entry.{Entry}
use Rattle.ff_model.specs.declared.op.Op.{Op}
use Rattle.ff_model.specs.declared.op.Op.TheVariants.{Load, Store, Verify, Mark, Release}
use Rattle.ff_calls.specs.Accesses.{Accesses, LeavesLines}
use Rattle.ff_calls.specs.Told.{IsTold}
use Rattle.ff_calls.proofs.ToldAnswered.{IsCalled}
use Rattle.ff_calls.proofs.ToldLoaded.{told-loaded}
use Rattle.ff_calls.proofs.ToldMarked.{told-marked, told-released, told-verified}
use Rattle.ff_calls.proofs.ToldStored.{told-stored}

served-by : (op : Op) (opening : Opening) (entries : List Entry) (entry : Entry) (side : Side) (m : MemoryView) (d : DeviceState)
    (m' : MemoryView) (d' : DeviceState) → IsCalled opening entries m d entry → entry.op ≡ op
    → Accesses op (length entries) m d (Served entry.reply side) m' d' → IsLocated m' d'
    → LeavesLines op (Served entry.reply side) m d m' d' → IsTold opening (entries ++ entry ∷ []) m' d'
served-by (Load at len) opening entries entry side m d m' d' called op is located lines =
    told-loaded opening entries entry at len side m d m' d' called op is located lines
served-by (Store at bytes) opening entries entry side m d m' d' called op is located lines =
    told-stored opening entries entry at bytes side m d m' d' called op is located lines
served-by Verify opening entries entry side m d m' d' called op is located lines =
    told-verified opening entries entry side m d m' d' called op is located lines
served-by (Mark page from count) opening entries entry side m d m' d' called op is located lines =
    told-marked opening entries entry page from count side m d m' d' called op is located lines
served-by (Release page from count) opening entries entry side m d m' d' called op is located lines =
    told-released opening entries entry page from count side m d m' d' called op is located lines

-- a call was served
pub told-served : (opening : Opening) (entries : List Entry) (entry : Entry) (side : Side) (m : MemoryView) (d : DeviceState)
    (m' : MemoryView) (d' : DeviceState) → IsCalled opening entries m d entry
    → Accesses entry.op (length entries) m d (Served entry.reply side) m' d' → IsLocated m' d'
    → LeavesLines entry.op (Served entry.reply side) m d m' d' → IsTold opening (entries ++ entry ∷ []) m' d'
told-served opening entries entry side m d m' d' called is located lines =
    served-by entry.op opening entries entry side m d m' d' called refl is located lines
