-- What a history says once a load was served.
use Rattle.std.proofs.Common.{◌≡◌, ℕ, Bool, true, false, List, [], ◌∷◌, ◌++◌, Option, Some, None, refl, ap, ◌∙◌, arith}
use Rattle.ff_kept.proofs.KeepingDrained.{keeping-drained}
use Rattle.ff_kept.specs.Keeping.{IsKeepingDevice}
use Rattle.ff_lines.specs.DeviceState.{DeviceState, IsDevice}
use Rattle.ff_memory.specs.Loads.{IsLoad, IsLoadBy, span_of}
use Rattle.ff_memory.specs.Located.{IsLocated}
use Rattle.ff_memory.specs.Memory.{MemoryView}
use Rattle.ff_memory.specs.LineBytes.{SameLineBytes, byte_of, line_in_page, page_of, serving_frame}
use Rattle.ff_memory.specs.declared.access.Access.TheVariants.{Served}
use Rattle.ff_memory.specs.declared.access.Side.{Side}
use Rattle.ff_model.specs.Flat.{flat_byte_of, is_done}
use Rattle.ff_model.specs.Legal.{Opening, served_reply}
use Rattle.ff_model.specs.declared.history.Entry.{Entry}
use Rattle.ff_model.specs.declared.op.Op.TheVariants.{Load}
use Rattle.ff_model.specs.declared.op.Reply.{Reply}
use Rattle.ff_model.specs.declared.op.Reply.TheVariants.{Bytes}
use Rattle.ff_model.proofs.Replies.{served_reply-same, span_one_line}
use Rattle.ff_calls.specs.Told.{IsTold}
use Rattle.ff_calls.proofs.SpanBytes.{span_of-bytes}
use Rattle.ff_calls.proofs.ToldAnswered.{IsCalled, served-follows, told-undone, within-op}
use Rattle.ff_calls.proofs.ToldBegun.{says-table}
use Rattle.ff_calls.proofs.ToldMoved.{SaysSame, says-same, told-moved}

-- what is left of a load that was served
record LoadKeeps (opening : Opening) (entries : List Entry) (reply : Reply) (bytes : List ℕ) (m : MemoryView) (d : DeviceState)
    (m' : MemoryView) (d' : DeviceState) : Type 0 where
  answer : reply ≡ Bytes bytes
  says : SaysSame m m'
  faults : d'.faults ≡ d.faults
  keeping : IsKeepingDevice opening.base entries d'

load-keeps : (to : Option ℕ) (resident : Bool) (opening : Opening) (entries : List Entry) (page : ℕ) (bytes : List ℕ) (reply : Reply)
    (side : Side) (m : MemoryView) (d : DeviceState) (m' : MemoryView) (d' : DeviceState) → IsTold opening entries m d → IsDevice d
    → IsLoadBy to resident page bytes m d (Served reply side) m' d' → LoadKeeps opening entries reply bytes m d m' d'
load-keeps (Some frame) resident opening entries page bytes reply side m d m' d' told device is =
    rw is.device record {
      answer = let a = is.access_is in cc;
      says = says-table m m' (ap (λ (v : MemoryView). v.table) is.memory) (ap (λ (v : MemoryView). v.capacity) is.memory);
      faults = refl;
      keeping = told.keeping;
    }
load-keeps None true opening entries page bytes reply side m d m' d' told device is = record {
  answer = let a = is.access_is in cc;
  says = rw is.memory (says-same m);
  faults = is.device.residence.faults;
  keeping = keeping-drained opening entries d d' told.legal device is.device told.keeping;
}
load-keeps None false opening entries page bytes reply side m d m' d' told device is = absurd (let a = is.access_is in cc)

-- a load was served by a frame or by the device
pub told-loaded : (opening : Opening) (entries : List Entry) (entry : Entry) (at len : ℕ) (side : Side) (m : MemoryView)
    (d : DeviceState) (m' : MemoryView) (d' : DeviceState) → IsCalled opening entries m d entry → entry.op ≡ Load at len
    → IsLoad at len m d (Served entry.reply side) m' d' → IsLocated m' d' → SameLineBytes m d m' d'
    → IsTold opening (entries ++ entry ∷ []) m' d'
told-loaded opening entries entry at len side m d m' d' called op is located same_lines =
    let told = called.told in
    let within = within-op opening entries m d entry (Load at len) called op in
    let keeps = load-keeps (serving_frame m (page_of at) (line_in_page at)) (d.resident (page_of at)) opening entries (page_of at)
    (span_of m d at len) entry.reply side m d m' d' told called.device is in
    let moved = told-moved opening entries m d m' d' told keeps.says located same_lines (let same = keeps.faults in omega arith)
    keeps.keeping in
    let span : Bytes (span_of m d at len) ≡ served_reply (byte_of m d) (Load at len) =
    ap Bytes (span_of-bytes m d at len called.sound called.device (span_one_line opening.pages at len within)) in
    let reply : entry.reply ≡ served_reply (flat_byte_of opening.base entries) (Load at len) =
    keeps.answer ∙ span
    ∙ served_reply-same (byte_of m d) (flat_byte_of opening.base entries) opening.pages (Load at len) told.flat within in
    told-undone opening entries entry m' d' moved
    (served-follows opening entries entry (Load at len) m d called op refl reply)
    (let one = called.now.faults in let two = keeps.faults in omega arith) (ap is_done keeps.answer)
