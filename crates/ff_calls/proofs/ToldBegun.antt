-- What a history says still stands where a page begins to move or turns back, and where referred flags are cleared.
use Rattle.std.proofs.Common.{◌≡◌, ℕ, Bool, true, List, length, Option, Some, None, refl, ap, ◌∙◌, arith, length-set}
use Rattle.ff_kept.proofs.KeepingDrained.{keeping-drained, keeping-pinned}
use Rattle.ff_lines.specs.DeviceState.{DeviceState, IsDevice}
use Rattle.ff_memory.specs.Begins.{IsPromoted, IsRetreated, turned_at, turned_by}
use Rattle.ff_memory.specs.Located.{IsLocated}
use Rattle.ff_memory.specs.Marking.{IsUnreferred}
use Rattle.ff_memory.specs.Memory.{MemoryView}
use Rattle.ff_memory.specs.LineBytes.{SameLineBytes}
use Rattle.ff_memory.proofs.Alike.{like-located, like-lines}
use Rattle.ff_memory.proofs.Unreferred.{unreferred-like}
use Rattle.ff_model.specs.Legal.{Opening}
use Rattle.ff_model.specs.declared.history.Entry.{Entry}
use Rattle.ff_plb.specs.Plb.{slot_at}
use Rattle.ff_plb.specs.declared.slot.Slot.{Slot}
use Rattle.ff_table.specs.Table.{TableView, is_born_in, marks_of}
use Rattle.ff_table.specs.declared.table.Home.TheVariants.{Host}
use Rattle.ff_calls.specs.Told.{IsTold}
use Rattle.ff_calls.proofs.ToldMoved.{SaysSame, says-same, told-moved}

-- a memory with the same table
pub says-table : (m m' : MemoryView) → m'.table ≡ m.table → m'.capacity ≡ m.capacity → SaysSame m m'
says-table m m' table capacity = record {
  pages = ap (λ (t : TableView). length t.homes) table;
  capacity = capacity;
  born = λ page. ap (λ (t : TableView). is_born_in t page) table;
  marks = λ page. ap (λ (t : TableView). marks_of t page) table;
}

-- a page began to come
pub told-promoted : (opening : Opening) (entries : List Entry) (page : ℕ) (m : MemoryView) (d : DeviceState) (m' : MemoryView)
    (d' : DeviceState) → IsTold opening entries m d → IsDevice d → IsPromoted page m d m' d' → IsLocated m' d'
    → SameLineBytes m d m' d' → IsTold opening entries m' d'
told-promoted opening entries page m d m' d' told device is located same_lines =
    let drained = is.device.drained in
    let pinned = is.device.pinned in
    let one = drained.residence.faults in
    let two = pinned.residence.faults in
    told-moved opening entries m d m' d' told
    (says-table m m' (ap (λ (v : MemoryView). v.table) is.memory) (ap (λ (v : MemoryView). v.capacity) is.memory))
    located same_lines (omega arith)
    (keeping-pinned opening.base entries page true is.device.mid d' pinned
    (keeping-drained opening entries d is.device.mid told.legal device drained told.keeping))

-- a page began to leave
pub told-retreated : (opening : Opening) (entries : List Entry) (page : ℕ) (m : MemoryView) (d : DeviceState) (m' : MemoryView)
    (d' : DeviceState) → IsTold opening entries m d → IsRetreated page m d m' d' → IsLocated m' d' → SameLineBytes m d m' d'
    → IsTold opening entries m' d'
told-retreated opening entries page m d m' d' told is located same_lines =
    let pinned = is.device in
    let same = pinned.residence.faults in
    told-moved opening entries m d m' d' told
    (says-table m m' (ap (λ (v : MemoryView). v.table) is.memory) (ap (λ (v : MemoryView). v.capacity) is.memory))
    located same_lines (omega arith) (keeping-pinned opening.base entries page true d d' pinned told.keeping)

-- a page that turns back has another home
says-turned : (slot : ℕ) (entry : Option Slot) (m : MemoryView) → SaysSame m (turned_by slot entry m)
says-turned slot None m = says-same m
says-turned slot (Some entry) m = record {
  pages = length-set m.table.homes entry.page.0 (Host entry.frame);
  capacity = refl;
  born = λ page. refl;
  marks = λ page. refl;
}

-- a coming page turned back
pub told-turned : (opening : Opening) (entries : List Entry) (slot : ℕ) (m : MemoryView) (d : DeviceState) (m' : MemoryView)
    → IsTold opening entries m d → m' ≡ turned_at slot m → IsLocated m' d → SameLineBytes m d m' d → IsTold opening entries m' d
told-turned opening entries slot m d m' told is located same_lines =
    told-moved opening entries m d m' d told (rw is (says-turned slot (slot_at m.slots slot) m)) located same_lines (omega arith)
    told.keeping

-- referred flags were cleared
pub told-unreferred : (opening : Opening) (entries : List Entry) (these : ℕ → Bool) (m : MemoryView) (d : DeviceState)
    (m' : MemoryView) → IsTold opening entries m d → IsUnreferred these m m' → IsTold opening entries m' d
told-unreferred opening entries these m d m' told is =
    let like = unreferred-like these m m' d is in
    told-moved opening entries m d m' d told (says-table m m' is.table is.capacity)
    (like-located m d m' d told.located like) (like-lines m d m' d like) (omega arith) told.keeping

-- the page of the evictor's frame began to leave, and the referred flags of the frames that were passed were cleared
pub told-evicted : (opening : Opening) (entries : List Entry) (page : ℕ) (these : ℕ → Bool) (m : MemoryView) (d : DeviceState)
    (between m' : MemoryView) (d' : DeviceState) → IsTold opening entries m d → IsRetreated page m d between d'
    → IsUnreferred these between m' → IsLocated m' d' → SameLineBytes m d m' d' → IsTold opening entries m' d'
told-evicted opening entries page these m d between m' d' told is passed located same_lines =
    let pinned = is.device in
    let same = pinned.residence.faults in
    told-moved opening entries m d m' d' told
    (says-table m m' (passed.table ∙ ap (λ (v : MemoryView). v.table) is.memory)
    (passed.capacity ∙ ap (λ (v : MemoryView). v.capacity) is.memory))
    located same_lines (omega arith) (keeping-pinned opening.base entries page true d d' pinned told.keeping)
