-- What a history says still stands after each action.
use Rattle.std.proofs.Common.{◌≡◌, ◌≤◌, ℕ, List, sym, ap, subst}
use Rattle.ff_calls.specs.Told.{IsTold}
use Rattle.ff_calls.proofs.ToldAdvanced.{told-advanced}
use Rattle.ff_calls.proofs.ToldBegun.{told-evicted, told-promoted, told-retreated, told-turned}
use Rattle.ff_calls.proofs.ToldMoved.{told-first_drained, told-worked}
use Rattle.ff_lines.specs.DeviceState.{DeviceState, IsDevice}
use Rattle.ff_lines.specs.Works.{KeepsLines}
use Rattle.ff_memory.specs.Located.{IsLocated}
use Rattle.ff_memory.specs.Marking.{is_passed}
use Rattle.ff_memory.specs.Memory.{IsMemorySound, MemoryView}
use Rattle.ff_memory.specs.LineBytes.{SameLineBytes}
use Rattle.ff_model.specs.Legal.{Opening}
use Rattle.ff_model.specs.declared.history.Entry.{Entry}
use Rattle.ff_device.specs.Device.{lines_in}
use Rattle.ff_core.specs.Hierarchy.{HierarchyView, lines_under}
use Rattle.ff_core.specs.Performs.{DrainsOldest, HasEvicted, IsAdvanced, IsTurnedBack, IsWorkedFor, Performs, steps, yields}
use Rattle.ff_core.specs.declared.action.Action.{Action}
use Rattle.ff_core.specs.declared.action.Action.TheVariants.{Advance, TurnBack, Work, Promote, Retreat, Evict, Collect, Drain}
use Rattle.ff_core.specs.declared.action.Progress.{Progress}

-- memory and device hold what a history says
abbrev pub Tells : {T E : Type 0} → Opening → List Entry → HierarchyView T E → Type 0
Tells opening entries h = IsTold opening entries h.memory (lines_under h)

advanced-tells : {T E : Type 0} (opening : Opening) (entries : List Entry) (slot : ℕ) (h : HierarchyView T E) (progress : Progress)
    (h' : HierarchyView T E) → Tells opening entries h → IsMemorySound h.memory → IsDevice (lines_under h)
    → IsAdvanced slot h progress h' → Tells opening entries h'
advanced-tells opening entries slot h progress h' told sound device is =
    told-advanced opening entries slot is.what h.memory (lines_under h) h'.memory (lines_under h') told sound device is.step
    is.moved.located is.moved.lines

turned-tells : {T E : Type 0} (opening : Opening) (entries : List Entry) (slot : ℕ) (h : HierarchyView T E) (progress : Progress)
    (h' : HierarchyView T E) → Tells opening entries h → IsTurnedBack slot h progress h' → Tells opening entries h'
turned-tells {T} {E} opening entries slot h progress h' told is =
    let memory = ap (λ (x : HierarchyView T E). x.memory) is.rest in
    let device : lines_under h' ≡ lines_under h = ap (λ (x : HierarchyView T E). lines_in x.device) is.rest in
    let located : IsLocated h'.memory (lines_under h) = subst (λ (d : DeviceState). IsLocated h'.memory d) device is.moved.located in
    let same_lines : SameLineBytes h.memory (lines_under h) h'.memory (lines_under h) =
    subst (λ (d : DeviceState). SameLineBytes h.memory (lines_under h) h'.memory d) device is.moved.lines in
    subst (λ (d : DeviceState). IsTold opening entries h'.memory d) (sym device)
    (told-turned opening entries slot h.memory (lines_under h) h'.memory told memory located same_lines)

-- the device alone made a step
kept-tells : {T E : Type 0} (opening : Opening) (entries : List Entry) (h h' : HierarchyView T E) → Tells opening entries h
    → IsDevice (lines_under h) → h' ≡ record h { device = h'.device } → KeepsLines (lines_under h) (lines_under h')
    → (lines_under h).faults ≤ (lines_under h').faults → Tells opening entries h'
kept-tells {T} {E} opening entries h h' told device rest kept faults =
    let memory = ap (λ (x : HierarchyView T E). x.memory) rest in
    subst (λ (m : MemoryView). IsTold opening entries m (lines_under h')) (sym memory)
    (told-worked opening entries h.memory (lines_under h) (lines_under h') told device kept faults)

worked-tells : {T E : Type 0} (opening : Opening) (entries : List Entry) (page : ℕ) (h : HierarchyView T E) (progress : Progress)
    (h' : HierarchyView T E) → Tells opening entries h → IsMemorySound h.memory → IsDevice (lines_under h)
    → (lines_under h).faults ≤ (lines_under h').faults → IsWorkedFor page h progress h' → Tells opening entries h'
worked-tells opening entries page h progress h' told sound device faults (steps work came step unpinned) =
    kept-tells opening entries h h' told device step.rest step.kept faults
worked-tells opening entries page h progress h' told sound device faults (yields other slot pinned found is) =
    advanced-tells opening entries slot h progress h' told sound device is

evicted-tells : {T E : Type 0} (opening : Opening) (entries : List Entry) (frame : ℕ) (h : HierarchyView T E) (progress : Progress)
    (h' : HierarchyView T E) → Tells opening entries h → HasEvicted frame h progress h' → Tells opening entries h'
evicted-tells opening entries frame h progress h' told is =
    told-evicted opening entries is.page.0 (is_passed h.evictor.hand frame) h.memory (lines_under h) is.between h'.memory
    (lines_under h') told is.step is.passed is.moved.located is.moved.lines

drained-tells : {T E : Type 0} (opening : Opening) (entries : List Entry) (h : HierarchyView T E) (progress : Progress)
    (h' : HierarchyView T E) → Tells opening entries h → IsDevice (lines_under h) → DrainsOldest h progress h'
    → Tells opening entries h'
drained-tells {T} {E} opening entries h progress h' told device is =
    let memory = ap (λ (x : HierarchyView T E). x.memory) is.rest in
    subst (λ (m : MemoryView). IsTold opening entries m (lines_under h')) (sym memory)
    (told-first_drained opening entries 1 h.memory (lines_under h) (lines_under h') told device is.drained.posts is.drained.below
    is.drained.pinned is.drained.written is.drained.residence)

pub performs-tells : {T E : Type 0} (opening : Opening) (entries : List Entry) (action : Action) (h : HierarchyView T E)
    (progress : Progress) (h' : HierarchyView T E) → Tells opening entries h → IsMemorySound h.memory → IsDevice (lines_under h)
    → (lines_under h).faults ≤ (lines_under h').faults → Performs action h progress h' → Tells opening entries h'
performs-tells opening entries (Advance slot) h progress h' told sound device faults is =
    advanced-tells opening entries slot h progress h' told sound device is
performs-tells opening entries (TurnBack slot) h progress h' told sound device faults is =
    turned-tells opening entries slot h progress h' told is
performs-tells opening entries (Work page) h progress h' told sound device faults is =
    worked-tells opening entries page.0 h progress h' told sound device faults is
performs-tells opening entries (Promote page) h progress h' told sound device faults is =
    told-promoted opening entries page.0 h.memory (lines_under h) h'.memory (lines_under h') told device is.step is.moved.located
    is.moved.lines
performs-tells opening entries (Retreat page) h progress h' told sound device faults is =
    told-retreated opening entries page.0 h.memory (lines_under h) h'.memory (lines_under h') told is.step is.moved.located
    is.moved.lines
performs-tells opening entries (Evict frame) h progress h' told sound device faults is =
    evicted-tells opening entries frame h progress h' told is
performs-tells opening entries Collect h progress h' told sound device faults is =
    kept-tells opening entries h h' told device is.rest is.kept faults
performs-tells opening entries Drain h progress h' told sound device faults is =
    drained-tells opening entries h progress h' told device is
