-- A step for a call that missed leaves fewer events.
use Rattle.std.proofs.Common.{◌≡◌, ◌<◌, ◌≤◌, ◌+◌, ◌*◌, ℕ, Bool, true, false, Option, Some, None, refl, ap, ◌∙◌, arith}
use Rattle.std.specs.Prelude.{if◌then◌else◌}
use Rattle.ff_base.specs.declared.geometry.Geometry.{Geometry}
use Rattle.ff_base.specs.declared.numbers.PageNo.{PageNo}
use Rattle.ff_calls.proofs.ToldMissed.{Finds}
use Rattle.ff_device.specs.Device.{own_of}
use Rattle.ff_lines.specs.DeviceState.{DeviceState}
use Rattle.ff_memory.specs.Memory.{MemoryView, entry_at}
use Rattle.ff_memory.specs.LineBytes.{is_home, page_of}
use Rattle.ff_memory.specs.declared.access.What.{What}
use Rattle.ff_model.specs.declared.op.Op.{Op}
use Rattle.ff_model.specs.declared.op.Op.TheVariants.{Load, Store, Verify, Mark, Release}
use Rattle.ff_plb.specs.declared.slot.Slot.{Slot}
use Rattle.ff_core.specs.Drives.{most_events}
use Rattle.ff_core.specs.EventsLeft.{entry_events, events_by, events_left, events_to, home_events, is_full_buffer, is_kept_set, rest_events}
use Rattle.ff_core.specs.Hierarchy.{HierarchyView, lines_under}
use Rattle.ff_core.specs.Misses.{IsMissAction}
use Rattle.ff_core.specs.Performs.{IsWorkedFor, Performs}
use Rattle.ff_core.specs.declared.action.Action.{Action}
use Rattle.ff_core.specs.declared.action.Progress.TheVariants.{Did}
use Rattle.ff_core.proofs.KeptSets.{kept_same}
use Rattle.ff_core.proofs.RestFalls.{home_events_most, mark_falls}
use Rattle.ff_core.proofs.WorkFalls.{IsStepGiven, events_most, own_page, own_way, worked_falls}

-- memory and device look as before
pub record LooksSame {T E : Type 0} (h g : HierarchyView T E) : Type 0 where
  pub memory : g.memory ≡ h.memory
  pub lines : lines_under g ≡ lines_under h
  pub own : own_of g.device ≡ own_of h.device

by_same : {T E : Type 0} (kept : Bool) (h g : HierarchyView T E) (page : ℕ) → LooksSame h g
    → events_by kept g page ≡ events_by kept h page
by_same true h g page same =
    rw (same.memory, own_way h.device g.device page 0 same.own, ap (λ o. o.store) same.own) refl
by_same false h g page same = ap (λ (d : DeviceState). d.steps page) same.lines

to_same : {T E : Type 0} (h g : HierarchyView T E) (page : ℕ) → LooksSame h g → events_to g page ≡ events_to h page
to_same h g page same =
    let kept : is_kept_set g.device.cache (lines_under g) page ≡ is_kept_set h.device.cache (lines_under h) page =
    kept_same h.device.cache g.device.cache (lines_under h) (lines_under g) page (ap (λ o. o.sets) same.own)
    (ap (λ o. o.ways) same.own) (λ k. own_page h.device g.device k same.own)
    (λ q. ap (λ (d : DeviceState). d.pinned q) same.lines) in
    ap (λ (b : Bool). events_by b g page) kept ∙ by_same (is_kept_set h.device.cache (lines_under h) page) h g page same

rest_same : {T E : Type 0} (full : Bool) (h g : HierarchyView T E) (page : ℕ) → LooksSame h g
    → rest_events full g page ≡ rest_events full h page
rest_same true h g page same = rw (same.memory, ap (λ o. o.store) same.own) refl
rest_same false h g page same = ap (λ (n : ℕ). n + 131) (to_same h g page same)

entry_same : {T E : Type 0} (entry : Option Slot) (h g : HierarchyView T E) (page : ℕ) → LooksSame h g
    → entry_events entry g page ≡ entry_events entry h page
entry_same None h g page same =
    ap (λ (m : MemoryView). rest_events (is_full_buffer m.slots) g page) same.memory
    ∙ rest_same (is_full_buffer h.memory.slots) h g page same
entry_same (Some entry) h g page same = refl

home_same : {T E : Type 0} (h g : HierarchyView T E) (page : ℕ) → LooksSame h g → home_events g page ≡ home_events h page
home_same h g page same =
    ap (λ (m : MemoryView). if is_home m page then 0 else entry_events (entry_at m page) g page) same.memory
    ∙ ap (λ (n : ℕ). if is_home h.memory page then 0 else n) (entry_same (entry_at h.memory page) h g page same)

left_same : {T E : Type 0} (op : Op) (h g : HierarchyView T E) → LooksSame h g → events_left op g ≡ events_left op h
left_same (Load at len) h g same = to_same h g (page_of at) same
left_same (Store at bytes) h g same = to_same h g (page_of at) same
left_same (Mark page from count) h g same = home_same h g page.0 same
left_same Verify h g same = refl
left_same (Release page from count) h g same = refl

step_falls : {T E : Type 0} (op : Op) (page : PageNo) (action : Action) (what : What) (g h' : HierarchyView T E) → IsStepGiven g h'
    → Finds op g.memory (lines_under g) page → IsMissAction op page g action → Performs action g (Did what) h'
    → events_left op h' < events_left op g
step_falls (Load at len) page action what g h' given finds is performs =
    let did : IsWorkedFor page.0 g (Did what) h' = rw is at performs in
    rw finds.page_is at (worked_falls page.0 what g h' given finds.absent did)
step_falls (Store at bytes) page action what g h' given finds is performs =
    let did : IsWorkedFor page.0 g (Did what) h' = rw is at performs in
    rw finds.page_is at (worked_falls page.0 what g h' given finds.absent did)
step_falls (Mark marked from count) page action what g h' given finds is performs =
    rw finds.page_is at (mark_falls page action what g h' given finds.away is performs)
step_falls Verify page action what g h' given finds is performs = absurd finds
step_falls (Release released from count) page action what g h' given finds is performs = absurd finds

-- a step after a call missed
pub miss_falls : {T E : Type 0} (op : Op) (page : PageNo) (action : Action) (what : What) (h g h' : HierarchyView T E)
    → LooksSame h g → IsStepGiven g h' → Finds op h.memory (lines_under h) page → IsMissAction op page g action
    → Performs action g (Did what) h' → events_left op h' < events_left op h
miss_falls op page action what h g h' same given finds is performs =
    let found : Finds op g.memory (lines_under g) page = rw (same.memory, same.lines) finds in
    let less = step_falls op page action what g h' given found is performs in
    let equal = left_same op h g same in
    omega (arith, less, equal)

-- a call begins with fewer events than it may take
pub left_few : {T E : Type 0} (op : Op) (geometry : Geometry) (h : HierarchyView T E)
    → ((page : ℕ) → (lines_under h).steps page ≤ (lines_under h).most_steps)
    → (lines_under h).most_steps ≡ 6 * geometry.per_block + 10 → events_left op h < most_events geometry op
left_few (Load at len) geometry h few most =
    let all = events_most h (page_of at) (few (page_of at)) in omega (arith, all, most)
left_few (Store at bytes) geometry h few most =
    let all = events_most h (page_of at) (few (page_of at)) in omega (arith, all, most)
left_few (Mark page from count) geometry h few most =
    let all = home_events_most h page.0 (few page.0) in omega (arith, all, most)
left_few Verify geometry h few most = omega arith
left_few (Release page from count) geometry h few most = omega arith
