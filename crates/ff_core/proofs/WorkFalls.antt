-- A step of work for a page leaves fewer events until it is resident.
use Rattle.std.proofs.Common.{◌≡◌, ◌≢◌, ◌<◌, ◌≤◌, ◌+◌, ◌*◌, ◌%◌, ℕ, Bool, true, false, Option, Some, None, inl, inr, refl, sym, ap, ◌∙◌, arith}
use Rattle.std.specs.Prelude.{get_or, if◌then◌else◌}
use Rattle.std.specs.Option.{is_some}
use Rattle.std.proofs.Math.ListN.{get_or-map}
use Rattle.std.proofs.lemmas.Bool.{cases_Bool}
use Rattle.std.proofs.lemmas.Option.{none-some}
use Rattle.ff_base.specs.declared.numbers.PageNo.{PageNo}
use Rattle.ff_cache.specs.Cache.{IsCacheSound, way_at}
use Rattle.ff_cache.specs.Slots.{cache_slot_at, empty_slot, slot_flushed}
use Rattle.ff_cache.specs.declared.slot.CacheSlot.{CacheSlot}
use Rattle.ff_device.specs.Device.{DeviceView, own_of, parts_of}
use Rattle.ff_device.specs.WorkRows.{HasSealed, IsPinnedSet}
use Rattle.ff_device.proofs.Frames.{frames_by}
use Rattle.ff_lines.specs.DeviceState.{IsDevice}
use Rattle.ff_lines.specs.declared.device.Work.{Work}
use Rattle.ff_lines.specs.declared.device.Work.TheVariants.{Ready, Stepped, Failed as WorkFailed, Off as WorkOff, Pinned}
use Rattle.ff_memory.specs.Located.{IsLocated}
use Rattle.ff_memory.specs.Memory.{IsMemorySound, MemoryView, entry_at, home_at}
use Rattle.ff_memory.specs.declared.access.What.{What}
use Rattle.ff_plb.specs.Plb.{IsFound, entry_of, slot_at}
use Rattle.ff_plb.specs.declared.slot.Slot.{Slot}
use Rattle.ff_core.specs.EventsLeft.{entry_of_some, entry_steps, events_by, events_to, is_full_buffer, is_kept_set, keeper_steps, most_events_to, seals_left, slot_steps}
use Rattle.ff_core.specs.Hierarchy.{HierarchyView, lines_under}
use Rattle.ff_core.specs.Performs.{IsAdvanced, IsDeviceStep, IsWorkedFor, progress_of, steps, yields}
use Rattle.ff_core.specs.declared.action.Progress.{Progress}
use Rattle.ff_core.specs.declared.action.Progress.TheVariants.{Did}
use Rattle.ff_core.proofs.EntrySteps.{IsStepped, entry_step, stepped_full, stepped_here, stepped_other}
use Rattle.ff_core.proofs.KeptSets.{pinned_kept}
use Rattle.ff_core.proofs.KeptSteps.{kept_sealed, step_free}
use Rattle.ff_core.proofs.LinesLeft.{entry_most}
use Rattle.ff_core.proofs.Owning.{own_store}

-- what is known of a hierarchy before a step, and of the one after it
pub record IsStepGiven {T E : Type 0} (h h' : HierarchyView T E) : Type 0 where
  pub memory : IsMemorySound h.memory
  pub cache : IsCacheSound h.device.cache
  pub device : IsDevice (lines_under h)
  pub located : IsLocated h.memory (lines_under h)
  pub after : IsDevice (lines_under h')

-- the slots hold the same pages
pub own_page : (d d' : DeviceView) (k : ℕ) → own_of d' ≡ own_of d
    → (cache_slot_at d'.cache.slots k).page ≡ (cache_slot_at d.cache.slots k).page
own_page d d' k own =
    sym (get_or-map (λ (s : CacheSlot). s.page) d'.cache.slots k empty_slot)
    ∙ ap (λ o. get_or o.pages k None) own
    ∙ get_or-map (λ (s : CacheSlot). s.page) d.cache.slots k empty_slot

pub own_way : (d d' : DeviceView) (page way : ℕ) → own_of d' ≡ own_of d
    → (way_at d'.cache page way).page ≡ (way_at d.cache page way).page
own_way d d' page way own =
    let k : ℕ = page % d.cache.sets * d.cache.ways + way in
    let sets : d'.cache.sets ≡ d.cache.sets = ap (λ o. o.sets) own in
    let ways : d'.cache.ways ≡ d.cache.ways = ap (λ o. o.ways) own in
    rw (sets, ways) (own_page d d' k own)

-- the events after a step are at most those of a kept set
events_at_most : {T E : Type 0} (kept : Bool) (h : HierarchyView T E) (page : ℕ)
    → (lines_under h).steps page ≤ (lines_under h).most_steps
    → events_by kept h page ≤ keeper_steps h page + (seals_left h + (lines_under h).most_steps)
events_at_most true h page few = omega arith
events_at_most false h page few =
    let steps : ℕ = (lines_under h).steps page in
    let most : ℕ = (lines_under h).most_steps in
    let keeper : ℕ = keeper_steps h page in
    let seals : ℕ = seals_left h in
    let less : steps ≤ most = few in
    omega arith

-- a flush of a kept set's device was sealed
sealed_falls : {T E : Type 0} (page : ℕ) (h h' : HierarchyView T E) → IsStepGiven h h' → IsDeviceStep page Stepped h h'
    → is_kept_set h.device.cache (lines_under h) page ≡ true → events_to h' page < events_to h page
sealed_falls {T = T} {E = E} page h h' given step kept =
    let row : HasSealed (parts_of h.device) (parts_of h'.device) =
    kept_sealed page (parts_of h.device) (parts_of h'.device) given.cache step.row kept in
    let frames = frames_by row.page slot_flushed h.device.cache h'.device.cache row.cache (λ s. refl) (λ s. refl) in
    let sealed : seals_left h' ≡ 0 = rw row.sealed.done refl in
    let waited : seals_left h ≡ 1 = rw row.sealed.waited refl in
    let way : (way_at h'.device.cache page 0).page ≡ (way_at h.device.cache page 0).page =
    rw (frames.sets, frames.ways) (frames.page (page % h.device.cache.sets * h.device.cache.ways + 0)) in
    let memory : h'.memory ≡ h.memory = ap (λ (g : HierarchyView T E). g.memory) step.rest in
    let keeper : keeper_steps h' page ≡ keeper_steps h page = rw (memory, way) refl in
    let most : (lines_under h').most_steps ≡ (lines_under h).most_steps = step.kept.sizes.most_steps in
    let after = events_at_most (is_kept_set h'.device.cache (lines_under h') page) h' page (given.after.few_steps page) in
    let before : events_to h page ≡ keeper_steps h page + (seals_left h + (lines_under h).most_steps) = rw kept refl in
    omega (arith, after, before, keeper, sealed, waited, most)

-- a set that isn't kept
free_falls : {T E : Type 0} (page : ℕ) (h h' : HierarchyView T E) → IsStepGiven h h' → IsDeviceStep page Stepped h h'
    → is_kept_set h.device.cache (lines_under h) page ≡ false → events_to h' page < events_to h page
free_falls page h h' given step free =
    let after = step_free page (parts_of h.device) (parts_of h'.device) given.cache step.works.0 step.kept.pinned step.row free in
    let less = step.works.1 in
    rw (free, after) less

stepped_falls : {T E : Type 0} (page : ℕ) (h h' : HierarchyView T E) → IsStepGiven h h' → IsDeviceStep page Stepped h h'
    → events_to h' page < events_to h page
stepped_falls page h h' given step = elim (cases_Bool (is_kept_set h.device.cache (lines_under h) page)) [
  | inl kept ↦ sealed_falls page h h' given step kept
  | inr free ↦ free_falls page h h' given step free
]

device_falls : {T E : Type 0} (work : Work) (what : What) (page : ℕ) (h h' : HierarchyView T E) → IsStepGiven h h'
    → (lines_under h).resident page ≡ false → Did what ≡ progress_of work → IsDeviceStep page work h h'
    → ((other : PageNo) → work ≡ Pinned other → ⊥) → events_to h' page < events_to h page
device_falls Ready what page h h' given absent came step free = let there = step.works.0 in absurd (cc)
device_falls Stepped what page h h' given absent came step free = stepped_falls page h h' given step
device_falls (Pinned other) what page h h' given absent came step free = absurd (free other refl)
device_falls WorkFailed what page h h' given absent came step free = absurd (cc)
device_falls WorkOff what page h h' given absent came step free = absurd (cc)

-- the entry of a slot, whose step was made
pub advanced_step : {T E : Type 0} (slot : ℕ) (h : HierarchyView T E) (progress : Progress) (h' : HierarchyView T E)
    → IsMemorySound h.memory → IsAdvanced slot h progress h' → (page : ℕ) → (found : IsFound h.memory.slots page slot)
    → IsStepped slot found.entry h.memory h'.memory
advanced_step slot h progress h' sound is page found = record {
  sound = sound;
  has = found.has;
  step = entry_step (slot_at h.memory.slots slot) slot found.entry h.memory (lines_under h) is.what h'.memory (lines_under h')
      found.has.there is.step;
}

-- the page in the least way of a kept set makes its step
yield_falls : {T E : Type 0} (page : ℕ) (other : PageNo) (slot : ℕ) (h : HierarchyView T E) (progress : Progress)
    (h' : HierarchyView T E) → IsStepGiven h h' → IsPinnedSet page other (parts_of h.device)
    → IsFound h.memory.slots other.0 slot → IsAdvanced slot h progress h' → events_to h' page < events_to h page
yield_falls page other slot h progress h' given pinned found is =
    let kept = pinned_kept (parts_of h.device) page other given.cache pinned in
    let s = advanced_step slot h progress h' given.memory is other.0 found in
    let old_keeper : keeper_steps h page ≡ entry_steps found.entry =
    ap (λ (way : Option PageNo). slot_steps (entry_of_some h.memory.slots way)) pinned.least
    ∙ ap slot_steps found.of_page in
    let new_keeper : keeper_steps h' page ≡ slot_steps s.step.after =
    ap (λ (way : Option PageNo). slot_steps (entry_of_some h'.memory.slots way))
    (own_way h.device h'.device page 0 is.moved.own ∙ pinned.least)
    ∙ ap (λ (q : ℕ). slot_steps (entry_of h'.memory.slots q)) (sym found.page_is)
    ∙ ap slot_steps (stepped_here slot found.entry h.memory h'.memory s) in
    let fewer = s.step.fewer in
    let store = own_store h.device h'.device is.moved.own in
    let seals : seals_left h' ≡ seals_left h = rw store refl in
    let most : (lines_under h').most_steps ≡ (lines_under h).most_steps = rw store refl in
    let after = events_at_most (is_kept_set h'.device.cache (lines_under h') page) h' page (given.after.few_steps page) in
    let before : events_to h page ≡ keeper_steps h page + (seals_left h + (lines_under h).most_steps) = rw kept refl in
    omega (arith, after, before, old_keeper, new_keeper, fewer, seals, most)

pub worked_falls : {T E : Type 0} (page : ℕ) (what : What) (h h' : HierarchyView T E) → IsStepGiven h h'
    → (lines_under h).resident page ≡ false → IsWorkedFor page h (Did what) h' → events_to h' page < events_to h page
worked_falls page what h h' given absent (steps work came step free) =
    device_falls work what page h h' given absent came step free
worked_falls page what h h' given absent (yields other slot pinned found is) =
    yield_falls page other slot h (Did what) h' given pinned found is

-- what a step leaves of a page without an entry
pub record LeavesPage (page : ℕ) (m m' : MemoryView) : Type 0 where
  pub home : home_at m' page ≡ home_at m page
  pub entry : entry_at m' page ≡ None
  pub full : is_full_buffer m'.slots ≡ true → is_full_buffer m.slots ≡ true

-- another page's entry made its step
pub step_leaves : (slot page : ℕ) (entry : Slot) (m m' : MemoryView) → IsStepped slot entry m m' → entry_at m page ≡ None
    → entry_at m entry.page.0 ≡ Some entry → LeavesPage page m m'
step_leaves slot page entry m m' s none there =
    let other : page ≢ entry.page.0 = λ e.
    none-some entry (sym none ∙ ap (λ (q : ℕ). entry_at m q) e ∙ there) in
    record {
      home = s.step.homes page other;
      entry = stepped_other slot entry m m' page s other ∙ none;
      full = stepped_full slot entry m m' s;
    }

pub worked_leaves : {T E : Type 0} (page : ℕ) (progress : Progress) (h h' : HierarchyView T E) → IsMemorySound h.memory
    → entry_at h.memory page ≡ None → IsWorkedFor page h progress h' → LeavesPage page h.memory h'.memory
worked_leaves {T = T} {E = E} page progress h h' sound none (steps work came step free) =
    let memory : h'.memory ≡ h.memory = ap (λ (g : HierarchyView T E). g.memory) step.rest in
    rw memory (record { home = refl; entry = none; full = λ full. full })
worked_leaves page progress h h' sound none (yields other slot pinned found is) =
    let s = advanced_step slot h progress h' sound is other.0 found in
    step_leaves slot page found.entry h.memory h'.memory s none
    (ap (λ (q : ℕ). entry_at h.memory q) found.page_is ∙ found.of_page)

seals_most : (waits : Bool) → (if waits then 1 else 0) ≤ 1
seals_most true = omega arith
seals_most false = omega arith

pub slot_most : (found : Option Slot) → slot_steps found ≤ 130
slot_most None = omega arith
slot_most (Some entry) = entry_most entry

-- the most events until a page is resident
pub events_most : {T E : Type 0} (h : HierarchyView T E) (page : ℕ) → (lines_under h).steps page ≤ (lines_under h).most_steps
    → events_to h page ≤ most_events_to h
events_most h page few =
    let all = events_at_most (is_kept_set h.device.cache (lines_under h) page) h page few in
    let keeper = slot_most (entry_of_some h.memory.slots (way_at h.device.cache page 0).page) in
    let seals = seals_most (is_some (parts_of h.device).store.pending) in
    omega (arith, all, keeper, seals)
