-- A step for a mark of a page at rest in a frame leaves fewer events until the page is home.
use Rattle.std.proofs.Common.{◌≡◌, ◌<◌, ◌≤◌, ◌+◌, ℕ, Bool, true, false, List, length, Option, Some, None, inl, inr, refl, sym, ap, ◌∙◌, arith}
use Rattle.std.specs.Option.{is_some}
use Rattle.std.proofs.lemmas.Bool.{cases_lt, false_from_ne_true}
use Rattle.std.proofs.lemmas.List.{get_or_past}
use Rattle.std.proofs.lemmas.Option.{none-some, same_Some}
use Rattle.ff_base.specs.declared.numbers.PageNo.{PageNo}
use Rattle.ff_cache.proofs.Full.{all_below_at, all_below_true}
use Rattle.ff_frames.specs.Frames.{frame_at}
use Rattle.ff_lines.specs.DeviceState.{DeviceState}
use Rattle.ff_lines.specs.LineMask.{mask_others}
use Rattle.ff_memory.specs.Advances.{Advances}
use Rattle.ff_memory.specs.Memory.{MemoryView, entry_at, numbered}
use Rattle.ff_memory.specs.LineBytes.{is_home}
use Rattle.ff_memory.specs.declared.access.What.{What}
use Rattle.ff_memory.proofs.Flights.{page-within}
use Rattle.ff_plb.specs.Plb.{HasEntry, IsFound, IsNoneEmpty, slot_at}
use Rattle.ff_plb.specs.declared.slot.Slot.{Slot}
use Rattle.ff_plb.specs.declared.slot.Way.{Way}
use Rattle.ff_plb.specs.declared.slot.Way.TheVariants.{Coming, Leaving}
use Rattle.ff_plb.proofs.Entries.{apart-begin, entry-at, entry-now}
use Rattle.ff_core.specs.EventsLeft.{entry_events, entry_steps, events_to, flight_events, home_events, is_full_buffer, most_events_to, most_slot_steps, rest_events, slot_steps}
use Rattle.ff_core.specs.Hierarchy.{HierarchyView, lines_under}
use Rattle.ff_core.specs.Misses.{IsActionAtRest, IsMarkAction, action_in_flight, at_rest, in_flight, retreats, waits_for_slot, works}
use Rattle.ff_core.specs.Performs.{HasRetreated, IsAdvanced, IsWorkedFor, Performs}
use Rattle.ff_core.specs.declared.action.Action.{Action}
use Rattle.ff_core.specs.declared.action.Progress.{Progress}
use Rattle.ff_core.specs.declared.action.Progress.TheVariants.{Did}
use Rattle.ff_core.proofs.EntrySteps.{IsStepped, entry_step, stepped_slot}
use Rattle.ff_core.proofs.LinesLeft.{entry_most}
use Rattle.ff_core.proofs.MarkFalls.{away_is, events_at_most, left_falls, turned_falls}
use Rattle.ff_core.proofs.Owning.{own_store}
use Rattle.ff_core.proofs.WorkFalls.{IsStepGiven, events_most, slot_most, step_leaves, worked_falls, worked_leaves}

some_of : (found : Option Slot) → (found ≡ None → ⊥) → is_some found ≡ true
some_of None none = absurd (none refl)
some_of (Some entry) none = refl

-- no slot is empty
full_of : (slots : List (Option Slot)) → IsNoneEmpty slots → is_full_buffer slots ≡ true
full_of slots none =
    all_below_true (λ (k : ℕ). is_some (slot_at slots k)) (length slots)
    (λ k below. some_of (slot_at slots k) (λ empty. none k (record { in_range = below; empty = empty })))

free_of : (slots : List (Option Slot)) → (IsNoneEmpty slots → ⊥) → is_full_buffer slots ≡ false
free_of slots some =
    false_from_ne_true (is_full_buffer slots) (λ full. some (λ k empty.
    let there = all_below_at (λ (j : ℕ). is_some (slot_at slots j)) (length slots) k full empty.in_range in
    let gone : is_some (slot_at slots k) ≡ false = ap (λ (found : Option Slot). is_some found) empty.empty in
    cc))

-- the events of a page at rest are at most those where no slot is free
rest_most : {T E : Type 0} (full : Bool) (h : HierarchyView T E) (page : ℕ)
    → (lines_under h).steps page ≤ (lines_under h).most_steps
    → rest_events full h page ≤ slot_steps (slot_at h.memory.slots 0) + (most_events_to h + (most_slot_steps + 1))
rest_most true h page few = omega arith
rest_most false h page few =
    let less = events_most h page few in
    let slot : ℕ = slot_steps (slot_at h.memory.slots 0) in
    omega (arith, less)

-- the entry in a slot that made its step
advanced_entry : (found : Option Slot) (slot : ℕ) (m : MemoryView) (d : DeviceState) (what : What) (m' : MemoryView) (d' : DeviceState)
    → Advances slot found m d what m' d' → (entry : Slot) × (found ≡ Some entry)
advanced_entry None slot m d what m' d' is = absurd is
advanced_entry (Some entry) slot m d what m' d' is = (entry, refl)

has_of : (slots : List (Option Slot)) (slot : ℕ) (entry : Slot) → slot_at slots slot ≡ Some entry → HasEntry slots slot entry
has_of slots slot entry there = elim (cases_lt slot (length slots)) [
  | inl within ↦ record { in_range = within; there = there }
  | inr past ↦ absurd (none-some entry (sym (get_or_past slots slot None past) ∙ there))
]

-- no slot is free, and the page in the first made its step
waited_falls : {T E : Type 0} (page : ℕ) (h : HierarchyView T E) (progress : Progress) (h' : HierarchyView T E)
    → IsStepGiven h h' → entry_at h.memory page ≡ None → IsNoneEmpty h.memory.slots → is_home h.memory page ≡ false
    → IsAdvanced 0 h progress h' → home_events h' page < home_events h page
waited_falls page h progress h' given none busy away is =
    let found = advanced_entry (slot_at h.memory.slots 0) 0 h.memory (lines_under h) is.what h'.memory (lines_under h') is.step in
    let entry : Slot = found.0 in
    let s : IsStepped 0 entry h.memory h'.memory = record {
      sound = given.memory;
      has = has_of h.memory.slots 0 entry found.1;
      step = entry_step (slot_at h.memory.slots 0) 0 entry h.memory (lines_under h) is.what h'.memory (lines_under h') found.1 is.step;
    } in
    let leaves = step_leaves 0 page entry h.memory h'.memory s none
    (entry-at h.memory.slots 0 entry given.memory.pages_apart found.1) in
    let after : home_events h' page ≤ rest_events (is_full_buffer h'.memory.slots) h' page = events_at_most h' page None leaves.entry in
    let most = rest_most (is_full_buffer h'.memory.slots) h' page (given.after.few_steps page) in
    let slot : slot_steps (slot_at h'.memory.slots 0) ≡ slot_steps s.step.after =
    ap slot_steps (stepped_slot 0 entry h.memory h'.memory s) in
    let fewer : slot_steps s.step.after < entry_steps entry = s.step.fewer in
    let same : most_events_to h' ≡ most_events_to h = rw (own_store h.device h'.device is.moved.own) refl in
    let before : home_events h page ≡ slot_steps (slot_at h.memory.slots 0) + (most_events_to h + (most_slot_steps + 1)) =
    away_is h page away ∙ ap (λ (e : Option Slot). entry_events e h page) none
    ∙ ap (λ (full : Bool). rest_events full h page) (full_of h.memory.slots busy) in
    let slot_before : slot_steps (slot_at h.memory.slots 0) ≡ entry_steps entry = ap slot_steps found.1 in
    omega (arith, after, most, slot, fewer, same, before, slot_before)

-- a page at rest while a slot is free
rest_is : {T E : Type 0} (h : HierarchyView T E) (page : ℕ) → entry_at h.memory page ≡ None
    → is_full_buffer h.memory.slots ≡ false → is_home h.memory page ≡ false
    → home_events h page ≡ events_to h page + (most_slot_steps + 1)
rest_is h page none free away =
    away_is h page away ∙ ap (λ (e : Option Slot). entry_events e h page) none
    ∙ ap (λ (full : Bool). rest_events full h page) free

-- the page is made resident
works_falls : {T E : Type 0} (page : ℕ) (what : What) (h h' : HierarchyView T E) → IsStepGiven h h'
    → entry_at h.memory page ≡ None → (IsNoneEmpty h.memory.slots → ⊥) → (lines_under h).resident page ≡ false
    → is_home h.memory page ≡ false → IsWorkedFor page h (Did what) h' → home_events h' page < home_events h page
works_falls page what h h' given none some absent away is =
    let leaves = worked_leaves page (Did what) h h' given.memory none is in
    let free = free_of h.memory.slots some in
    let still : is_full_buffer h'.memory.slots ≡ false =
    false_from_ne_true (is_full_buffer h'.memory.slots) (λ full. let was = leaves.full full in cc) in
    let less = worked_falls page what h h' given absent is in
    let rest : home_events h' page ≤ rest_events (is_full_buffer h'.memory.slots) h' page = events_at_most h' page None leaves.entry in
    let opened : rest_events (is_full_buffer h'.memory.slots) h' page ≡ events_to h' page + (most_slot_steps + 1) =
    ap (λ (full : Bool). rest_events full h' page) still in
    let before = rest_is h page none free away in
    omega (arith, less, rest, opened, before)

-- the page begins to go back
retreats_falls : {T E : Type 0} (page : ℕ) (h : HierarchyView T E) (progress : Progress) (h' : HierarchyView T E)
    → IsStepGiven h h' → entry_at h.memory page ≡ None → (IsNoneEmpty h.memory.slots → ⊥)
    → is_home h.memory page ≡ false → HasRetreated page h progress h' → home_events h' page < home_events h page
retreats_falls page h progress h' given none some away is =
    let began = is.step in
    let left : Slot = record {
      page = numbered page;
      frame = began.frame;
      way = Leaving;
      bits = mask_others (frame_at h.memory.frames began.frame).dirty;
      flight = None;
    } in
    let within = began.least_slot.has.in_range in
    let entry : entry_at h'.memory page ≡ Some left =
    ap (λ (m : MemoryView). entry_at m page) began.memory
    ∙ entry-now h.memory.slots began.slot left within (apart-begin h.memory.slots began.slot left given.memory.pages_apart within none) in
    let after : home_events h' page ≤ entry_steps left = events_at_most h' page (Some left) entry in
    let most : entry_steps left ≤ 130 = entry_most left in
    let before = rest_is h page none (free_of h.memory.slots some) away in
    omega (arith, after, most, before)

rest_falls : {T E : Type 0} (page : PageNo) (action : Action) (what : What) (h h' : HierarchyView T E) → IsStepGiven h h'
    → entry_at h.memory page.0 ≡ None → is_home h.memory page.0 ≡ false → IsActionAtRest h page action
    → Performs action h (Did what) h' → home_events h' page.0 < home_events h page.0
rest_falls page action what h h' given none away (waits_for_slot busy is) performs =
    let did : IsAdvanced 0 h (Did what) h' = rw is at performs in
    waited_falls page.0 h (Did what) h' given none busy away did
rest_falls page action what h h' given none away (works some absent is) performs =
    let did : IsWorkedFor page.0 h (Did what) h' = rw is at performs in
    works_falls page.0 what h h' given none some absent away did
rest_falls page action what h h' given none away (retreats some resident is) performs =
    let did : HasRetreated page.0 h (Did what) h' = rw is at performs in
    retreats_falls page.0 h (Did what) h' given none some away did

flight_falls : {T E : Type 0} (way : Way) (page : PageNo) (slot : ℕ) (what : What) (h h' : HierarchyView T E) → IsStepGiven h h'
    → (found : IsFound h.memory.slots page.0 slot) → found.entry.way ≡ way → is_home h.memory page.0 ≡ false
    → Performs (action_in_flight way slot) h (Did what) h' → home_events h' page.0 < home_events h page.0
flight_falls Coming page slot what h h' given found way away performs =
    turned_falls slot page.0 h (Did what) h' given.memory found way away performs
flight_falls Leaving page slot what h h' given found way away performs =
    let within : found.entry.page.0 < length h.memory.table.homes =
    page-within h.memory (lines_under h) slot found.entry
    (record { sound = given.memory; device = given.device; located = given.located; has = found.has }) in
    left_falls slot page.0 h (Did what) h' given.memory (rw found.page_is at within) found way away performs

-- a step for a mark
pub mark_falls : {T E : Type 0} (page : PageNo) (action : Action) (what : What) (h h' : HierarchyView T E) → IsStepGiven h h'
    → is_home h.memory page.0 ≡ false → IsMarkAction h page action → Performs action h (Did what) h'
    → home_events h' page.0 < home_events h page.0
mark_falls page action what h h' given away (in_flight slot entry found at is) performs =
    let same : found.entry ≡ entry = same_Some found.entry entry (sym found.of_page ∙ at) in
    let way : found.entry.way ≡ entry.way = ap (λ (s : Slot). s.way) same in
    let did : Performs (action_in_flight entry.way slot) h (Did what) h' = rw is at performs in
    flight_falls entry.way page slot what h h' given found way away did
mark_falls page action what h h' given away (at_rest none rest) performs =
    rest_falls page action what h h' given none away rest performs

flight_most : (way : Way) (entry : Slot) → flight_events way entry ≤ 131
flight_most Coming entry = omega arith
flight_most Leaving entry = let most = entry_most entry in omega arith

-- the most events until a page is home
home_most : {T E : Type 0} (entry : Option Slot) (h : HierarchyView T E) (page : ℕ)
    → (lines_under h).steps page ≤ (lines_under h).most_steps
    → entry_events entry h page ≤ 130 + (most_events_to h + (most_slot_steps + 1))
home_most None h page few =
    let most = rest_most (is_full_buffer h.memory.slots) h page few in
    let slot = slot_most (slot_at h.memory.slots 0) in
    omega (arith, most, slot)
home_most (Some entry) h page few =
    let most = flight_most entry.way entry in
    let work : ℕ = (lines_under h).most_steps in
    omega (arith, most)

pub home_events_most : {T E : Type 0} (h : HierarchyView T E) (page : ℕ)
    → (lines_under h).steps page ≤ (lines_under h).most_steps
    → home_events h page ≤ 130 + (most_events_to h + (most_slot_steps + 1))
home_events_most h page few =
    let some = events_at_most h page (entry_at h.memory page) refl in
    let most = home_most (entry_at h.memory page) h page few in
    omega (arith, some, most)
