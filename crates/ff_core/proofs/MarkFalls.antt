-- A step for a mark leaves fewer events until its page is home.
use Rattle.std.proofs.Common.{◌≡◌, ◌<◌, ◌≤◌, ◌+◌, ℕ, Bool, true, false, length, Option, Some, None, refl, sym, ap, ◌∙◌, arith}
use Rattle.std.specs.Option.{is_none}
use Rattle.std.specs.Prelude.{if◌then◌else◌}
use Rattle.ff_frames.specs.Frames.{frame_at}
use Rattle.ff_memory.specs.Begins.{turned_at, turned_by}
use Rattle.ff_memory.specs.Memory.{IsMemorySound, MemoryView, entry_at, home_at}
use Rattle.ff_memory.specs.LineBytes.{frame_of_page, is_home}
use Rattle.ff_memory.proofs.Finishes.{home-here}
use Rattle.ff_plb.specs.Plb.{HasEntry, IsFound}
use Rattle.ff_plb.specs.Slot.{after_turn}
use Rattle.ff_plb.specs.declared.slot.Slot.{Slot}
use Rattle.ff_plb.specs.declared.slot.Way.{Way}
use Rattle.ff_plb.specs.declared.slot.Way.TheVariants.{Coming, Leaving}
use Rattle.ff_plb.proofs.Entries.{apart-same, entry-now}
use Rattle.ff_table.specs.Table.{TableView, home_of as home_of_page, with_home}
use Rattle.ff_table.specs.declared.table.Home.{Home}
use Rattle.ff_table.specs.declared.table.Home.TheVariants.{Ssd}
use Rattle.ff_core.specs.EventsLeft.{entry_events, entry_steps, flight_events, home_events, most_slot_steps}
use Rattle.ff_core.specs.Hierarchy.{HierarchyView}
use Rattle.ff_core.specs.Performs.{IsAdvanced, IsTurnedBack}
use Rattle.ff_core.specs.declared.action.Progress.{Progress}
use Rattle.ff_core.proofs.EntrySteps.{IsStepped, stepped_here}
use Rattle.ff_core.proofs.LinesLeft.{entry_most, entry_some}
use Rattle.ff_core.proofs.WorkFalls.{advanced_step}

home_by : (home : Bool) (n : ℕ) → (if home then 0 else n) ≤ n
home_by true n = omega arith
home_by false n = omega arith

-- a page that isn't home
pub away_is : {T E : Type 0} (h : HierarchyView T E) (page : ℕ) → is_home h.memory page ≡ false
    → home_events h page ≡ entry_events (entry_at h.memory page) h page
away_is h page away = rw away refl

-- the events after a step are at most those of the entry that the page has then
pub events_at_most : {T E : Type 0} (h : HierarchyView T E) (page : ℕ) (entry : Option Slot) → entry_at h.memory page ≡ entry
    → home_events h page ≤ entry_events entry h page
events_at_most h page entry is =
    let all : home_events h page ≤ entry_events (entry_at h.memory page) h page =
    home_by (is_home h.memory page) (entry_events (entry_at h.memory page) h page) in
    let same : entry_events (entry_at h.memory page) h page ≡ entry_events entry h page =
    ap (λ (e : Option Slot). entry_events e h page) is in
    omega (arith, all, same)

-- a page that comes in turns back
turned_entry : (slot : ℕ) (entry : Slot) (m : MemoryView) → IsMemorySound m → HasEntry m.slots slot entry
    → entry_at (turned_at slot m) entry.page.0 ≡ Some (after_turn (frame_at m.frames entry.frame).dirty entry)
turned_entry slot entry m sound has =
    let left : Slot = after_turn (frame_at m.frames entry.frame).dirty entry in
    ap (λ (found : Option Slot). entry_at (turned_by slot found m) entry.page.0) has.there
    ∙ entry-now m.slots slot left has.in_range (apart-same m.slots slot entry left sound.pages_apart has.in_range has.there refl)

pub turned_falls : {T E : Type 0} (slot : ℕ) (page : ℕ) (h : HierarchyView T E) (progress : Progress) (h' : HierarchyView T E)
    → IsMemorySound h.memory → (found : IsFound h.memory.slots page slot) → found.entry.way ≡ Coming
    → is_home h.memory page ≡ false → IsTurnedBack slot h progress h' → home_events h' page < home_events h page
turned_falls {T = T} {E = E} slot page h progress h' sound found way away is =
    let left : Slot = after_turn (frame_at h.memory.frames found.entry.frame).dirty found.entry in
    let memory : h'.memory ≡ turned_at slot h.memory = ap (λ (g : HierarchyView T E). g.memory) is.rest in
    let entry : entry_at h'.memory page ≡ Some left =
    ap (λ (m : MemoryView). entry_at m page) memory
    ∙ ap (λ (q : ℕ). entry_at (turned_at slot h.memory) q) (sym found.page_is)
    ∙ turned_entry slot found.entry h.memory sound found.has in
    let after : home_events h' page ≤ entry_steps left = events_at_most h' page (Some left) entry in
    let most : entry_steps left ≤ 130 = entry_most left in
    let before : home_events h page ≡ most_slot_steps + 1 =
    away_is h page away ∙ ap (λ (found : Option Slot). entry_events found h page) found.of_page
    ∙ ap (λ (w : Way). flight_events w found.entry) way in
    omega (arith, after, most, before)

-- a page that goes back makes its step
home_is : (home : Home) (entry : Option Slot) → home ≡ Ssd → entry ≡ None → is_none (frame_of_page home entry) ≡ true
home_is home entry ssd none = rw (ssd, none) refl

left_by : {T E : Type 0} (after : Option Slot) (slot : ℕ) (page : ℕ) (h h' : HierarchyView T E)
    → (found : IsFound h.memory.slots page slot) → found.entry.way ≡ Leaving → page < length h.memory.table.homes
    → (s : IsStepped slot found.entry h.memory h'.memory) → s.step.after ≡ after → entry_at h'.memory page ≡ after
    → home_events h' page < entry_steps found.entry
left_by None slot page h h' found way within s is entry =
    let number : found.entry.page.0 ≡ page = found.page_is in
    let home : home_at h'.memory page ≡ Ssd =
    ap (λ (t : TableView). home_of_page t page) (s.step.ends is way)
    ∙ ap (λ (q : ℕ). home_of_page (with_home q Ssd h.memory.table) page) number
    ∙ home-here h.memory.table.homes page Ssd within in
    let is_at : is_home h'.memory page ≡ true = home_is (home_at h'.memory page) (entry_at h'.memory page) home entry in
    let some = entry_some found.entry in
    rw is_at some
left_by (Some left) slot page h h' found way within s is entry =
    let leaves : left.way ≡ Leaving = s.step.way left is ∙ way in
    let after : home_events h' page ≤ flight_events left.way left = events_at_most h' page (Some left) entry in
    let steps : flight_events left.way left ≡ entry_steps left = ap (λ (w : Way). flight_events w left) leaves in
    let fewer : entry_steps left < entry_steps found.entry = rw is at s.step.fewer in
    omega (arith, after, steps, fewer)

pub left_falls : {T E : Type 0} (slot : ℕ) (page : ℕ) (h : HierarchyView T E) (progress : Progress) (h' : HierarchyView T E)
    → IsMemorySound h.memory → page < length h.memory.table.homes → (found : IsFound h.memory.slots page slot)
    → found.entry.way ≡ Leaving → is_home h.memory page ≡ false → IsAdvanced slot h progress h'
    → home_events h' page < home_events h page
left_falls slot page h progress h' sound within found way away is =
    let s = advanced_step slot h progress h' sound is page found in
    let entry : entry_at h'.memory page ≡ s.step.after =
    ap (λ (q : ℕ). entry_at h'.memory q) (sym found.page_is) ∙ stepped_here slot found.entry h.memory h'.memory s in
    let less = left_by s.step.after slot page h h' found way within s refl entry in
    let before : home_events h page ≡ entry_steps found.entry =
    away_is h page away ∙ ap (λ (e : Option Slot). entry_events e h page) found.of_page
    ∙ ap (λ (w : Way). flight_events w found.entry) way in
    omega (arith, less, before)
