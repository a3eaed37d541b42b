-- What is chosen, and what is done for a call that missed, may be performed.
use Rattle.std.specs.Prelude.{is_none}
use Rattle.std.proofs.Common.{◌≡◌, ◌<◌, ℕ, Bool, false, List, length, Option, None, Some, inl, inr, refl, sym, ap, ◌∙◌}
use Rattle.std.proofs.lemmas.Bool.{cases_lt}
use Rattle.std.proofs.lemmas.List.{get_or_past}
use Rattle.std.proofs.lemmas.Option.{none-some, same_Some}
use Rattle.ff_base.specs.declared.numbers.PageNo.{PageNo}
use Rattle.ff_frames.specs.Frame.{free_frame}
use Rattle.ff_frames.specs.Frames.{frame_at}
use Rattle.ff_frames.specs.declared.frame.Frame.{Frame}
use Rattle.ff_memory.specs.Located.{IsLocated}
use Rattle.ff_memory.specs.Memory.{MemoryView, entry_at, home_at}
use Rattle.ff_memory.specs.LineBytes.{Holds, frame_of_home}
use Rattle.ff_model.specs.declared.counts.Kind.{Kind}
use Rattle.ff_model.specs.declared.counts.Kind.TheVariants.{Promote as PromoteKind, Evict as EvictKind, Collect as CollectKind, Drain as DrainKind}
use Rattle.ff_model.specs.declared.op.Op.{Op}
use Rattle.ff_model.specs.declared.op.Op.TheVariants.{Load, Store, Verify, Mark, Release}
use Rattle.ff_plb.specs.Plb.{IsFound, IsInUse, IsNoneEmpty, slot_at}
use Rattle.ff_plb.specs.declared.slot.Slot.{Slot}
use Rattle.ff_plb.specs.declared.slot.Way.{Way}
use Rattle.ff_plb.specs.declared.slot.Way.TheVariants.{Coming, Leaving}
use Rattle.ff_table.specs.declared.table.Home.{Home}
use Rattle.ff_table.specs.declared.table.Home.TheVariants.{Ssd, Host}
use Rattle.ff_core.specs.CanPerform.{CanPerform}
use Rattle.ff_core.specs.Choices.{CollectChoice, DrainChoice, EvictChoice, IsChoice, IsEvicted, IsNextSlot, PromoteChoice, finishes, lands, lifts}
use Rattle.ff_core.specs.Hierarchy.{HierarchyView, lines_under}
use Rattle.ff_core.specs.Misses.{IsActionAtRest, IsAway, IsMarkAction, IsMissAction, MissesPage, action_in_flight, in_flight, at_rest, waits_for_slot, works, retreats}
use Rattle.ff_core.specs.declared.action.Action.{Action}
use Rattle.ff_core.specs.declared.action.Action.TheVariants.{Advance, TurnBack, Work, Promote, Retreat, Evict, Collect, Drain}

next-in_use : (way : Way) (slots : List (Option Slot)) (slot : ℕ) → IsNextSlot way slots slot → IsInUse slots slot
next-in_use way slots slot (finishes is) = record { entry = is.has.entry; has = is.has.has }
next-in_use way slots slot (lands none is) = record { entry = is.has.entry; has = is.has.has }
next-in_use way slots slot (lifts none also is) = record { entry = is.has.entry; has = is.has.has }

-- the frame that is a page's home
home-of : (home : Home) (frame : ℕ) → frame_of_home home ≡ Some frame → home ≡ Host frame
home-of Ssd frame is = absurd (none-some frame is)
home-of (Host other) frame is = ap Host (same_Some other frame is)

-- a page that is at home in a frame is one of the table
home-within : (m : MemoryView) (page frame : ℕ) → home_at m page ≡ Host frame → page < length m.table.homes
home-within m page frame is = elim (cases_lt page (length m.table.homes)) [
  | inl within ↦ within
  | inr past ↦ (let out : home_at m page ≡ Ssd = get_or_past m.table.homes page Ssd past in let both : Ssd ≡ Host frame = sym out ∙ is in cc)
]

-- the page of a frame that the evictor chose is at rest, and the frame is its home
record IsResting {T E : Type 0} (h : HierarchyView T E) (frame page : ℕ) : Type 0 where
  home : home_at h.memory page ≡ Host frame
  at_rest : entry_at h.memory page ≡ None

chosen-rests : {T E : Type 0} (score : E → Bool → ℕ → ℕ) (h : HierarchyView T E) (frame : ℕ) (page : PageNo)
    → IsLocated h.memory (lines_under h) → IsEvicted score h frame page → IsResting h frame page.0
chosen-rests score h frame page located is =
    let rests : entry_at h.memory page.0 ≡ None = rw is.holds at is.chosen.passes.no_entry in
    let used = located.used frame page.0 is.holds in
    record {
      home = home-of (home_at h.memory page.0) frame (rw rests at used);
      at_rest = rests;
    }

promote-may : {T E : Type 0} (h : HierarchyView T E) (action : Action) → PromoteChoice h (Some action)
    → CanPerform action h
promote-may h (Advance slot) is = next-in_use Coming h.memory.slots slot is
promote-may h (Promote page) is = is.1.is
promote-may h (TurnBack slot) is = absurd is
promote-may h (Work page) is = absurd is
promote-may h (Retreat page) is = absurd is
promote-may h (Evict frame) is = absurd is
promote-may h Collect is = absurd is
promote-may h Drain is = absurd is

evict-may : {T E : Type 0} (score : E → Bool → ℕ → ℕ) (h : HierarchyView T E) (action : Action)
    → IsLocated h.memory (lines_under h) → EvictChoice score h (Some action) → CanPerform action h
evict-may score h (Advance slot) located is = next-in_use Leaving h.memory.slots slot is
evict-may score h (Evict frame) located is =
    let page = is.1.0 in
    let evicted = is.1.1 in
    let rests = chosen-rests score h frame page located evicted in
    record {
      page = page;
      in_range = evicted.chosen.passes.in_range;
      holds = evicted.holds;
      may = record {
        in_range = home-within h.memory page.0 frame rests.home;
        frame = frame;
        home = rests.home;
        at_rest = rests.at_rest;
        resident = is.1.2;
        some_slot = evicted.wants.some_slot;
      };
    }
evict-may score h (Work page) located is =
    let frame = is.1.0 in
    let rests = chosen-rests score h frame page located is.1.1 in
    record { in_range = home-within h.memory page.0 frame rests.home; absent = is.1.2 }
evict-may score h (TurnBack slot) located is = absurd is
evict-may score h (Promote page) located is = absurd is
evict-may score h (Retreat page) located is = absurd is
evict-may score h Collect located is = absurd is
evict-may score h Drain located is = absurd is

collect-may : {T E : Type 0} (h : HierarchyView T E) (action : Action) → CollectChoice h (Some action)
    → CanPerform action h
collect-may h Collect is = is
collect-may h (Advance slot) is = absurd is
collect-may h (TurnBack slot) is = absurd is
collect-may h (Work page) is = absurd is
collect-may h (Promote page) is = absurd is
collect-may h (Retreat page) is = absurd is
collect-may h (Evict frame) is = absurd is
collect-may h Drain is = absurd is

drain-may : {T E : Type 0} (h : HierarchyView T E) (action : Action) → DrainChoice h (Some action)
    → CanPerform action h
drain-may h Drain is = is
drain-may h (Advance slot) is = absurd is
drain-may h (TurnBack slot) is = absurd is
drain-may h (Work page) is = absurd is
drain-may h (Promote page) is = absurd is
drain-may h (Retreat page) is = absurd is
drain-may h (Evict frame) is = absurd is
drain-may h Collect is = absurd is

-- what a background turn chose may be performed
pub choice-may : {T E : Type 0} (score : E → Bool → ℕ → ℕ) (kind : Kind) (h : HierarchyView T E) (action : Action)
    → IsLocated h.memory (lines_under h) → IsChoice score kind h (Some action) → CanPerform action h
choice-may score PromoteKind h action located is = promote-may h action is
choice-may score EvictKind h action located is = evict-may score h action located is
choice-may score CollectKind h action located is = collect-may h action is
choice-may score DrainKind h action located is = drain-may h action is

-- a frame that holds a page is one of the list
holds-within : (frames : List Frame) (frame page : ℕ) → Holds frames frame page → frame < length frames
holds-within frames frame page held = elim (cases_lt frame (length frames)) [
  | inl within ↦ within
  | inr past ↦
      (let out : (frame_at frames frame).page ≡ None = ap (λ (f : Frame). f.page) (get_or_past frames frame free_frame past) in
      absurd (none-some (record { 0 = page }) (sym out ∙ held)))
]

flight-may : {T E : Type 0} (h : HierarchyView T E) (page : PageNo) (slot : ℕ) (way : Way)
    → (found : IsFound h.memory.slots page.0 slot) → found.entry.way ≡ way → IsAway h page.0
    → IsLocated h.memory (lines_under h) → CanPerform (action_in_flight way slot) h
flight-may h page slot Leaving found is away located = record { entry = found.entry; has = found.has }
flight-may h page slot Coming found is away located =
    let flies = rw found.of_page at (located.sites page.0) in
    record {
      entry = found.entry;
      has = found.has;
      way = is;
      page = rw found.page_is away.in_range;
      frame = holds-within h.memory.frames found.entry.frame page.0 flies.holds;
    }

-- slot 0 has an entry where no slot is empty
first-used : (slots : List (Option Slot)) (there : Option Slot) → slot_at slots 0 ≡ there → 0 < length slots
    → IsNoneEmpty slots → IsInUse slots 0
first-used slots None is some none = absurd (none 0 (record { in_range = some; empty = is }))
first-used slots (Some entry) is some none = record { entry = entry; has = record { in_range = some; there = is } }

-- the home of a page that is at rest and isn't home
resting-frame : (home : Home) → is_none (frame_of_home home) ≡ false → (frame : ℕ) × (home ≡ Host frame)
resting-frame Ssd away = absurd (cc)
resting-frame (Host frame) away = (frame, refl)

rest-may : {T E : Type 0} (h : HierarchyView T E) (page : PageNo) (action : Action) → IsActionAtRest h page action
    → entry_at h.memory page.0 ≡ None → IsAway h page.0 → 0 < length h.memory.slots → CanPerform action h
rest-may h page action (waits_for_slot none is) rests away some =
    rw is (first-used h.memory.slots (slot_at h.memory.slots 0) refl some none)
rest-may h page action (works slot absent is) rests away some =
    rw is record { in_range = away.in_range; absent = absent }
rest-may h page action (retreats slot resident is) rests away some =
    let home = resting-frame (home_at h.memory page.0) (rw rests at away.away) in
    rw is record {
      in_range = away.in_range;
      frame = home.0;
      home = home.1;
      at_rest = rests;
      resident = resident;
      some_slot = slot;
    }

mark-may : {T E : Type 0} (h : HierarchyView T E) (page : PageNo) (action : Action) → IsMarkAction h page action
    → IsAway h page.0 → IsLocated h.memory (lines_under h) → 0 < length h.memory.slots → CanPerform action h
mark-may h page action (in_flight slot entry found there is) away located some =
    let same : found.entry ≡ entry = same_Some found.entry entry (sym found.of_page ∙ there) in
    rw is (flight-may h page slot entry.way found (ap (λ (s : Slot). s.way) same) away located)
mark-may h page action (at_rest none rests) away located some = rest-may h page action rests none away some

-- what is done for a call that missed a page may be performed
pub help-may : {T E : Type 0} (op : Op) (page : PageNo) (h : HierarchyView T E) (action : Action)
    → IsMissAction op page h action → MissesPage op page h → IsLocated h.memory (lines_under h)
    → 0 < length h.memory.slots → CanPerform action h
help-may (Load at len) page h action is missed located some = rw is missed
help-may (Store at bytes) page h action is missed located some = rw is missed
help-may (Mark marked from count) page h action is missed located some = mark-may h page action is missed located some
help-may Verify page h action is missed located some = absurd is
help-may (Release released from count) page h action is missed located some = absurd is
