-- What a call that missed a page leaves: the core keeps what it kept, and the page isn't there.
use Rattle.std.proofs.Common.{◌≡◌, ◌<◌, ℕ, length, None, sym, ap, subst, ◌∙◌, arith}
use Rattle.ff_base.specs.declared.numbers.PageNo.{PageNo}
use Rattle.ff_calls.proofs.ToldMissed.{Finds, miss-finds}
use Rattle.ff_calls.specs.Told.{IsTold}
use Rattle.ff_device.specs.Device.{parts_of}
use Rattle.ff_device.specs.Parts.{SameShape}
use Rattle.ff_lines.specs.DeviceState.{DeviceState}
use Rattle.ff_memory.specs.Memory.{MemoryView}
use Rattle.ff_memory.specs.declared.access.Access.TheVariants.{Miss}
use Rattle.ff_model.specs.declared.op.Op.{Op}
use Rattle.ff_model.specs.declared.op.Op.TheVariants.{Load, Store, Verify, Mark, Release}
use Rattle.ff_core.specs.CanPerform.{CanPerform}
use Rattle.ff_core.specs.Core.{CoreView}
use Rattle.ff_core.specs.CoreSound.{IsCoreSound, IsCounted, IsSized, IsTimed}
use Rattle.ff_core.specs.Hierarchy.{HierarchyView, lines_under}
use Rattle.ff_core.specs.Misses.{IsMissAction, MissesPage}
use Rattle.ff_core.specs.Serving.{IsAccess, page_asked}
use Rattle.ff_model.specs.Legal.{refusal}
use Rattle.ff_core.specs.declared.action.Action.{Action}
use Rattle.ff_core.proofs.AskedPages.{named-page}
use Rattle.ff_core.proofs.Mays.{help-may}
use Rattle.ff_core.proofs.Owning.{own_shape}

-- nothing that a core keeps facts of was changed
pub record IsLeft {T E : Type 0} (h h' : HierarchyView T E) : Type 0 where
  pub memory : h'.memory ≡ h.memory
  pub lines : lines_under h' ≡ lines_under h
  pub store : h'.device.store ≡ h.device.store
  pub shape : SameShape (parts_of h.device) (parts_of h'.device)
  pub policy : h'.policy ≡ h.policy
  pub evictor : h'.evictor ≡ h.evictor

left-sized : {T E : Type 0} (core : CoreView T E) (h : HierarchyView T E) → IsLeft core.hierarchy h → IsSized core
    → IsSized (record core { hierarchy = h })
left-sized core h left is = record {
  limits = is.limits;
  pages = is.pages;
  capacity = is.capacity;
  window = ap (λ (d : DeviceState). d.most_posts) left.lines ∙ is.window;
  steps = ap (λ (d : DeviceState). d.most_steps) left.lines ∙ is.steps;
  sets = left.shape.sets ∙ is.sets;
  ways = left.shape.ways ∙ is.ways;
  counters = rw left.policy is.counters;
  frames = rw left.memory is.frames;
  slots = rw left.memory is.slots;
  hand = rw (left.evictor, left.memory) is.hand;
  few_calls = is.few_calls;
  few_turns = is.few_turns;
}

left-timed : {T E : Type 0} (core : CoreView T E) (h : HierarchyView T E) → IsLeft core.hierarchy h → IsTimed core
    → IsTimed (record core { hierarchy = h })
left-timed core h left is = record {
  next = is.next;
  from_on = is.from_on;
  not_past = is.not_past;
  few = rw left.store is.few;
  on = rw left.store is.on;
  off = rw left.store is.off;
}

left-counted : {T E : Type 0} (core : CoreView T E) (h : HierarchyView T E) → IsLeft core.hierarchy h → IsCounted core
    → IsCounted (record core { hierarchy = h })
left-counted core h left is = record {
  served = is.served;
  promotions = is.promotions;
  paid = rw left.policy is.paid;
  accesses = rw left.policy is.accesses;
  hits = rw left.policy is.hits;
  moves = is.moves;
  faults = rw left.store is.faults;
  planned = rw left.store is.planned;
  kinds = rw left.store is.kinds;
}

left-told : {T E : Type 0} (core : CoreView T E) (h : HierarchyView T E) → IsLeft core.hierarchy h
    → IsTold core.opening core.history.entries core.hierarchy.memory (lines_under core.hierarchy)
    → IsTold core.opening core.history.entries h.memory (lines_under h)
left-told core h left is =
    subst (λ (m : MemoryView). IsTold core.opening core.history.entries m (lines_under h)) (sym left.memory)
    (subst (λ (d : DeviceState). IsTold core.opening core.history.entries core.hierarchy.memory d) (sym left.lines) is)

-- the core is as sound as before
pub left-sound : {T E : Type 0} (core : CoreView T E) (h : HierarchyView T E) → IsLeft core.hierarchy h → IsCoreSound core
    → IsCoreSound (record core { hierarchy = h })
left-sound core h left is = record {
  sized = left-sized core h left is.sized;
  told = left-told core h left is.told;
  timed = left-timed core h left is.timed;
  counted = left-counted core h left is.counted;
}

-- the page that a call missed isn't there
finds-missed : {T E : Type 0} (pages : ℕ) (op : Op) (page : PageNo) (h : HierarchyView T E) → page_asked op < pages
    → length h.memory.table.homes ≡ pages → Finds op h.memory (lines_under h) page → MissesPage op page h
finds-missed pages (Load at len) page h low size finds =
    let same = finds.page_is in
    record { in_range = omega arith; absent = finds.absent }
finds-missed pages (Store at bytes) page h low size finds =
    let same = finds.page_is in
    record { in_range = omega arith; absent = finds.absent }
finds-missed pages Verify page h low size finds = finds
finds-missed pages (Mark marked from count) page h low size finds =
    let same = finds.page_is in
    record { in_range = omega arith; away = finds.away }
finds-missed pages (Release released from count) page h low size finds = finds

-- what is found of a page, where nothing was changed
left-finds : {T E : Type 0} (op : Op) (page : PageNo) (h h' : HierarchyView T E) → IsLeft h h'
    → Finds op h.memory (lines_under h) page → Finds op h'.memory (lines_under h') page
left-finds op page h h' left finds =
    subst (λ (m : MemoryView). Finds op m (lines_under h') page) (sym left.memory)
    (subst (λ (d : DeviceState). Finds op h.memory d page) (sym left.lines) finds)

-- a call missed a page: the core is as sound as before, and the page isn't there
pub record IsMissedCall {T E : Type 0} (core : CoreView T E) (op : Op) (page : PageNo) (h : HierarchyView T E) : Type 0 where
  pub sound : IsCoreSound (record core { hierarchy = h })
  pub missed : MissesPage op page h

pub missed-call : {T E : Type 0} (core : CoreView T E) (op : Op) (position : ℕ) (page : PageNo) (h : HierarchyView T E)
    → IsCoreSound core → refusal core.opening.pages core.events op ≡ None → IsAccess op position core.hierarchy (Miss page) h
    → IsMissedCall core op page h
missed-call core op position page h sound none is =
    let found = miss-finds op position page core.hierarchy.memory (lines_under core.hierarchy) h.memory (lines_under h) is.accesses in
    let left : IsLeft core.hierarchy h = record {
      memory = found.memory;
      lines = found.device;
      store = is.store;
      shape = own_shape core.hierarchy.device h.device is.own;
      policy = ap (λ (v : HierarchyView _ _). v.policy) is.rest;
      evictor = ap (λ (v : HierarchyView _ _). v.evictor) is.rest;
    } in
    let low = named-page core op sound none in
    record {
      sound = left-sound core h left sound;
      missed = finds-missed core.opening.pages op page h low
          (ap (λ (m : MemoryView). length m.table.homes) left.memory ∙ sound.told.pages)
          (left-finds op page core.hierarchy h left found.finds);
    }

-- what is done for it may be performed
pub missed-may : {T E : Type 0} (core : CoreView T E) (op : Op) (page : PageNo) (action : Action) → IsCoreSound core
    → MissesPage op page core.hierarchy → IsMissAction op page core.hierarchy action → CanPerform action core.hierarchy
missed-may core op page action sound missed is =
    let least = sound.sized.limits.plb.low in
    let slots : length core.hierarchy.memory.slots ≡ core.geometry.plb = sound.sized.slots in
    help-may op page core.hierarchy action is missed sound.told.located (omega arith)
