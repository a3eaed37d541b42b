-- Each event keeps the sizes of a hierarchy's parts.
use Rattle.std.proofs.Common.{◌≡◌, ◌+◌, ◌/◌, ◌%◌, ◌<◌, ◌==◌, ℕ, Bool, true, false, List, length, ap, ◌∙◌, arith, length-set}
use Rattle.std.proofs.Math.Nat.{mod-lt}
use Rattle.std.proofs.lemmas.List.{length-map}
use Rattle.ff_evict.specs.Evictor.{IsHandInside}
use Rattle.ff_frames.specs.declared.frame.Frame.{Frame}
use Rattle.ff_lines.specs.DeviceState.{SameSizes}
use Rattle.ff_memory.specs.declared.access.Access.{Access}
use Rattle.ff_memory.specs.declared.access.Side.{Side}
use Rattle.ff_memory.specs.declared.access.Side.TheVariants.{Device, Host, Neither}
use Rattle.ff_model.specs.declared.op.Op.{Op}
use Rattle.ff_plb.specs.Plb.{slot_at}
use Rattle.ff_policy.specs.Counters.{raised_count}
use Rattle.ff_policy.specs.Policy.{PolicyView, StepsWhere, counted, counter_of, step_accesses}
use Rattle.ff_device.specs.Device.{lines_in, own_of, parts_of}
use Rattle.ff_device.specs.Parts.{SameShape}
use Rattle.ff_core.specs.Hierarchy.{HierarchyView, lines_under}
use Rattle.ff_core.specs.Performs.{HasEvicted, HasPromoted, IsAdvanced, IsTurnedBack, IsWorkedFor, Performs, steps, yields}
use Rattle.ff_core.specs.Serving.{IsAccess, PolicyAfter}
use Rattle.ff_core.specs.declared.action.Action.{Action}
use Rattle.ff_core.specs.declared.action.Action.TheVariants.{Advance, TurnBack, Work, Promote, Retreat, Evict, Collect, Drain}
use Rattle.ff_core.specs.declared.action.Progress.{Progress}
use Rattle.ff_core.proofs.MemorySizes.{KeepsSizes, accesses-sizes, advances-sizes, promoted-sizes, retreated-sizes, sizes-same, turned-frames, turned-slots}
use Rattle.ff_core.proofs.Owning.{own_shape}

-- the parts of a hierarchy have the sizes that they had, and the hand is at a frame
pub record KeepsParts {T E : Type 0} (h h' : HierarchyView T E) : Type 0 where
  pub sizes : KeepsSizes h.memory (lines_under h) h'.memory (lines_under h')
  pub shape : SameShape (parts_of h.device) (parts_of h'.device)
  pub counters : length h'.policy.counters ≡ length h.policy.counters
  pub hand : IsHandInside h.evictor.hand h.memory.frames → IsHandInside h'.evictor.hand h'.memory.frames

-- the hand is where it was, and there are as many frames
same-hand : (hand : ℕ) (old new : List Frame) → length new ≡ length old → IsHandInside hand old → IsHandInside hand new
same-hand hand old new same inside some = let low : hand < length old = inside (omega arith) in omega arith

-- the hand moved on to the next frame, round
next-hand : (frame : ℕ) (old new : List Frame) → length new ≡ length old → IsHandInside ((frame + 1) % length old) new
next-hand frame old new same some =
    let low : 0 < length old = omega arith in
    let inside = mod-lt (frame + 1) low in
    omega arith

-- the policy and the hand are as before
moved-parts : {T E : Type 0} (h h' : HierarchyView T E) → h' ≡ record h { memory = h'.memory; device = h'.device }
    → own_of h'.device ≡ own_of h.device → KeepsSizes h.memory (lines_under h) h'.memory (lines_under h') → KeepsParts h h'
moved-parts {T} {E} h h' rest own sizes =
    let same = ap (λ (x : HierarchyView T E). x.evictor.hand) rest in
    record {
      sizes = sizes;
      shape = own_shape h.device h'.device own;
      counters = ap (λ (x : HierarchyView T E). length x.policy.counters) rest;
      hand = λ inside. rw same (same-hand h.evictor.hand h.memory.frames h'.memory.frames sizes.frames inside);
    }

-- the device alone changed
device-parts : {T E : Type 0} (h h' : HierarchyView T E) → h' ≡ record h { device = h'.device }
    → SameSizes (lines_under h) (lines_under h') → SameShape (parts_of h.device) (parts_of h'.device) → KeepsParts h h'
device-parts {T} {E} h h' rest lines shape =
    let same = ap (λ (x : HierarchyView T E). x.evictor.hand) rest in
    let frames = ap (λ (x : HierarchyView T E). length x.memory.frames) rest in
    record {
      sizes = record {
        frames = frames;
        slots = ap (λ (x : HierarchyView T E). length x.memory.slots) rest;
        lines = lines;
      };
      shape = shape;
      counters = ap (λ (x : HierarchyView T E). length x.policy.counters) rest;
      hand = λ inside. rw same (same-hand h.evictor.hand h.memory.frames h'.memory.frames frames inside);
    }

advanced-parts : {T E : Type 0} (slot : ℕ) (h : HierarchyView T E) (progress : Progress) (h' : HierarchyView T E)
    → IsAdvanced slot h progress h' → KeepsParts h h'
advanced-parts slot h progress h' is =
    moved-parts h h' is.rest is.moved.own
    (advances-sizes slot (slot_at h.memory.slots slot) h.memory (lines_under h) is.what h'.memory (lines_under h') is.step)

turned-parts : {T E : Type 0} (slot : ℕ) (h : HierarchyView T E) (progress : Progress) (h' : HierarchyView T E)
    → IsTurnedBack slot h progress h' → KeepsParts h h'
turned-parts {T} {E} slot h progress h' is =
    let hand = ap (λ (x : HierarchyView T E). x.evictor.hand) is.rest in
    let frames = ap (λ (x : HierarchyView T E). length x.memory.frames) is.rest
    ∙ turned-frames slot (slot_at h.memory.slots slot) h.memory in
    record {
      sizes = record {
        frames = frames;
        slots = ap (λ (x : HierarchyView T E). length x.memory.slots) is.rest
            ∙ turned-slots slot (slot_at h.memory.slots slot) h.memory;
        lines = sizes-same (lines_under h) (lines_under h')
            (ap (λ (x : HierarchyView T E). lines_in x.device) is.rest);
      };
      shape = own_shape h.device h'.device is.moved.own;
      counters = ap (λ (x : HierarchyView T E). length x.policy.counters) is.rest;
      hand = λ inside. rw hand (same-hand h.evictor.hand h.memory.frames h'.memory.frames frames inside);
    }

worked-parts : {T E : Type 0} (page : ℕ) (h : HierarchyView T E) (progress : Progress) (h' : HierarchyView T E)
    → IsWorkedFor page h progress h' → KeepsParts h h'
worked-parts page h progress h' (steps work came step unpinned) = device-parts h h' step.rest step.kept.sizes step.shape
worked-parts page h progress h' (yields other slot pinned found is) = advanced-parts slot h progress h' is

begun-parts : {T E : Type 0} (page : ℕ) (h : HierarchyView T E) (progress : Progress) (h' : HierarchyView T E)
    → HasPromoted page h progress h' → KeepsParts h h'
begun-parts {T} {E} page h progress h' is =
    let hand = ap (λ (x : HierarchyView T E). x.evictor.hand) is.rest in
    let sizes = promoted-sizes page h.memory (lines_under h) h'.memory (lines_under h') is.step in
    record {
      sizes = sizes;
      shape = own_shape h.device h'.device is.moved.own;
      counters = ap (λ (x : HierarchyView T E). length x.policy.counters) is.rest ∙ length-set h.policy.counters page 0;
      hand = λ inside. rw hand (same-hand h.evictor.hand h.memory.frames h'.memory.frames sizes.frames inside);
    }

evicted-parts : {T E : Type 0} (frame : ℕ) (h : HierarchyView T E) (progress : Progress) (h' : HierarchyView T E)
    → HasEvicted frame h progress h' → KeepsParts h h'
evicted-parts {T} {E} frame h progress h' is =
    let hand = ap (λ (x : HierarchyView T E). x.evictor.hand) is.rest in
    let begun = retreated-sizes is.page.0 h.memory (lines_under h) is.between (lines_under h') is.step in
    let frames = is.passed.size ∙ begun.frames in
    record {
      sizes = record {
        frames = frames;
        slots = ap (λ (slots : List _). length slots) is.passed.slots ∙ begun.slots;
        lines = begun.lines;
      };
      shape = own_shape h.device h'.device is.moved.own;
      counters = ap (λ (x : HierarchyView T E). length x.policy.counters) is.rest;
      hand = λ inside. rw hand (next-hand frame h.memory.frames h'.memory.frames frames);
    }

pub performs-parts : {T E : Type 0} (action : Action) (h : HierarchyView T E) (progress : Progress) (h' : HierarchyView T E)
    → Performs action h progress h' → KeepsParts h h'
performs-parts (Advance slot) h progress h' is = advanced-parts slot h progress h' is
performs-parts (TurnBack slot) h progress h' is = turned-parts slot h progress h' is
performs-parts (Work page) h progress h' is = worked-parts page.0 h progress h' is
performs-parts (Promote page) h progress h' is = begun-parts page.0 h progress h' is
performs-parts (Retreat page) h progress h' is =
    moved-parts h h' is.rest is.moved.own (retreated-sizes page.0 h.memory (lines_under h) h'.memory (lines_under h') is.step)
performs-parts (Evict frame) h progress h' is = evicted-parts frame h progress h' is
performs-parts Collect h progress h' is = device-parts h h' is.rest is.kept.sizes is.shape
performs-parts Drain h progress h' is = device-parts h h' is.rest is.drained.residence.sizes (own_shape h.device h'.device is.own)

-- a call was asked of the memory
pub access-parts : {T E : Type 0} (op : Op) (position : ℕ) (h : HierarchyView T E) (access : Access) (h' : HierarchyView T E)
    → IsAccess op position h access h' → KeepsParts h h'
access-parts op position h access h' is =
    moved-parts h h' is.rest is.own
    (accesses-sizes op position h.memory (lines_under h) access h'.memory (lines_under h') is.accesses)

stepped-counters : {T : Type 0} (due : Bool) (answers : T → ℕ → ℕ → ℕ → ℕ → Type 0) (old new : PolicyView T)
    → StepsWhere due answers old new → length new.counters ≡ length old.counters
stepped-counters {T} true answers old new is =
    ap (λ (p : PolicyView T). length p.counters) is.policy ∙ length-map old.counters (λ count. count / 2)
stepped-counters {T} false answers old new is = ap (λ (p : PolicyView T). length p.counters) is

-- an access was counted
pub counted-counters : {T : Type 0} (side : Side) (page : ℕ) (answers : T → ℕ → ℕ → ℕ → ℕ → Type 0) (old new : PolicyView T)
    → PolicyAfter side page answers old new → length new.counters ≡ length old.counters
counted-counters Device page answers old new is =
    stepped-counters ((counted page old).recent == step_accesses) answers (counted page old) new is
    ∙ length-set old.counters page (raised_count (counter_of old page))
counted-counters {T} Host page answers old new is = ap (λ (p : PolicyView T). length p.counters) is
counted-counters {T} Neither page answers old new is = ap (λ (p : PolicyView T). length p.counters) is
