-- What a call that isn't refused at once comes to.
use Rattle.std.proofs.Common.{◌≡◌, ◌<◌, ◌+◌, ◌^◌, ℕ, Bool, true, Option, None, length, ap, subst, ◌∙◌, arith}
use Rattle.std.specs.Prelude.{IsTrue}
use Rattle.std.proofs.lemmas.List.Sums.{count_by-le-length}
use Rattle.ff_base.specs.declared.numbers.Caller.{Caller}
use Rattle.ff_base.specs.declared.numbers.PageNo.{PageNo}
use Rattle.ff_memory.specs.declared.access.Access.{Access}
use Rattle.ff_memory.specs.declared.access.Access.TheVariants.{Served as AccessServed, Miss}
use Rattle.ff_memory.specs.declared.access.Side.{Side}
use Rattle.ff_model.specs.declared.op.Op.{Op}
use Rattle.ff_model.specs.declared.op.Reply.{Reply}
use Rattle.ff_policy.specs.Policy.{PolicyView}
use Rattle.ff_core.specs.Core.{CoreView, entry_now, next_number, spare_calls, with_entry}
use Rattle.ff_core.specs.CoreSound.{IsCoreSound, is_served_access}
use Rattle.ff_core.specs.Hierarchy.{HierarchyView, flash_under}
use Rattle.ff_core.specs.Serving.{IsAccess, PolicyAfter, page_asked}
use Rattle.ff_core.specs.EventTally.{served_by}
use Rattle.ff_model.specs.Legal.{refusal}
use Rattle.ff_model.specs.Spans.{is_in_range}
use Rattle.ff_core.specs.Turns.{IsAttempt, IsMissStep, IsTurn, IsTurnBy, answered}
use Rattle.ff_core.specs.declared.turn.Turn.{Turn}
use Rattle.ff_core.specs.declared.turn.Turn.TheVariants.{Served}
use Rattle.ff_core.proofs.AskedPages.{named-page, refusal-none}

-- the page that a call names has a counter
pub served-page : {T E : Type 0} (core : CoreView T E) (op : Op) (position : ℕ) (access : Access) (h : HierarchyView T E)
    → IsCoreSound core → refusal core.opening.pages core.events op ≡ None
    → IsAccess op position core.hierarchy access h → page_asked op < length h.policy.counters
served-page core op position access h sound none is =
    let pages = sound.sized.pages in
    let counters : length core.hierarchy.policy.counters ≡ core.geometry.pages = sound.sized.counters in
    let same : length h.policy.counters ≡ length core.hierarchy.policy.counters =
    ap (λ (v : HierarchyView _ _). length v.policy.counters) is.rest in
    let low = named-page core op sound none in
    omega arith

-- the call is in range
pub asked-range : {T E : Type 0} (core : CoreView T E) (op : Op) → IsCoreSound core
    → refusal core.opening.pages core.events op ≡ None → IsTrue (is_in_range (length core.hierarchy.memory.table.homes) op)
asked-range core op sound none =
    let asked = refusal-none core.opening.pages core.events op sound.timed.not_past none in
    ap (λ (pages : ℕ). is_in_range pages op) sound.told.pages ∙ asked.range

-- the history tells of each access that a side served
pub few-served : {T E : Type 0} (core : CoreView T E) → IsCoreSound core → 0 < spare_calls core
    → core.tally.device + core.tally.host < 2 ^ 63
few-served core sound spare =
    let served = sound.counted.served in
    let few = sound.sized.few_calls in
    omega (arith, count_by-le-length is_served_access core.history.entries)

pub few-accesses : {T E : Type 0} (core : CoreView T E) (op : Op) (position : ℕ) (access : Access) (h : HierarchyView T E)
    → IsCoreSound core → 0 < spare_calls core → IsAccess op position core.hierarchy access h → h.policy.accesses < 2 ^ 63
few-accesses core op position access h sound spare is =
    let few = few-served core sound spare in
    let counted = sound.counted.accesses in
    let same : h.policy.accesses ≡ core.hierarchy.policy.accesses = ap (λ (v : HierarchyView _ _). v.policy.accesses) is.rest in
    omega arith

pub few-hits : {T E : Type 0} (core : CoreView T E) (op : Op) (position : ℕ) (access : Access) (h : HierarchyView T E)
    → IsCoreSound core → 0 < spare_calls core → IsAccess op position core.hierarchy access h → h.policy.hits < 2 ^ 63
few-hits core op position access h sound spare is =
    let few = few-served core sound spare in
    let counted = sound.counted.hits in
    let same : h.policy.hits ≡ core.hierarchy.policy.hits = ap (λ (v : HierarchyView _ _). v.policy.hits) is.rest in
    omega arith

-- a call was served
pub attempt-served : {T E : Type 0} (answers : T → ℕ → ℕ → ℕ → ℕ → Type 0) (old new : CoreView T E) (between : HierarchyView T E)
    (caller : Caller) (number : ℕ) (op : Op) (position : ℕ) (reply : Reply) (side : Side) (turn : Turn)
    → position ≡ length old.history.entries → IsAccess op position old.hierarchy (AccessServed reply side) between → turn ≡ Served reply
    → PolicyAfter side (page_asked op) answers between.policy new.hierarchy.policy
    → new ≡ record (answered (record old { hierarchy = between }) caller number op reply) {
      tally = served_by side old.tally;
      hierarchy = record between { policy = new.hierarchy.policy };
    }
    → IsAttempt answers old caller number op turn new
attempt-served answers old new between caller number op position reply side turn at is says policy core =
    let same : between.policy ≡ old.hierarchy.policy = ap (λ (v : HierarchyView _ _). v.policy) is.rest in
    let faults : (flash_under between).faults ≡ (flash_under old.hierarchy).faults = ap (λ s. s.world.flash.faults) is.store in
    IsAttempt.serves reply says record {
      side = side;
      between = between;
      access = subst (λ n. IsAccess op n old.hierarchy (AccessServed reply side) between) at is;
      policy = subst (λ (p : PolicyView _). PolicyAfter side (page_asked op) answers p new.hierarchy.policy) same policy;
      core = core ∙ ap (λ (n : ℕ). record old {
        history = with_entry (entry_now old caller number op reply n) old.history;
        events = next_number old.events;
        tally = served_by side old.tally;
        hierarchy = record between { policy = new.hierarchy.policy };
      }) faults;
    }

-- a call missed a page, and a step was made for it
pub attempt-missed : {T E : Type 0} (answers : T → ℕ → ℕ → ℕ → ℕ → Type 0) (old new : CoreView T E) (between : HierarchyView T E)
    (caller : Caller) (number : ℕ) (op : Op) (position : ℕ) (page : PageNo) (turn : Turn)
    → position ≡ length old.history.entries → IsAccess op position old.hierarchy (Miss page) between
    → IsMissStep page (record old { hierarchy = between }) caller number op turn new
    → IsAttempt answers old caller number op turn new
attempt-missed answers old new between caller number op position page turn at is step =
    IsAttempt.misses record {
      page = page;
      between = between;
      access = subst (λ n. IsAccess op n old.hierarchy (Miss page) between) at is;
      step = step;
    }

-- with the power on, a call that isn't refused at once has its event
pub attempt-turn : {T E : Type 0} (answers : T → ℕ → ℕ → ℕ → ℕ → Type 0) (old new : CoreView T E) (caller : Caller) (number : ℕ)
    (op : Op) (turn : Turn) → true ≡ (flash_under old.hierarchy).on → None ≡ refusal old.opening.pages old.events op
    → IsAttempt answers old caller number op turn new
    → IsTurn (flash_under old.hierarchy).on answers old caller number op turn new
attempt-turn answers old new caller number op turn on allowed attempt =
    subst (λ (b : Bool). IsTurn b answers old caller number op turn new) on
    (subst (λ (r : Option Reply). IsTurnBy r answers old caller number op turn new) allowed attempt)
