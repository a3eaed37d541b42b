-- How the tally, the policy and the log count an action.
use Rattle.std.proofs.Common.{◌≡◌, ◌≤◌, ◌+◌, ◌==◌, ℕ, Bool, true, false, cond, Option, Some, None, refl, sym, ap, ◌∙◌, arith}
use Rattle.ff_base.specs.declared.numbers.PageNo.{PageNo}
use Rattle.ff_memory.specs.Advances.{Advances, AdvancesBy, FinishesOrLifts, LandsBy}
use Rattle.ff_memory.specs.Memory.{MemoryView}
use Rattle.ff_memory.specs.declared.access.Side.{Side}
use Rattle.ff_memory.specs.declared.access.Side.TheVariants.{Device, Host, Neither}
use Rattle.ff_memory.specs.declared.access.What.{What}
use Rattle.ff_memory.specs.declared.access.What.TheVariants.{Finished, Landed, Dropped, Lifted, Started, Worked, Drained, Sealed, Collected}
use Rattle.ff_lines.specs.DeviceState.{DeviceState}
use Rattle.ff_lines.specs.LineMask.{has_line}
use Rattle.ff_model.specs.declared.counts.Kind.{Kind}
use Rattle.ff_model.specs.declared.counts.Kind.TheVariants.{Promote as PromoteKind, Evict as EvictKind, Collect as CollectKind, Drain as DrainKind}
use Rattle.ff_plb.specs.Plb.{slot_at}
use Rattle.ff_plb.specs.declared.slot.Flight.{Flight}
use Rattle.ff_plb.specs.declared.slot.Slot.{Slot}
use Rattle.ff_plb.specs.declared.slot.Way.{Way}
use Rattle.ff_plb.specs.declared.slot.Way.TheVariants.{Coming, Leaving}
use Rattle.ff_policy.specs.Policy.{PolicyView, StepsWhere, counted, step_accesses}
use Rattle.ff_core.specs.Backs.{back_of}
use Rattle.ff_core.specs.Choices.{IsChoice}
use Rattle.ff_core.specs.CoreSound.{is_promotion_by, is_start}
use Rattle.ff_core.specs.Hierarchy.{HierarchyView, lines_under}
use Rattle.ff_core.specs.Performs.{HasPromoted, IsAdvanced, IsWorkedFor, Performs, steps, yields}
use Rattle.ff_core.specs.Serving.{PolicyAfter}
use Rattle.ff_core.specs.EventTally.{did_what, served_by, started_by, tally_after}
use Rattle.ff_core.specs.declared.action.Action.{Action}
use Rattle.ff_core.specs.declared.action.Action.TheVariants.{Advance, TurnBack, Work, Promote, Retreat, Evict, Collect, Drain}
use Rattle.ff_core.specs.declared.action.Progress.{Progress}
use Rattle.ff_core.specs.declared.action.Progress.TheVariants.{Did, Failed, Off}
use Rattle.ff_core.specs.declared.tally.EventTally.{EventTally}

-- how many moves of pages were counted
abbrev pub moves_of : EventTally → ℕ
moves_of tally = tally.landed + tally.dropped + tally.promoted + tally.retreated

-- at most one more move was counted, and no call
pub record CountsMove (old new : EventTally) : Type 0 where
  pub device : new.device ≡ old.device
  pub host : new.host ≡ old.host
  pub moves : moves_of new ≤ moves_of old + 1

one-move : (old new : EventTally) → new.device ≡ old.device → new.host ≡ old.host → moves_of new ≤ moves_of old + 1 → CountsMove old new
one-move old new device host moves = record { device = device; host = host; moves = moves }

started-moves : (action : Action) (tally : EventTally) → CountsMove tally (started_by action tally)
started-moves (Promote page) tally = one-move tally (started_by (Promote page) tally) refl refl (omega arith)
started-moves (Advance slot) tally = one-move tally (started_by (Advance slot) tally) refl refl (omega arith)
started-moves (TurnBack slot) tally = one-move tally (started_by (TurnBack slot) tally) refl refl (omega arith)
started-moves (Work page) tally = one-move tally (started_by (Work page) tally) refl refl (omega arith)
started-moves (Retreat page) tally = one-move tally (started_by (Retreat page) tally) refl refl (omega arith)
started-moves (Evict frame) tally = one-move tally (started_by (Evict frame) tally) refl refl (omega arith)
started-moves Collect tally = one-move tally (started_by Collect tally) refl refl (omega arith)
started-moves Drain tally = one-move tally (started_by Drain tally) refl refl (omega arith)

did-moves : (what : What) (action : Action) (tally : EventTally) → CountsMove tally (did_what action what tally)
did-moves Landed action tally = one-move tally (did_what action Landed tally) refl refl (omega arith)
did-moves Dropped action tally = one-move tally (did_what action Dropped tally) refl refl (omega arith)
did-moves Started action tally = started-moves action tally
did-moves Finished action tally = one-move tally tally refl refl (omega arith)
did-moves Lifted action tally = one-move tally tally refl refl (omega arith)
did-moves Worked action tally = one-move tally tally refl refl (omega arith)
did-moves Drained action tally = one-move tally tally refl refl (omega arith)
did-moves Sealed action tally = one-move tally tally refl refl (omega arith)
did-moves Collected action tally = one-move tally tally refl refl (omega arith)

pub after-moves : (progress : Progress) (action : Action) (tally : EventTally) → CountsMove tally (tally_after action progress tally)
after-moves (Did what) action tally = did-moves what action tally
after-moves Failed action tally = one-move tally tally refl refl (omega arith)
after-moves Off action tally = one-move tally tally refl refl (omega arith)

-- an action that is no promotion leaves the count of promotions
did-promoted : (what : What) (action : Action) (tally : EventTally) → (started_by action tally).promoted ≡ tally.promoted
    → (did_what action what tally).promoted ≡ tally.promoted
did-promoted Landed action tally other = refl
did-promoted Dropped action tally other = refl
did-promoted Started action tally other = other
did-promoted Finished action tally other = refl
did-promoted Lifted action tally other = refl
did-promoted Worked action tally other = refl
did-promoted Drained action tally other = refl
did-promoted Sealed action tally other = refl
did-promoted Collected action tally other = refl

pub after-promoted : (progress : Progress) (action : Action) (tally : EventTally) → (started_by action tally).promoted ≡ tally.promoted
    → (tally_after action progress tally).promoted ≡ tally.promoted
after-promoted (Did what) action tally other = did-promoted what action tally other
after-promoted Failed action tally other = refl
after-promoted Off action tally other = refl

-- the policy counted the promotions and the accesses that the tally counts
pub record CountsAlike {T : Type 0} (policy : PolicyView T) (tally : EventTally) : Type 0 where
  pub promotions : policy.promotions ≡ tally.promoted
  pub accesses : policy.accesses ≡ tally.device
  pub hits : policy.hits ≤ tally.host

-- the policy is as before, and so is the count of promotions
other-alike : {T E : Type 0} (progress : Progress) (action : Action) (tally : EventTally) (h h' : HierarchyView T E)
    → h'.policy ≡ h.policy → (started_by action tally).promoted ≡ tally.promoted → CountsAlike h.policy tally
    → CountsAlike h'.policy (tally_after action progress tally)
other-alike progress action tally h h' same other alike =
    let moves = after-moves progress action tally in
    let hits = alike.hits in
    rw same record {
      promotions = alike.promotions ∙ sym (after-promoted progress action tally other);
      accesses = alike.accesses ∙ sym moves.device;
      hits = let host = moves.host in omega arith;
    }

worked-policy : {T E : Type 0} (page : ℕ) (h : HierarchyView T E) (progress : Progress) (h' : HierarchyView T E)
    → IsWorkedFor page h progress h' → h'.policy ≡ h.policy
worked-policy {T} {E} page h progress h' (steps work came step unpinned) = ap (λ (x : HierarchyView T E). x.policy) step.rest
worked-policy {T} {E} page h progress h' (yields other slot pinned found is) = ap (λ (x : HierarchyView T E). x.policy) is.rest

promoted-alike : {T E : Type 0} (page : PageNo) (tally : EventTally) (h : HierarchyView T E) (progress : Progress) (h' : HierarchyView T E)
    → HasPromoted page.0 h progress h' → CountsAlike h.policy tally
    → CountsAlike h'.policy (tally_after (Promote page) progress tally)
promoted-alike {T} {E} page tally h progress h' is alike =
    let same = ap (λ (x : HierarchyView T E). x.policy) is.rest in
    let paid = alike.promotions in
    rw (same, is.did) record { promotions = omega arith; accesses = alike.accesses; hits = alike.hits }

pub performs-alike : {T E : Type 0} (action : Action) (tally : EventTally) (h : HierarchyView T E) (progress : Progress)
    (h' : HierarchyView T E) → Performs action h progress h' → CountsAlike h.policy tally
    → CountsAlike h'.policy (tally_after action progress tally)
performs-alike {T} {E} (Advance slot) tally h progress h' is alike =
    other-alike progress (Advance slot) tally h h' (ap (λ (x : HierarchyView T E). x.policy) is.rest) refl alike
performs-alike {T} {E} (TurnBack slot) tally h progress h' is alike =
    other-alike progress (TurnBack slot) tally h h' (ap (λ (x : HierarchyView T E). x.policy) is.rest) refl alike
performs-alike (Work page) tally h progress h' is alike =
    other-alike progress (Work page) tally h h' (worked-policy page.0 h progress h' is) refl alike
performs-alike (Promote page) tally h progress h' is alike = promoted-alike page tally h progress h' is alike
performs-alike {T} {E} (Retreat page) tally h progress h' is alike =
    other-alike progress (Retreat page) tally h h' (ap (λ (x : HierarchyView T E). x.policy) is.rest) refl alike
performs-alike {T} {E} (Evict frame) tally h progress h' is alike =
    other-alike progress (Evict frame) tally h h' (ap (λ (x : HierarchyView T E). x.policy) is.rest) refl alike
performs-alike {T} {E} Collect tally h progress h' is alike =
    other-alike progress Collect tally h h' (ap (λ (x : HierarchyView T E). x.policy) is.rest) refl alike
performs-alike {T} {E} Drain tally h progress h' is alike =
    other-alike progress Drain tally h h' (ap (λ (x : HierarchyView T E). x.policy) is.rest) refl alike

stepped-alike : {T : Type 0} (due : Bool) (answers : T → ℕ → ℕ → ℕ → ℕ → Type 0) (old new : PolicyView T) (tally : EventTally)
    → StepsWhere due answers old new → CountsAlike old tally → CountsAlike new tally
stepped-alike {T} true answers old new tally is alike =
    rw is.policy record { promotions = alike.promotions; accesses = alike.accesses; hits = omega arith }
stepped-alike false answers old new tally is alike = rw is alike

-- an access was counted by the policy and by the tally
pub served-alike : {T : Type 0} (side : Side) (page : ℕ) (answers : T → ℕ → ℕ → ℕ → ℕ → Type 0) (old new : PolicyView T)
    (tally : EventTally) → PolicyAfter side page answers old new → CountsAlike old tally → CountsAlike new (served_by side tally)
served-alike Device page answers old new tally is alike =
    let accesses = alike.accesses in
    stepped-alike ((counted page old).recent == step_accesses) answers (counted page old) new (served_by Device tally) is
    (record { promotions = alike.promotions; accesses = omega arith; hits = alike.hits })
served-alike Host page answers old new tally is alike =
    let hits = alike.hits in
    rw is record { promotions = alike.promotions; accesses = alike.accesses; hits = omega arith }
served-alike Neither page answers old new tally is alike = rw is alike

-- a page in flight that makes its step doesn't begin to move
lands-no_start : (way : Way) (copied : Bool) (slot : ℕ) (s : Slot) (flight : Flight) (m : MemoryView) (d : DeviceState) (what : What)
    (m' : MemoryView) (d' : DeviceState) → LandsBy way copied slot s flight m d what m' d' → is_start what ≡ false
lands-no_start Coming true slot s flight m d what m' d' is = ap is_start is.0
lands-no_start Coming false slot s flight m d what m' d' is = ap is_start is.0
lands-no_start Leaving copied slot s flight m d what m' d' is = ap is_start is.0

finishes_or_lifts-no_start : (what : What) (slot : ℕ) (s : Slot) (m : MemoryView) (d : DeviceState) (m' : MemoryView)
    (d' : DeviceState) → FinishesOrLifts what slot s m d m' d' → is_start what ≡ false
finishes_or_lifts-no_start Finished slot s m d m' d' is = refl
finishes_or_lifts-no_start Lifted slot s m d m' d' is = refl
finishes_or_lifts-no_start Landed slot s m d m' d' is = refl
finishes_or_lifts-no_start Dropped slot s m d m' d' is = refl
finishes_or_lifts-no_start Started slot s m d m' d' is = absurd is
finishes_or_lifts-no_start Worked slot s m d m' d' is = refl
finishes_or_lifts-no_start Drained slot s m d m' d' is = refl
finishes_or_lifts-no_start Sealed slot s m d m' d' is = refl
finishes_or_lifts-no_start Collected slot s m d m' d' is = refl

steps-no_start : (flight : Option Flight) (slot : ℕ) (s : Slot) (m : MemoryView) (d : DeviceState) (what : What) (m' : MemoryView)
    (d' : DeviceState) → AdvancesBy flight slot s m d what m' d' → is_start what ≡ false
steps-no_start None slot s m d what m' d' is = finishes_or_lifts-no_start what slot s m d m' d' is
steps-no_start (Some flight) slot s m d what m' d' is =
    lands-no_start s.way (has_line s.bits flight.line) slot s flight m d what m' d' is

advances-no_start : (slot : ℕ) (at : Option Slot) (m : MemoryView) (d : DeviceState) (what : What) (m' : MemoryView)
    (d' : DeviceState) → Advances slot at m d what m' d' → is_start what ≡ false
advances-no_start slot None m d what m' d' is = absurd is
advances-no_start slot (Some s) m d what m' d' is = steps-no_start s.flight slot s m d what m' d' is

-- the tally has one more promotion where the log has
abbrev pub CountsTurn : Kind → Action → Progress → EventTally → Type 0
CountsTurn kind action progress tally =
    (tally_after action progress tally).promoted
    ≡ tally.promoted + cond {A = ℕ} (is_promotion_by kind (back_of action progress)) 1 0

advanced-turn : {T E : Type 0} (slot : ℕ) (tally : EventTally) (h : HierarchyView T E) (progress : Progress) (h' : HierarchyView T E)
    → IsAdvanced slot h progress h' → CountsTurn PromoteKind (Advance slot) progress tally
advanced-turn slot tally h progress h' is =
    let none = advances-no_start slot (slot_at h.memory.slots slot) h.memory (lines_under h) is.what h'.memory (lines_under h') is.step in
    let same = after-promoted (Did is.what) (Advance slot) tally refl in
    rw (is.did, none) (omega arith)

promoted-turn : {T E : Type 0} (page : PageNo) (tally : EventTally) (h : HierarchyView T E) (progress : Progress) (h' : HierarchyView T E)
    → HasPromoted page.0 h progress h' → CountsTurn PromoteKind (Promote page) progress tally
promoted-turn page tally h progress h' is = rw is.did refl

-- a turn of another kind, and an action that is no promotion
other-turn : (kind : Kind) (action : Action) (progress : Progress) (tally : EventTally)
    → is_promotion_by kind (back_of action progress) ≡ false → (started_by action tally).promoted ≡ tally.promoted
    → CountsTurn kind action progress tally
other-turn kind action progress tally none other =
    let same = after-promoted progress action tally other in
    rw none (omega arith)

promote-turn : {T E : Type 0} (action : Action) (tally : EventTally) (h : HierarchyView T E) (progress : Progress) (h' : HierarchyView T E)
    (score : E → Bool → ℕ → ℕ) → IsChoice score PromoteKind h (Some action) → Performs action h progress h'
    → CountsTurn PromoteKind action progress tally
promote-turn (Advance slot) tally h progress h' score choice is = advanced-turn slot tally h progress h' is
promote-turn (Promote page) tally h progress h' score choice is = promoted-turn page tally h progress h' is
promote-turn (TurnBack slot) tally h progress h' score choice is = absurd choice
promote-turn (Work page) tally h progress h' score choice is = absurd choice
promote-turn (Retreat page) tally h progress h' score choice is = absurd choice
promote-turn (Evict frame) tally h progress h' score choice is = absurd choice
promote-turn Collect tally h progress h' score choice is = absurd choice
promote-turn Drain tally h progress h' score choice is = absurd choice

evict-turn : {T E : Type 0} (action : Action) (tally : EventTally) (h : HierarchyView T E) (progress : Progress)
    (score : E → Bool → ℕ → ℕ) → IsChoice score EvictKind h (Some action) → CountsTurn EvictKind action progress tally
evict-turn (Advance slot) tally h progress score choice = other-turn EvictKind (Advance slot) progress tally refl refl
evict-turn (Evict frame) tally h progress score choice = other-turn EvictKind (Evict frame) progress tally refl refl
evict-turn (Work page) tally h progress score choice = other-turn EvictKind (Work page) progress tally refl refl
evict-turn (Promote page) tally h progress score choice = absurd choice
evict-turn (TurnBack slot) tally h progress score choice = absurd choice
evict-turn (Retreat page) tally h progress score choice = absurd choice
evict-turn Collect tally h progress score choice = absurd choice
evict-turn Drain tally h progress score choice = absurd choice

collect-turn : {T E : Type 0} (action : Action) (tally : EventTally) (h : HierarchyView T E) (progress : Progress)
    (score : E → Bool → ℕ → ℕ) → IsChoice score CollectKind h (Some action) → CountsTurn CollectKind action progress tally
collect-turn Collect tally h progress score choice = other-turn CollectKind Collect progress tally refl refl
collect-turn (Advance slot) tally h progress score choice = absurd choice
collect-turn (Evict frame) tally h progress score choice = absurd choice
collect-turn (Work page) tally h progress score choice = absurd choice
collect-turn (Promote page) tally h progress score choice = absurd choice
collect-turn (TurnBack slot) tally h progress score choice = absurd choice
collect-turn (Retreat page) tally h progress score choice = absurd choice
collect-turn Drain tally h progress score choice = absurd choice

drain-turn : {T E : Type 0} (action : Action) (tally : EventTally) (h : HierarchyView T E) (progress : Progress)
    (score : E → Bool → ℕ → ℕ) → IsChoice score DrainKind h (Some action) → CountsTurn DrainKind action progress tally
drain-turn Drain tally h progress score choice = other-turn DrainKind Drain progress tally refl refl
drain-turn (Advance slot) tally h progress score choice = absurd choice
drain-turn (Evict frame) tally h progress score choice = absurd choice
drain-turn (Work page) tally h progress score choice = absurd choice
drain-turn (Promote page) tally h progress score choice = absurd choice
drain-turn (TurnBack slot) tally h progress score choice = absurd choice
drain-turn (Retreat page) tally h progress score choice = absurd choice
drain-turn Collect tally h progress score choice = absurd choice

pub chosen-turn : {T E : Type 0} (kind : Kind) (action : Action) (tally : EventTally) (h : HierarchyView T E) (progress : Progress)
    (h' : HierarchyView T E) (score : E → Bool → ℕ → ℕ) → IsChoice score kind h (Some action) → Performs action h progress h'
    → CountsTurn kind action progress tally
chosen-turn PromoteKind action tally h progress h' score choice is = promote-turn action tally h progress h' score choice is
chosen-turn EvictKind action tally h progress h' score choice is = evict-turn action tally h progress score choice
chosen-turn CollectKind action tally h progress h' score choice is = collect-turn action tally h progress score choice
chosen-turn DrainKind action tally h progress h' score choice is = drain-turn action tally h progress score choice
