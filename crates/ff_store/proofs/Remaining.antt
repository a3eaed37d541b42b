-- Every collection step of a flush leaves fewer of them.
use Rattle.std.proofs.Common.{◌≡◌, ◌≢◌, ◌<◌, ◌≤◌, ◌+◌, ◌*◌, ℕ, Bool, true, false, eqb, List, inl, inr, refl, ap, ◌∙◌, arith}
use Rattle.std.specs.Prelude.{◌⊎◌, Ok, not, if◌then◌else◌}
use Rattle.std.proofs.lemmas.Bool.{both_ways, cases_Bool, cases_lt, eq-eqb, eqb-true, ne_eqb}
use Rattle.ff_space.specs.Blocks.{erased_block, waiting}
use Rattle.ff_space.specs.BlockTable.{IsBlockTableSound, BlockTableView, block_at}
use Rattle.ff_space.specs.Choices.{IsNoPlace}
use Rattle.ff_space.specs.declared.block.BlockEntry.{BlockEntry}
use Rattle.ff_space.specs.declared.block.BlockState.{BlockState}
use Rattle.ff_space.specs.declared.block.BlockState.TheVariants.{Erased, Full, Held, Open, Waiting}
use Rattle.ff_map.specs.declared.places.Move.{Move}
use Rattle.ff_gc.proofs.Falling.{steps_end, steps_fall}
use Rattle.ff_gc.specs.Collector.{is_busy}
use Rattle.ff_gc.specs.Left.{IsEndingAt, is_open, left_from, left_in, open_count}
use Rattle.ff_gc.specs.Steps.{IsStep}
use Rattle.ff_gc.specs.World.{IsCollectorReady, World}
use Rattle.ff_gc.specs.declared.collector.GcStep.{GcStep}
use Rattle.ff_gc.specs.declared.collector.GcStep.TheVariants.{Idle as IdleStep}
use Rattle.ff_gc.specs.declared.phase.Phase.{Phase}
use Rattle.ff_gc.specs.declared.phase.Phase.TheVariants.{Idle, Programming, Reading, Sealing, Commit, Erasing, Aborting}
use Rattle.ff_store.proofs.Targets.{found_of}
use Rattle.ff_store.specs.Left.{is_ending, left_of}

some_not : (n : ℕ) → 0 < n → not (eqb n 0) ≡ true
some_not n some = rw (ne_eqb n 0 (λ same. absurd (omega arith))) refl

not_some : (n : ℕ) → not (eqb n 0) ≡ true → 0 < n
not_some n is = elim (cases_lt 0 n) [
  | inl some ↦ some
  | inr none ↦ (let zero_is : eqb n 0 ≡ true = eq-eqb n 0 (omega arith) in let e : false ≡ true = rw zero_is at is in absurd (cc))
]

ending_true : (moves : List Move) (table : BlockTableView) (phase : Phase) → IsEndingAt moves table phase
    → is_ending moves table phase ≡ true
ending_true moves table Idle ends = some_not _ ends
ending_true moves table (Reading job) ends = eq-eqb _ _ ends
ending_true moves table (Programming job original) ends = eq-eqb _ _ ends
ending_true moves table (Sealing job original at) ends = eq-eqb _ _ ends
ending_true moves table (Commit job) ends = eq-eqb _ _ ends
ending_true moves table (Erasing block) ends = some_not _ ends
ending_true moves table (Aborting block) ends = some_not _ ends

true_ending : (moves : List Move) (table : BlockTableView) (phase : Phase) → is_ending moves table phase ≡ true
    → IsEndingAt moves table phase
true_ending moves table Idle is = not_some _ is
true_ending moves table (Reading job) is = eqb-true _ _ is
true_ending moves table (Programming job original) is = eqb-true _ _ is
true_ending moves table (Sealing job original at) is = eqb-true _ _ is
true_ending moves table (Commit job) is = eqb-true _ _ is
true_ending moves table (Erasing block) is = not_some _ is
true_ending moves table (Aborting block) is = not_some _ is

from_busy : (per : ℕ) (phase : Phase) → is_busy phase ≡ true → left_from per phase ≡ left_in per phase
from_busy per Idle busy = absurd (cc)
from_busy per (Reading job) busy = refl
from_busy per (Programming job original) busy = refl
from_busy per (Sealing job original at) busy = refl
from_busy per (Commit job) busy = refl
from_busy per (Erasing block) busy = refl
from_busy per (Aborting block) busy = refl

pub idle_of : (phase : Phase) → is_busy phase ≡ false → phase ≡ Idle
idle_of Idle idle = refl
idle_of (Reading job) idle = absurd (cc)
idle_of (Programming job original) idle = absurd (cc)
idle_of (Sealing job original at) idle = absurd (cc)
idle_of (Commit job) idle = absurd (cc)
idle_of (Erasing block) idle = absurd (cc)
idle_of (Aborting block) idle = absurd (cc)

-- the number by whether the collection ends with a page to program
left_ending : (w : World) → is_ending w.gc.moves w.table w.gc.phase ≡ true → left_of w ≡ left_in w.gc.per_block w.gc.phase
left_ending w is =
    let none : ◌≡◌ {A = ℕ} (if is_ending w.gc.moves w.table w.gc.phase then 0 else 3 * w.gc.per_block + 3) 0 = rw is refl in
    omega arith

left_other : (w : World) → is_ending w.gc.moves w.table w.gc.phase ≡ false
    → left_of w ≡ left_in w.gc.per_block w.gc.phase + (3 * w.gc.per_block + 3)
left_other w is =
    let more : ◌≡◌ {A = ℕ} (if is_ending w.gc.moves w.table w.gc.phase then 0 else 3 * w.gc.per_block + 3) (3 * w.gc.per_block + 3) =
    rw is refl in
    omega arith

left_bound : (w : World) → left_of w ≤ left_in w.gc.per_block w.gc.phase + (3 * w.gc.per_block + 3)
left_bound w = elim (cases_Bool (is_ending w.gc.moves w.table w.gc.phase)) [
  | inl hit ↦ (let same = left_ending w hit in omega arith)
  | inr miss ↦ (let same = left_other w miss in omega arith)
]

left_in_most : (per : ℕ) (phase : Phase) → left_in per phase ≤ 3 * per + 2
left_in_most per Idle = omega arith
left_in_most per (Reading job) = omega arith
left_in_most per (Programming job original) = omega arith
left_in_most per (Sealing job original at) = omega arith
left_in_most per (Commit job) = omega arith
left_in_most per (Erasing block) = omega arith
left_in_most per (Aborting block) = omega arith

-- a flush makes so many collection steps at most where none fails
pub left_most : (w : World) → left_of w ≤ 6 * w.gc.per_block + 5
left_most w =
    let bound = left_bound w in let most = left_in_most w.gc.per_block w.gc.phase in omega arith

open_of : (state : BlockState) → is_open state ≡ true → state ≡ Open
open_of Erased is = absurd (cc)
open_of Open is = refl
open_of Full is = absurd (cc)
open_of Held is = absurd (cc)
open_of Waiting is = absurd (cc)

-- no block is open
none_open : (table : BlockTableView) → IsNoPlace table → open_count table.blocks ≡ 0
none_open table nowhere = elim (cases_lt 0 (open_count table.blocks)) [
  | inl some ↦
      let p : BlockEntry → Bool = λ (e : BlockEntry). is_open e.state in
      let found = found_of p table.blocks (waiting erased_block) some in
      absurd (nowhere.none_open found.index (record {
        in_range = found.within;
        state = open_of (block_at table found.index).state found.passes;
      }))
  | inr none ↦ omega arith
]

idle_ends_not : (table : BlockTableView) (moves : List Move) → IsNoPlace table → is_ending moves table Idle ≡ false
idle_ends_not table moves nowhere = elim (cases_Bool (is_ending moves table Idle)) [
  | inl hit ↦
      let some = true_ending moves table Idle hit in
      let none = none_open table nowhere in
      let few = nowhere.few in
      absurd (omega arith)
  | inr miss ↦ miss
]

busy_falls : (old new : World) (step : GcStep) → IsBlockTableSound old.table → IsCollectorReady old → is_busy old.gc.phase ≡ true
    → step ≢ IdleStep → IsStep old (Ok step) new → new.gc.per_block ≡ old.gc.per_block → left_of new < left_of old
busy_falls old new step sound ready busy other r per =
    let fall = steps_fall old new step ready other r in
    let from = from_busy old.gc.per_block old.gc.phase busy in
    let same : left_in new.gc.per_block new.gc.phase ≡ left_in old.gc.per_block new.gc.phase =
    ap (λ n. left_in n new.gc.phase) per in
    let bound = left_bound new in
    elim (cases_Bool (is_ending old.gc.moves old.table old.gc.phase)) [
      | inl hit ↦
          let ends = steps_end old new step sound ready other r (inr (true_ending old.gc.moves old.table old.gc.phase hit)) in
          let now = left_ending new (ending_true new.gc.moves new.table new.gc.phase ends) in
          let before = left_ending old hit in
          omega arith
      | inr miss ↦ (let before = left_other old miss in omega arith)
    ]

idle_falls : (old new : World) (step : GcStep) → IsBlockTableSound old.table → IsCollectorReady old → old.gc.phase ≡ Idle
    → IsNoPlace old.table → step ≢ IdleStep → IsStep old (Ok step) new → new.gc.per_block ≡ old.gc.per_block
    → left_of new < left_of old
idle_falls old new step sound ready idle nowhere other r per =
    let fall = steps_fall old new step ready other r in
    let from : left_from old.gc.per_block old.gc.phase ≡ 3 * old.gc.per_block + 3 =
    ap (λ q. left_from old.gc.per_block q) idle in
    let same : left_in new.gc.per_block new.gc.phase ≡ left_in old.gc.per_block new.gc.phase =
    ap (λ n. left_in n new.gc.phase) per in
    let ends = steps_end old new step sound ready other r (inl idle) in
    let now = left_ending new (ending_true new.gc.moves new.table new.gc.phase ends) in
    let miss : is_ending old.gc.moves old.table old.gc.phase ≡ false =
    ap (λ q. is_ending old.gc.moves old.table q) idle ∙ idle_ends_not old.table old.gc.moves nowhere in
    let before = left_other old miss in
    omega arith

-- a collection step of a flush that worked leaves fewer of them
pub left_falls : (old new : World) (step : GcStep) → IsBlockTableSound old.table → IsCollectorReady old
    → (is_busy old.gc.phase ≡ true) ⊎ IsNoPlace old.table → step ≢ IdleStep → IsStep old (Ok step) new
    → new.gc.per_block ≡ old.gc.per_block → left_of new < left_of old
left_falls old new step sound ready why other r per = elim (cases_Bool (is_busy old.gc.phase)) [
  | inl busy ↦ busy_falls old new step sound ready busy other r per
  | inr not_busy ↦ elim why [
    | inl busy ↦ absurd (both_ways (is_busy old.gc.phase) not_busy busy)
    | inr nowhere ↦ idle_falls old new step sound ready (idle_of old.gc.phase not_busy) nowhere other r per
  ]
]
