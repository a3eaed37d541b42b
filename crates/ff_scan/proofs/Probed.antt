-- Probes one after another, and which of them the plan stops first.
use Rattle.std.proofs.Common.{◌≡◌, ◌<◌, ◌≤◌, ◌+◌, ◌-◌, ℕ, zero, suc, List, [], ◌∷◌, ◌++◌, length, take, Option, None, Some, refl, sym, ap, subst, ◌∙◌, arith}
use Rattle.std.specs.Prelude.{IfSome}
use Rattle.std.specs.Option.{option_or}
use Rattle.std.proofs.Math.Seq.{take-length}
use Rattle.std.proofs.lemmas.List.{length-map, length-take-le, map_more}
use Rattle.ff_flash.specs.Cells.{Cell, cell_at, cell_probe, erased}
use Rattle.ff_flash.specs.FlashState.{FlashState}
use Rattle.ff_flash.specs.Plans.{Planned, due_stop}
use Rattle.ff_flash.specs.declared.flash.FlashStop.{FlashStop}
use Rattle.ff_flash.specs.declared.flash.Probe.{Probe}
use Rattle.ff_scan.specs.Probes.{probes_of}
use Rattle.ff_scan.specs.Probing.{IsProbed, IsProbeStopped, first_stop}

abbrev counted : FlashState → ℕ → FlashState
counted old count = record old { operations = old.operations + count }

stopped_later : (old new : FlashState) (count : ℕ) (stop : FlashStop) → IsProbeStopped (counted old count) stop new
    → IsProbeStopped old stop new
stopped_later old new count stop is = record {
  same = record {
    blocks = is.same.blocks;
    per_block = is.same.per_block;
    plan = is.same.plan;
    making = is.same.making;
  };
  cells = is.cells;
  rise = (let rise = is.rise in omega arith);
  no_fall = is.no_fall;
  failed = is.failed;
  off = is.off;
  cut = is.cut;
}

probed_step : (old new : FlashState) (count : ℕ) (stop : Option FlashStop) → IsProbed (counted old count) 1 stop new
    → IsProbed old (count + 1) stop new
probed_step old new count None is =
    is ∙ ap (λ (n : ℕ). record old { operations = n }) (let e : old.operations + count + 1 ≡ old.operations + (count + 1) = omega arith in e)
probed_step old new count (Some stop) is = stopped_later old new count stop is

-- one probe more
pub probed_more : (old now new : FlashState) (count : ℕ) (stop : Option FlashStop) → IsProbed old count None now
    → IsProbed now 1 stop new → IsProbed old (count + 1) stop new
probed_more old now new count stop went is =
    probed_step old new count stop (subst (λ (f : FlashState). IsProbed f 1 stop new) went is)

-- a stop comes first in the first part, or else in the second
pub first_stop-add : (plan : Planned) (made n m : ℕ)
    → first_stop plan made (n + m) ≡ option_or (first_stop plan made n) (first_stop plan (made + n) m)
first_stop-add plan made zero m =
    ap (λ (k : ℕ). first_stop plan made k) (let e : 0 + m ≡ m = omega arith in e)
    ∙ ap (λ (k : ℕ). first_stop plan k m) (let e : made ≡ made + 0 = omega arith in e)
first_stop-add plan made (suc n) m =
    let split : suc n + m ≡ suc (n + m) = omega arith in
    let start : made + 1 + n ≡ made + suc n = omega arith in
    ap (λ (k : ℕ). first_stop plan made k) split
    ∙ ap (λ (o : Option FlashStop). option_or (due_stop plan (made + 1)) o) (first_stop-add plan (made + 1) n m)
    ∙ or_or (due_stop plan (made + 1)) (first_stop plan (made + 1) n) (first_stop plan (made + 1 + n) m)
    ∙ ap (λ (k : ℕ). option_or (first_stop plan made (suc n)) (first_stop plan k m)) start
  where
    or_or : (a b c : Option FlashStop) → option_or a (option_or b c) ≡ option_or (option_or a b) c
    or_or None b c = refl
    or_or (Some x) b c = refl

-- all of the first were no stop of the plan, and so is one more as it went
planned_step : (told : Option Planned) (made count : ℕ) (stop : Option FlashStop)
    → IfSome told (λ plan. None ≡ first_stop plan made count)
    → IfSome told (λ plan. stop ≡ first_stop plan (made + count) 1)
    → IfSome told (λ plan. stop ≡ first_stop plan made (count + 1))
planned_step None made count stop none is = is
planned_step (Some plan) made count stop none is =
    is
    ∙ ap (λ (o : Option FlashStop). option_or o (first_stop plan (made + count) 1)) none
    ∙ sym (first_stop-add plan made count 1)

planned_far : (told : Option Planned) (made count places : ℕ) (stop : FlashStop) → count < places
    → IfSome told (λ plan. Some stop ≡ first_stop plan made (count + 1))
    → IfSome told (λ plan. Some stop ≡ first_stop plan made places)
planned_far None made count places stop below is = is
planned_far (Some plan) made count places stop below is =
    let rest : ℕ = places - (count + 1) in
    let split : count + 1 + rest ≡ places = omega arith in
    ap (λ (o : Option FlashStop). option_or o (first_stop plan (made + (count + 1)) rest)) is
    ∙ sym (first_stop-add plan made (count + 1) rest)
    ∙ ap (λ (n : ℕ). first_stop plan made n) split

pub planned_more : (old now : FlashState) (count : ℕ) (stop : Option FlashStop) → IsProbed old count None now
    → IfSome old.plan (λ plan. None ≡ first_stop plan old.operations count)
    → IfSome now.plan (λ plan. stop ≡ first_stop plan now.operations 1)
    → IfSome old.plan (λ plan. stop ≡ first_stop plan old.operations (count + 1))
planned_more old now count stop went none is =
    planned_step old.plan old.operations count stop none
    (subst (λ (f : FlashState). IfSome f.plan (λ plan. stop ≡ first_stop plan f.operations 1)) went is)

pub planned_here : (old now : FlashState) (count places : ℕ) (stop : FlashStop) → count < places → IsProbed old count None now
    → IfSome old.plan (λ plan. None ≡ first_stop plan old.operations count)
    → IfSome now.plan (λ plan. Some stop ≡ first_stop plan now.operations 1)
    → IfSome old.plan (λ plan. Some stop ≡ first_stop plan old.operations places)
planned_here old now count places stop below went none is =
    planned_far old.plan old.operations count places stop below (planned_more old now count (Some stop) went none is)

planned_none : (told : Option Planned) (made : ℕ) → IfSome told (λ plan. None ≡ first_stop plan made 0)
planned_none None made = tt
planned_none (Some plan) made = refl

-- so many probes went well: the flash, and what they told
pub record IsProbing (old now : FlashState) (count places capacity : ℕ) (probes : List Probe) : Type 0 where
  pub went : IsProbed old count None now
  pub planned : IfSome old.plan (λ plan. None ≡ first_stop plan old.operations count)
  pub told : probes ≡ probes_of (take count old.cells)
  pub room : places ≤ capacity

-- before the first probe
pub probing_none : (old : FlashState) (places capacity : ℕ) (probes : List Probe) → probes ≡ [] → places ≤ capacity
    → IsProbing old old 0 places capacity probes
probing_none old places capacity probes none room = record {
  went = ap (λ (n : ℕ). record old { operations = n })
      (let e : old.operations ≡ old.operations + 0 = omega arith in e);
  planned = planned_none old.plan old.operations;
  told = none;
  room = room;
}

-- there is room for one more
pub room_for : (old now : FlashState) (count places capacity : ℕ) (probes : List Probe) → length old.cells ≡ places
    → count < places → IsProbing old now count places capacity probes → length probes < capacity
room_for old now count places capacity probes size below way =
    let told = ap (λ (xs : List Probe). length xs) way.told in
    let mapped = length-map (take count old.cells) cell_probe in
    let taken = length-take-le count old.cells (omega arith) in
    let room = way.room in
    omega arith

-- one probe more
pub under_way_more : (old now new : FlashState) (count places capacity more : ℕ) (probes after : List Probe)
    → count < length old.cells → IsProbing old now count places capacity probes → IsProbed now 1 None new
    → IfSome now.plan (λ plan. None ≡ first_stop plan now.operations 1)
    → after ≡ probes ++ cell_probe (cell_at now.cells count) ∷ [] → capacity ≤ more
    → IsProbing old new (count + 1) places more after
under_way_more old now new count places capacity more probes after below way went planned told grown = record {
  went = probed_more old now new count None way.went went;
  planned = planned_more old now count None way.went way.planned planned;
  told =
      told
      ∙ ap (λ (xs : List Probe). xs ++ cell_probe (cell_at now.cells count) ∷ []) way.told
      ∙ ap (λ (f : FlashState). probes_of (take count old.cells) ++ cell_probe (cell_at f.cells count) ∷ []) way.went
      ∙ sym (map_more cell_probe old.cells count erased below);
  room = (let room = way.room in omega arith);
}

-- every place was probed
pub all_told : (cells : List Cell) (count : ℕ) → length cells ≡ count → probes_of (take count cells) ≡ probes_of cells
all_told cells count size =
    ap (λ (n : ℕ). probes_of (take n cells)) (sym size) ∙ ap probes_of (take-length cells)
