-- What is counted is what the history and the log tell.
use Rattle.std.proofs.Common.{◌≡◌, ◌≤◌, ◌+◌, ◌∷◌, ◌++◌, [], ℕ, Bool, cond, List, count_by, sym, ap, arith}
use Rattle.std.specs.Prelude.{IsSome}
use Rattle.std.proofs.lemmas.List.Sums.{sum_by-append}
use Rattle.ff_model.specs.History.{Entries}
use Rattle.ff_core.specs.Core.{CoreView}
use Rattle.ff_core.specs.CoreSound.{IsCounted, has_failed, has_fault, is_promotion, is_served_access}
use Rattle.ff_core.specs.Hierarchy.{HierarchyView, flash_under}
use Rattle.ff_core.specs.Log.{LogView}
use Rattle.ff_core.specs.declared.tally.EventTally.{EventTally}
use Rattle.ff_core.proofs.Running.{FailsBy}
use Rattle.ff_core.proofs.Tallied.{CountsAlike, moves_of}

-- one more passes a test, or doesn't
pub count-more : {A : Type 0} (test : A → Bool) (list : List A) (last : A) (passes : Bool) → test last ≡ passes
    → count_by test (list ++ last ∷ []) ≡ count_by test list + cond {A = ℕ} passes 1 0
count-more test list last passes is =
    let one : cond {A = ℕ} (test last) 1 0 ≡ cond {A = ℕ} passes 1 0 = ap (λ (b : Bool). cond {A = ℕ} b 1 0) is in
    let more = sum_by-append (λ x. cond {A = ℕ} (test x) 1 0) list (last ∷ []) in
    omega arith

-- what an event adds to what is counted, and to what the history and the log tell
pub record IsRecounted {T E : Type 0} (core : CoreView T E) (history : Entries) (events : ℕ) (log : LogView) (tally : EventTally)
    (h : HierarchyView T E) : Type 0 where
  pub served : tally.device + tally.host + count_by is_served_access core.history.entries
      ≡ core.tally.device + core.tally.host + count_by is_served_access history.entries
  pub promotions : tally.promoted + count_by is_promotion core.log.turns
      ≡ core.tally.promoted + count_by is_promotion log.turns
  pub alike : CountsAlike h.policy tally
  pub moves : moves_of tally + core.events ≤ moves_of core.tally + events
  pub failures : ℕ
  pub told : count_by has_fault history.entries + count_by has_failed log.turns
      ≡ count_by has_fault core.history.entries + count_by has_failed core.log.turns + failures
  pub fails : FailsBy failures core.hierarchy.device.store h.device.store

pub counted-over : {T E : Type 0} (core : CoreView T E) (history : Entries) (events : ℕ) (log : LogView) (tally : EventTally)
    (h : HierarchyView T E) → IsCounted core → core.opening.event ≤ core.events → IsRecounted core history events log tally h
    → IsCounted (record core { history = history; events = events; log = log; tally = tally; hierarchy = h })
counted-over core history events log tally h counted from_on more =
    let served = counted.served in
    let served' = more.served in
    let promotions = counted.promotions in
    let promotions' = more.promotions in
    let moves = counted.moves in
    let moves' = more.moves in
    let told = more.told in
    let faults = counted.faults in
    let faults' = more.fails.faults in
    let one = counted.kinds in
    let two = more.fails.since in
    record {
      served = omega arith;
      promotions = omega arith;
      paid = more.alike.promotions;
      accesses = more.alike.accesses;
      hits = more.alike.hits;
      moves = omega arith;
      faults = omega arith;
      planned = λ some.
          let plan : IsSome (flash_under core.hierarchy).plan = rw (sym more.fails.plan) some in
          let same = counted.planned plan in
          let rose = more.fails.planned plan in
          omega arith;
      kinds = record {
        reads = omega (arith, one.reads, two.reads);
        programs = omega (arith, one.programs, two.programs);
        seals = omega (arith, one.seals, two.seals);
        erases = omega (arith, one.erases, two.erases);
      };
    }
