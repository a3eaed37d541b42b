-- What a contract sees of a policy, what a policy keeps, and what its calls make of it.
use Rattle.std.specs.Prelude.{ℕ, ◌≡◌, ◌+◌, ◌*◌, ◌<◌, ◌≤◌, ◌==◌, ◌^◌, Bool, true, false, List, sum, replicate, slice_index, slice_set}
use Rattle.ff_policy.specs.Counters.{halved, raised_count}
use Rattle.ff_policy.specs.Tuner.{TunerView}

-- the device accesses from one step of the threshold to the next
abbrev pub step_accesses : ℕ
step_accesses = 64

-- a counter a page, the threshold, the host hits and the device accesses since its last step, and the device
-- accesses and promotions in all
pub record PolicyView (T : Type 0) : Type 0 where
  pub counters : List ℕ
  pub threshold : ℕ
  pub hits : ℕ
  pub recent : ℕ
  pub accesses : ℕ
  pub promotions : ℕ
  pub tuner : TunerView T

-- a policy under which nothing was accessed
abbrev pub fresh_policy : {T : Type 0} → ℕ → TunerView T → PolicyView T
fresh_policy pages tuner =
    record {
      counters = replicate pages 0;
      threshold = tuner.start;
      hits = 0;
      recent = 0;
      accesses = 0;
      promotions = 0;
      tuner = tuner;
    }

-- what a policy keeps: counted accesses paid for the promotions, and the threshold is no less than its floor
pub record IsPolicySound {T : Type 0} (policy : PolicyView T) : Type 0 where
  pub paid : sum policy.counters + policy.tuner.floor * policy.promotions ≤ policy.accesses
  pub positive : 1 ≤ policy.tuner.floor
  pub least : policy.tuner.floor ≤ policy.threshold
  pub stepped : policy.recent < step_accesses
  pub few_counted : sum policy.counters ≤ step_accesses + policy.recent
  pub few_hits : policy.hits ≤ 2 ^ 63
  pub few_accesses : policy.accesses ≤ 2 ^ 63

-- the counter of a page
abbrev pub counter_of : {T : Type 0} → PolicyView T → ℕ → ℕ
counter_of policy page = slice_index policy.counters page

-- the page is hot
abbrev pub IsHot : {T : Type 0} → PolicyView T → ℕ → Type 0
IsHot policy page = policy.threshold ≤ counter_of policy page

-- the policy after a promotion of the page began
abbrev pub promoted : {T : Type 0} → ℕ → PolicyView T → PolicyView T
promoted page policy =
    record policy {
      counters = slice_set policy.counters page 0;
      promotions = policy.promotions + 1;
    }

-- the policy after a device access to the page was counted, before a step of the threshold
abbrev pub counted : {T : Type 0} → ℕ → PolicyView T → PolicyView T
counted page policy =
    record policy {
      counters = slice_set policy.counters page (raised_count (counter_of policy page));
      recent = policy.recent + 1;
      accesses = policy.accesses + 1;
    }

-- the threshold became the tuner's answer, the counters were halved, and a new step begins
pub record IsStepped {T : Type 0} (answers : T → ℕ → ℕ → ℕ → ℕ → Type 0)
    (old new : PolicyView T) : Type 0 where
  pub answer : answers old.tuner.tune old.hits step_accesses old.threshold new.threshold
  pub policy : new ≡ record old {
    counters = halved old.counters;
    threshold = new.threshold;
    hits = 0;
    recent = 0;
  }

-- a step where it is due, else nothing
abbrev pub StepsWhere : {T : Type 0} → Bool → (T → ℕ → ℕ → ℕ → ℕ → Type 0) → PolicyView T
    → PolicyView T → Type 0
StepsWhere true answers old new = IsStepped answers old new
StepsWhere false answers old new = new ≡ old

-- a step where enough accesses have come
abbrev pub StepsWhenDue : {T : Type 0} → (T → ℕ → ℕ → ℕ → ℕ → Type 0) → PolicyView T
    → PolicyView T → Type 0
StepsWhenDue answers old new = StepsWhere (old.recent == step_accesses) answers old new
