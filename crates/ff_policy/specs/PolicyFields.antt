-- How a policy's fields show as a policy, and what they keep.
use Rattle.ff_policy.specs.Policy.{PolicyView, IsPolicySound}
use Rattle.ff_policy.specs.declared.policy.Policy.TheInside.{Inside}

-- the policy that the fields show
abbrev pub view_of : {T : Type 0} → Inside T → PolicyView T
view_of p =
    record {
      counters = p.counters;
      threshold = p.threshold;
      hits = p.hits;
      recent = p.recent;
      accesses = p.accesses;
      promotions = p.promotions;
      tuner = p.tuner;
    }

-- the policy is sound
abbrev pub IsKept : {T : Type 0} → Inside T → Type 0
IsKept p = IsPolicySound (view_of p)
