-- How the fields show as counters, and what they keep.
use Rattle.std.specs.Prelude.{ℕ, ◌≤◌, List, vec_capacity}
use Rattle.ff_policy.specs.Counters.{AreCounted, most_counted}
use Rattle.ff_policy.specs.declared.counters.Counters.TheInside.{Inside}

-- the counters that the fields show
abbrev pub view_of : Inside → List ℕ
view_of c = c.counts.items

-- the pages are those with a counter that isn't zero, and there is room for as many as can be
pub record IsKept (c : Inside) : Type 0 where
  pub pages : AreCounted c.counts.items c.counted.items
  pub room : most_counted ≤ vec_capacity c.counted
