-- How the fields of a set's ways show as their values, and what they keep.
use Rattle.std.specs.Prelude.{ℕ, List}
use Rattle.ff_rrip.specs.Ways.{IsWaysSound}
use Rattle.ff_rrip.specs.declared.ways.Ways.TheInside.{Inside}

-- the values that the fields show
abbrev pub view_of : Inside → List ℕ
view_of fields = fields.values.items

-- there are few enough ways, with values of two bits
abbrev pub IsKept : Inside → Type 0
IsKept fields = IsWaysSound (view_of fields)
