-- How the fields show as a buffer, and what they keep.
use Rattle.std.specs.Prelude.{List, Option}
use Rattle.ff_plb.specs.Plb.{ArePagesApart}
use Rattle.ff_plb.specs.declared.plb.Plb.TheInside.{Inside}
use Rattle.ff_plb.specs.declared.slot.Slot.{Slot}

-- the slots that the fields show
abbrev pub view_of : Inside → List (Option Slot)
view_of b = b.slots.items

-- no page has two entries
abbrev pub IsKept : Inside → Type 0
IsKept b = ArePagesApart b.slots.items
