-- How a table's fields show as a table, and what they keep.
use Rattle.std.specs.Prelude.{◌≡◌}
use Rattle.ff_table.specs.Table.{TableView, IsTableSound, born_count_in}
use Rattle.ff_table.specs.declared.table.Table.TheInside.{Inside}

-- the table that the fields show
abbrev pub view_of : Inside → TableView
view_of t = record { homes = t.homes.items; marks = t.marks; born = t.born.items }

-- the table is sound, and its count is that of the born pages
pub record IsKept (t : Inside) : Type 0 where
  pub sound : IsTableSound (view_of t)
  pub counted : t.count ≡ born_count_in (view_of t)
