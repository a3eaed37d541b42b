-- How a table's fields show as a table, and what they keep.
use Rattle.std.specs.Prelude.{◌≡◌}
use Rattle.ff_space.specs.BlockTable.{BlockTableView, IsBlockTableSound, collectable_count, erased_count}
use Rattle.ff_space.specs.declared.table.BlockTable.TheInside.{Inside}

-- the table that the fields show
abbrev pub view_of : Inside → BlockTableView
view_of fields = record { per_block = fields.per_block; blocks = fields.blocks.items }

-- the table is sound, and its counts are those of the erased blocks and of those that can be collected
pub record IsKept (fields : Inside) : Type 0 where
  pub sound : IsBlockTableSound (view_of fields)
  pub erased : fields.erased ≡ erased_count fields.blocks.items
  pub collectable : fields.collectable ≡ collectable_count fields.per_block fields.blocks.items
