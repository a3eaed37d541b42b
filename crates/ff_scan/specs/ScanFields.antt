-- How a scan's fields show, and what they keep.
use Rattle.std.specs.Prelude.{◌*◌, ◌≤◌, ◌≡◌, replicate, vec_capacity}
use Rattle.ff_base.specs.Geometry.{IsWithinLimits}
use Rattle.ff_space.specs.BlockTable.{new_table}
use Rattle.ff_map.specs.PageMap.{empty_map}
use Rattle.ff_scan.specs.Scan.{ScanView}
use Rattle.ff_scan.specs.Tops.{blank_top}
use Rattle.ff_scan.specs.declared.scan.Scan.TheInside.{Inside}

-- the scan that the fields show
abbrev pub view_of : Inside → ScanView
view_of fields = record { geometry = fields.geometry; probes = fields.probes.items }

-- table and map are empty, and there is room for what all places tell
pub record IsKept (fields : Inside) : Type 0 where
  pub limits : IsWithinLimits fields.geometry
  pub room : fields.geometry.blocks * fields.geometry.per_block ≤ vec_capacity fields.probes
  pub tops : fields.tops.items ≡ replicate fields.geometry.pages blank_top
  pub space : fields.space ≡ new_table fields.geometry
  pub places : fields.places ≡ empty_map fields.geometry
