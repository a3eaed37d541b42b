-- How a map's fields show as a map, and what they keep.
use Rattle.std.specs.Prelude.{length}
use Rattle.ff_base.specs.Geometry.{IsAllowed}
use Rattle.ff_base.specs.declared.limits.LimitName.TheVariants.{FlashPages, Pages}
use Rattle.ff_map.specs.Owners.{IsInverse}
use Rattle.ff_map.specs.PageMap.{PageMapView}
use Rattle.ff_map.specs.declared.page_map.PageMap.TheInside.{Inside}

-- the map that the fields show
abbrev pub view_of : Inside → PageMapView
view_of fields = record {
  pages = fields.pages.items;
  places = length fields.owners.items;
  next_version = fields.next_version;
}

-- the owners are the inverse of the mappings, and the sizes are those of a geometry
pub record IsKept (fields : Inside) : Type 0 where
  pub inverse : IsInverse fields.pages.items fields.owners.items
  pub pages : IsAllowed Pages (length fields.pages.items)
  pub places : IsAllowed FlashPages (length fields.owners.items)
