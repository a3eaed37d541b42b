-- How a cache's fields show, and what they keep.
use Rattle.ff_cache.specs.Cache.{CacheView, IsCacheSound}
use Rattle.ff_cache.specs.declared.cache.Cache.TheInside.{Inside}

abbrev pub view_of : Inside → CacheView
view_of fields =
    record {
      slots = fields.slots.items;
      values = fields.values.items;
      sets = fields.sets;
      ways = fields.ways;
    }

abbrev pub IsKept : Inside → Type 0
IsKept fields = IsCacheSound (view_of fields)
