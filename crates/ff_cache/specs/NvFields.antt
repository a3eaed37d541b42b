-- How the fields of what the battery keeps show.
use Rattle.ff_cache.specs.Nv.{NvView, ways_of}
use Rattle.ff_cache.specs.declared.cache.nv.Nv.TheInside.{Inside}

abbrev pub view_of : Inside → NvView
view_of fields = record { slots = ways_of fields.slots.items; marks = fields.marks }
