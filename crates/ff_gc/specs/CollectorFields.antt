-- How a collector's fields show, and what they keep.
use Rattle.std.specs.Prelude.{◌≤◌, vec_capacity}
use Rattle.ff_gc.specs.Collector.{CollectorView}
use Rattle.ff_gc.specs.declared.collector.Collector.TheInside.{Inside}

-- the collector that the fields show
abbrev pub view_of : Inside → CollectorView
view_of fields = record {
  per_block = fields.per_block;
  phase = fields.phase;
  moves = fields.moves.items;
  bytes = fields.bytes;
}

-- there is room for a copy of every page of a block
abbrev pub IsKept : Inside → Type 0
IsKept fields = fields.per_block ≤ vec_capacity fields.moves
