-- The place is mapped and counted.
use Rattle.std.proofs.Common.{arith}
use Rattle.ff_scan.proofs.Mappings.{block_here, free_here, has_room, mapped_next, not_waiting}
use Rattle.ff_scan.proofs.mapping.map_found.Goals as goal

pub add_mapped-requires-clause-in_range : goal.add_mapped-requires-clause-in_range
add_mapped-requires-clause-in_range c =
    let below = block_here c.args.geometry.now c.args.probes.now c.args.place.0 c.requires.limits
    c.requires.probes c.requires.place in
    omega (arith, c.requires.mapped.block_count)

pub add_mapped-requires-clause-used : goal.add_mapped-requires-clause-used
add_mapped-requires-clause-used c =
    not_waiting c.args.geometry.now c.args.probes.now c.args.spare.0 c.args.place.0 _ c.args.space.now
    c.args.places.now c.requires.mapped
    (block_here c.args.geometry.now c.args.probes.now c.args.place.0 c.requires.limits c.requires.probes
    c.requires.place)
    c.requires.top.there.outside

pub add_mapped-requires-clause-room : goal.add_mapped-requires-clause-room
add_mapped-requires-clause-room c =
    has_room c.args.geometry.now c.args.probes.now c.args.spare.0 c.args.place.0 c.args.found c.args.space.now
    c.args.places.now c.requires.limits c.requires.probes c.requires.place c.requires.mapped
    c.requires.top.there.is

pub set-requires-clause-page : goal.set-requires-clause-page
set-requires-clause-page c =
    omega (
      arith,
      c.requires.mapped.page_count,
      c.requires.probes.page c.args.place.0 c.args.found c.requires.top.there.is,
    )

pub set-requires-clause-place : goal.set-requires-clause-place
set-requires-clause-place c =
    omega (arith, c.requires.mapped.place_count, c.requires.probes.size, c.requires.place)

pub set-requires-clause-free : goal.set-requires-clause-free
set-requires-clause-free c =
    free_here c.args.geometry.now c.args.probes.now c.args.spare.0 c.args.place c.args.found.page
    c.args.space.now c.args.places.now c.requires.mapped

pub returns : goal.returns
returns c =
    mapped_next c.args.geometry.now c.args.probes.now c.args.spare.0 c.args.place c.args.found c.args.space.now c.add_mapped.new.self
    c.args.places.now c.set.new.self c.requires.limits c.requires.probes c.requires.place c.requires.mapped c.requires.top
    c.requires.none c.add_mapped.ensures c.set.ensures
