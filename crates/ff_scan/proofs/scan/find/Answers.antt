-- Each step begins where the one before ended.
use Rattle.std.proofs.Common.{length, ap, sym, subst, ◌∙◌}
use Rattle.std.proofs.lemmas.List.{length-replicate}
use Rattle.ff_map.specs.PageMap.{PageMapView}
use Rattle.ff_scan.proofs.Mappings.{mapped_none, scan_of}
use Rattle.ff_scan.proofs.Newest.{tops_none}
use Rattle.ff_scan.proofs.Placing.{placed_none}
use Rattle.ff_scan.specs.Found.{IsScan}
use Rattle.ff_scan.specs.Tops.{blank_top}
use Rattle.ff_scan.proofs.scan.find.Goals as goal

pub find_tops-requires-clause-pages : goal.find_tops-requires-clause-pages
find_tops-requires-clause-pages c =
    ap length c.requires.tops ∙ length-replicate c.args.geometry.now.pages blank_top

pub find_tops-requires-clause-none : goal.find_tops-requires-clause-none
find_tops-requires-clause-none c =
    tops_none c.args.geometry.now.per_block c.args.probes.now c.args.geometry.now.pages c.args.tops.now
    c.requires.tops

pub spare_block-spare-requires-clause-pages : goal.spare_block-spare-requires-clause-pages
spare_block-spare-requires-clause-pages c =
    c.find_tops.auto.tops ∙ ap length c.requires.tops ∙ length-replicate c.args.geometry.now.pages blank_top

pub place_all-requires-clause-none : goal.place_all-requires-clause-none
place_all-requires-clause-none c =
    placed_none c.args.geometry.now c.args.probes.now c.spare_block-spare.result.0 c.args.space.now
    c.requires.space

pub map_all-requires-clause-none : goal.map_all-requires-clause-none
map_all-requires-clause-none c =
    mapped_none c.args.geometry.now c.args.probes.now c.spare_block-spare.result.0 c.place_all.new.space
    c.args.places.now c.place_all.ensures c.requires.places

pub returns : goal.returns
returns c =
    let g = c.args.geometry.now in
    subst (λ (p : PageMapView). IsScan g c.args.probes.now c.spare_block-spare.result.0 c.map_all.new.space p)
    (sym c.start_version.ensures)
    (scan_of g c.args.probes.now c.spare_block-spare.result.0 c.next_version.result c.map_all.new.space c.map_all.new.places
    c.requires.probes c.spare_block-spare.ensures c.map_all.ensures c.next_version.ensures)
