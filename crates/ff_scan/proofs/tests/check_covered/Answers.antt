-- The tops are found from blank ones.
use Rattle.std.proofs.Common.{length, ap, ◌∙◌}
use Rattle.std.proofs.lemmas.List.{length-replicate}
use Rattle.ff_scan.proofs.Newest.{tops_none}
use Rattle.ff_scan.specs.Tops.{blank_top}
use Rattle.ff_scan.proofs.tests.check_covered.Goals as goal

pub find_covered-requires-clause-pages : goal.find_covered-requires-clause-pages
find_covered-requires-clause-pages g c =
    ap length (c.deref_mut.ensures.value ∙ c.in_ok-tops.ensures) ∙ length-replicate c.args.geometry.now.pages
    blank_top

pub find_covered-requires-clause-none : goal.find_covered-requires-clause-none
find_covered-requires-clause-none g c =
    tops_none c.args.geometry.now.per_block c.args.probes.now c.args.geometry.now.pages _
    (c.deref_mut.ensures.value ∙ c.in_ok-tops.ensures)
