-- The block is changed twice.
use Rattle.std.proofs.Common.{ap, ◌∙◌}
use Rattle.ff_space.specs.Blocks.{block_placed, waiting}
use Rattle.ff_space.specs.BlockTable.{BlockTableView, changed_at}
use Rattle.ff_scan.proofs.Placing.{changed_twice, spare_entry}
use Rattle.ff_scan.proofs.blocks.set_spare.Goals as goal

pub returns-then-next-gt0 : goal.returns-then-next-gt0
returns-then-next-gt0 c =
    let table = c.args.space.now in
    c.wait_erase.ensures
    ∙ ap (λ (t : BlockTableView). changed_at t c.args.block.0 waiting) c.set_place.ensures
    ∙ changed_twice table c.args.block.0 (block_placed table.per_block c.args.next) waiting c.requires.in_range
    ∙ ap (λ e. changed_at table c.args.block.0 (λ _. e)) (spare_entry table.per_block c.args.next c.if-next-gt0.true)
