use Rattle.ff_map.proofs.Switching.{more_switched, next_ready}
use Rattle.ff_map.proofs.page_map.PageMap.switch.Goals as goal

pub move_page-requires : goal.move_page-requires
move_page-requires c = next_ready c.args.moves.now c.loop-one.one-index _ c.args.self.now c.loop-one.self c.requires c.loop-one-test.true c.loop-one.invariant

pub loop-one-preserved : goal.loop-one-preserved
loop-one-preserved c =
    more_switched c.args.moves.now c.loop-one.one-index _ c.args.self.now c.loop-one.self c.move_page.new.self c.requires c.loop-one-test.true c.loop-one.invariant c.move_page.ensures
