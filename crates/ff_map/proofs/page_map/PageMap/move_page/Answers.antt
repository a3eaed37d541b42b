use Rattle.std.proofs.Common.{lit<}
use Rattle.ff_map.proofs.page_map.PageMap.move_page.Goals as goal

pub set-requires-clause-free : goal.set-requires-clause-free
set-requires-clause-free c other there = absurd (c.requires.free 0 c.args.one (lit< tt) other there)
