use Rattle.std.proofs.Common.{take}
use Rattle.ff_map.specs.PageMap.{IsSwitched}
use Rattle.ff_map.proofs.page_map.PageMap.switch.Given as goal

abbrev pub invariant-loop-one : goal.invariant-loop-one
invariant-loop-one l = IsSwitched (take l.one-index l.moves) l.fn.self l.self
