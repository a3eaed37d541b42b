use Rattle.ff_memory.proofs.Begins.{promoted-keeps}
use Rattle.ff_memory.proofs.Moves.{move-located, move-lines}
use Rattle.ff_memory.proofs.memory.Memory.begin_promote.Goals as goal

pub returns-clause-located : goal.returns-clause-located
returns-clause-located g c =
    let is = c.promote.ensures.step in
    let keeps = promoted-keeps _ _ _ _ _ c.known.ensures c.requires.located c.requires.can is in
    move-located c.args.page.0 is.frame _ _ _ _ c.requires.located keeps.move

pub returns-clause-lines : goal.returns-clause-lines
returns-clause-lines g c =
    let is = c.promote.ensures.step in
    let keeps = promoted-keeps _ _ _ _ _ c.known.ensures c.requires.located c.requires.can is in
    move-lines c.args.page.0 is.frame _ _ _ _ c.requires.located keeps.move keeps.lines
