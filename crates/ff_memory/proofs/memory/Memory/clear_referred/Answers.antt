use Rattle.ff_memory.proofs.Alike.{like-located, like-lines}
use Rattle.ff_memory.proofs.Unreferred.{unreferred-like}
use Rattle.ff_memory.proofs.memory.Memory.clear_referred.Goals as goal

pub returns-then-from-to-clause-located : goal.returns-then-from-to-clause-located
returns-then-from-to-clause-located c d located =
    like-located c.args.self.now d _ d located (unreferred-like _ c.args.self.now _ d c.unrefer.ensures)

pub returns-then-from-to-clause-lines : goal.returns-then-from-to-clause-lines
returns-then-from-to-clause-lines c d = like-lines c.args.self.now d _ d (unreferred-like _ c.args.self.now _ d c.unrefer.ensures)

pub returns-clause-located : goal.returns-clause-located
returns-clause-located c d located = like-located c.args.self.now d _ d located (unreferred-like _ c.args.self.now _ d c.unrefer_round.ensures)

pub returns-clause-lines : goal.returns-clause-lines
returns-clause-lines c d = like-lines c.args.self.now d _ d (unreferred-like _ c.args.self.now _ d c.unrefer_round.ensures)
