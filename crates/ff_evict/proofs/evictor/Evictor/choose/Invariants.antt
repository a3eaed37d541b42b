use Rattle.ff_evict.specs.Best.{IsBestOfFirst}
use Rattle.ff_evict.proofs.evictor.Evictor.choose.Given as goal

abbrev pub invariant-loop-seen : goal.invariant-loop-seen
invariant-loop-seen g l = IsBestOfFirst l.seen (g.E.Pick.score l.self.picker.pick) l.frames l.busy l.self.hand l.best
