use Rattle.ff_frames.proofs.FreshFrames.{indexed-fresh}
use Rattle.ff_frames.proofs.frames.Frames.new.Goals as goal

pub invariant_of-result : goal.invariant_of-result
invariant_of-result c = rw (c.in_ok-free_frames.ensures, c.in_ok-new.ensures.none) (indexed-fresh c.args.frames c.requires)
