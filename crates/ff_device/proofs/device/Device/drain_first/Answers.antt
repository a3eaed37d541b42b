use Rattle.std.proofs.Common.{◌∙◌}
use Rattle.ff_device.proofs.Drained.{drains_more, frames_more}
use Rattle.ff_device.proofs.device.Device.drain_first.Goals as goal

pub loop-preserved : goal.loop-preserved
loop-preserved g c = record {
  drained = drains_more c.loop.counter 1 _ _ _ c.loop.invariant.drained c.drain_one.ensures.drained;
  own = c.drain_one.ensures.own ∙ c.loop.invariant.own;
  frames = frames_more _ _ _ c.loop.invariant.frames c.drain_one.ensures.frames;
}
