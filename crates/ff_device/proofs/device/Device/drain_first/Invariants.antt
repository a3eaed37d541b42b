use Rattle.std.proofs.Common.{◌≡◌}
use Rattle.ff_device.specs.Device.{lines_of, own_of, parts_of}
use Rattle.ff_device.specs.Draining.{DrainsFirst, SameFrames}
use Rattle.ff_device.proofs.device.Device.drain_first.Given as goal

abbrev pub invariant-loop : goal.invariant-loop
invariant-loop g l = record {
  drained : DrainsFirst l.counter (lines_of (parts_of l.initial.self)) (lines_of (parts_of l.self));
  own : own_of l.self ≡ own_of l.initial.self;
  frames : SameFrames l.initial.self.cache l.self.cache;
}
