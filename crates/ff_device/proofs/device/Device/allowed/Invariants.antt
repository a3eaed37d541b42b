use Rattle.std.proofs.Common.{◌≡◌, ◌<◌, ◌≤◌, ℕ, false}
use Rattle.ff_device.specs.Device.{parts_of}
use Rattle.ff_device.specs.Steps.{may_go_at}
use Rattle.ff_rrip.specs.Ways.{is_allowed}
use Rattle.ff_device.proofs.device.Device.allowed.Given as goal

abbrev pub invariant-loop-way : goal.invariant-loop-way
invariant-loop-way g l = record {
  told : (k : ℕ) → k < l.way → is_allowed l.mask k ≡ may_go_at (parts_of l.self) l.page.0 k;
  clear : (k : ℕ) → l.way ≤ k → is_allowed l.mask k ≡ false;
}
