use Rattle.std.proofs.Common.{◌<◌, arith}
use Rattle.ff_device.specs.Device.{parts_of}
use Rattle.ff_device.specs.Steps.{may_go_at}
use Rattle.ff_device.proofs.Masks.{allowed_more, clear_more}
use Rattle.ff_device.proofs.device.Device.allowed.Goals as goal

pub with_way-mask-requires-clause-clear : goal.with_way-mask-requires-clause-clear
with_way-mask-requires-clause-clear g c = c.loop-way.invariant.clear c.loop-way.way (omega arith)

pub loop-way-preserved : goal.loop-way-preserved
loop-way-preserved g c = record {
  told = allowed_more c.loop-way.mask c.with_way-mask.result c.loop-way.way c.may_go_way.result
      (may_go_at (parts_of c.args.self.now) c.args.page.0) c.may_go_way.ensures c.with_way-mask.ensures c.loop-way.invariant.told;
  clear = clear_more c.loop-way.mask c.with_way-mask.result c.loop-way.way c.may_go_way.result c.with_way-mask.ensures c.loop-way.invariant.clear;
}

pub returns : goal.returns
returns g c = λ way within.
    let inside : way < c.self.inside.cache.ways = rw (← c.self.view_is) at within in
    c.loop-way.invariant.told way (omega arith)
