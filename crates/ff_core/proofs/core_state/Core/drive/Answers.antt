use Rattle.std.proofs.Common.{◌≡◌, ap, ◌∙◌, arith}
use Rattle.ff_base.specs.declared.geometry.Geometry.{Geometry}
use Rattle.ff_core.specs.Drives.{most_events}
use Rattle.ff_core.proofs.Driving.{core_few, driven_ends, driven_more, driven_off, driven_power, driven_served, driven_spare}
use Rattle.ff_core.proofs.core_state.Core.drive.Goals as goal

pub event-requires : goal.event-requires
event-requires g c = record {
  spare = driven_spare c.loop-event._event c.args.op.now c.args.self.now c.loop-event.self c.loop-event.invariant c.requires.spare;
}

pub returns-in-Served : goal.returns-in-Served
returns-in-Served g c = record {
  driven =
      driven_served c.loop-event._event c.args.op.now c.args.caller c.args.number c.in-Served.reply c.args.self.now c.loop-event.self
      c.event.new.self c.loop-event.invariant
      (core_few c.args.op.now c.args.self.now c.parts_known.ensures.sound c.parts_known.ensures.device) c.in-Served.ensures.event;
  power =
      driven_power c.loop-event._event c.args.op.now c.args.self.now c.loop-event.self c.event.new.self c.loop-event.invariant
      c.in-Served.ensures.power;
}

pub returns-in-Off : goal.returns-in-Off
returns-in-Off g c = record {
  driven =
      driven_off c.loop-event._event c.args.op.now c.args.caller c.args.number c.args.self.now c.loop-event.self c.event.new.self
      c.loop-event.invariant (core_few c.args.op.now c.args.self.now c.parts_known.ensures.sound c.parts_known.ensures.device)
      c.in-Off.ensures.event;
  power =
      driven_power c.loop-event._event c.args.op.now c.args.self.now c.loop-event.self c.event.new.self c.loop-event.invariant
      c.in-Off.ensures.power;
}

pub loop-event-preserved : goal.loop-event-preserved
loop-event-preserved g c =
    driven_more c.loop-event._event c.args.op.now c.args.caller c.args.number _ c.args.self.now c.loop-event.self c.event.new.self
    c.loop-event.invariant c.in-Miss.ensures.event

pub unreachable-requires : goal.unreachable-requires
unreachable-requires g c =
    let most : c.most_events-event-end.result ≡ most_events c.args.self.now.geometry c.args.op.now =
    c.most_events-event-end.ensures ∙ ap (λ (s : Geometry). most_events s c.args.op.now) c.geometry.ensures in
    let past = c.loop-event-test.false in
    driven_ends c.loop-event._event c.args.op.now c.args.self.now c.loop-event.self c.loop-event.invariant
    (core_few c.args.op.now c.args.self.now c.parts_known.ensures.sound c.parts_known.ensures.device) (omega (arith, past, most))
