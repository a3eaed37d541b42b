use Rattle.std.proofs.Common.{◌≡◌, ap, ◌∙◌, arith}
use Rattle.ff_base.specs.declared.geometry.Geometry.{Geometry}
use Rattle.ff_core.specs.Drives.{most_events}
use Rattle.ff_core.proofs.Driving.{core_few, driven_ends, driven_more, driven_off, driven_served, driven_spare}
use Rattle.ff_core.proofs.Until.{until_more}
use Rattle.ff_core.proofs.core_state.Core.drive_until.Goals as goal

pub event_until-requires : goal.event_until-requires
event_until-requires g c = record {
  spare = driven_spare c.loop-event._event c.args.op.now c.args.self.now c.loop-event.self c.loop-event.invariant.driven c.requires.spare;
}

pub returns-in-Served : goal.returns-in-Served
returns-in-Served g c = record {
  driven =
      driven_served c.loop-event._event c.args.op.now c.args.caller c.args.number c.in-Served.reply c.args.self.now c.loop-event.self
      c.event_until.new.self c.loop-event.invariant.driven
      (core_few c.args.op.now c.args.self.now c.parts_known.ensures.sound c.parts_known.ensures.device) c.in-Served.ensures.event;
  until = record {
    last = c.loop-event.self;
    history = c.loop-event.invariant.driven.history;
    until = c.loop-event.invariant.until;
    event = c.in-Served.ensures.event;
    ends = c.in-Served.ensures.until;
  };
}

pub returns-in-Off : goal.returns-in-Off
returns-in-Off g c = record {
  driven =
      driven_off c.loop-event._event c.args.op.now c.args.caller c.args.number c.args.self.now c.loop-event.self
      c.event_until.new.self c.loop-event.invariant.driven
      (core_few c.args.op.now c.args.self.now c.parts_known.ensures.sound c.parts_known.ensures.device) c.in-Off.ensures.event;
  until = record {
    last = c.loop-event.self;
    history = c.loop-event.invariant.driven.history;
    until = c.loop-event.invariant.until;
    event = c.in-Off.ensures.event;
    ends = c.in-Off.ensures.until;
  };
}

pub loop-event-preserved : goal.loop-event-preserved
loop-event-preserved g c = record {
  driven =
      driven_more c.loop-event._event c.args.op.now c.args.caller c.args.number _ c.args.self.now c.loop-event.self c.event_until.new.self
      c.loop-event.invariant.driven c.in-Miss.ensures.event;
  until =
      until_more c.args.stop c.args.caller c.args.number c.args.op.now _ c.args.self.now c.loop-event.self c.event_until.new.self
      c.loop-event.invariant.until c.in-Miss.ensures.event c.in-Miss.ensures.until;
}

pub unreachable-requires : goal.unreachable-requires
unreachable-requires g c =
    let most : c.most_events-event-end.result ≡ most_events c.args.self.now.geometry c.args.op.now =
    c.most_events-event-end.ensures ∙ ap (λ (s : Geometry). most_events s c.args.op.now) c.geometry.ensures in
    let past = c.loop-event-test.false in
    driven_ends c.loop-event._event c.args.op.now c.args.self.now c.loop-event.self c.loop-event.invariant.driven
    (core_few c.args.op.now c.args.self.now c.parts_known.ensures.sound c.parts_known.ensures.device) (omega (arith, past, most))
