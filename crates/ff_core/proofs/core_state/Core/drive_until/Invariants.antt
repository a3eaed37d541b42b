use Rattle.ff_core.specs.Until.{GoesUntil}
use Rattle.ff_core.proofs.Driving.{IsDrivenFor}
use Rattle.ff_core.proofs.core_state.Core.drive_until.Given as goal

abbrev pub invariant-loop-event : goal.invariant-loop-event
invariant-loop-event g l = record {
  driven : IsDrivenFor l._event l.op l.initial.self l.self;
  until : GoesUntil l.stop l.initial.self l.self;
}
