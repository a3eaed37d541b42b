use Rattle.ff_core.proofs.Driving.{IsDrivenFor}
use Rattle.ff_core.proofs.core_state.Core.drive.Given as goal

abbrev pub invariant-loop-event : goal.invariant-loop-event
invariant-loop-event g l = IsDrivenFor l._event l.op l.initial.self l.self
