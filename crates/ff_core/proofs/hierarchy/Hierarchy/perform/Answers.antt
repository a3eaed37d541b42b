use Rattle.std.proofs.Common.{subst}
use Rattle.ff_core.specs.CanPerform.{CanPerform}
use Rattle.ff_core.specs.declared.action.Action.{Action}
use Rattle.ff_core.proofs.hierarchy.Hierarchy.perform.Goals as goal

pub advance-requires-clause-slot : goal.advance-requires-clause-slot
advance-requires-clause-slot g c = subst (λ (action : Action). CanPerform action c.args.self.now) c.in-Advance.is c.requires.may

pub returns-in-Advance : goal.returns-in-Advance
returns-in-Advance g c = rw c.in-Advance.is c.advance.ensures

pub turn_back-requires-clause-slot : goal.turn_back-requires-clause-slot
turn_back-requires-clause-slot g c = subst (λ (action : Action). CanPerform action c.args.self.now) c.in-TurnBack.is c.requires.may

pub returns-in-TurnBack : goal.returns-in-TurnBack
returns-in-TurnBack g c = rw c.in-TurnBack.is c.turn_back.ensures

pub work_for-requires-clause-absent : goal.work_for-requires-clause-absent
work_for-requires-clause-absent g c = subst (λ (action : Action). CanPerform action c.args.self.now) c.in-Work.is c.requires.may

pub returns-in-Work : goal.returns-in-Work
returns-in-Work g c = rw c.in-Work.is c.work_for.ensures

pub promote-requires-clause-may : goal.promote-requires-clause-may
promote-requires-clause-may g c = subst (λ (action : Action). CanPerform action c.args.self.now) c.in-Promote.is c.requires.may

pub returns-in-Promote : goal.returns-in-Promote
returns-in-Promote g c = rw c.in-Promote.is c.promote.ensures

pub retreat-requires-clause-may : goal.retreat-requires-clause-may
retreat-requires-clause-may g c = subst (λ (action : Action). CanPerform action c.args.self.now) c.in-Retreat.is c.requires.may

pub returns-in-Retreat : goal.returns-in-Retreat
returns-in-Retreat g c = rw c.in-Retreat.is c.retreat.ensures

pub evict-requires-clause-may : goal.evict-requires-clause-may
evict-requires-clause-may g c = subst (λ (action : Action). CanPerform action c.args.self.now) c.in-Evict.is c.requires.may

pub returns-in-Evict : goal.returns-in-Evict
returns-in-Evict g c = rw c.in-Evict.is c.evict.ensures

pub collect-requires-clause-may : goal.collect-requires-clause-may
collect-requires-clause-may g c = subst (λ (action : Action). CanPerform action c.args.self.now) c.in-Collect.is c.requires.may

pub returns-in-Collect : goal.returns-in-Collect
returns-in-Collect g c = rw c.in-Collect.is c.collect.ensures

pub drain-requires-clause-may : goal.drain-requires-clause-may
drain-requires-clause-may g c = subst (λ (action : Action). CanPerform action c.args.self.now) c.in-Drain.is c.requires.may

pub returns-in-Drain : goal.returns-in-Drain
returns-in-Drain g c = rw c.in-Drain.is c.drain.ensures
