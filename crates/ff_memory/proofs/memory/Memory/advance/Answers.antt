use Rattle.std.proofs.Common.{subst}
use Rattle.ff_memory.specs.Memory.{MemoryView}
use Rattle.ff_plb.specs.Plb.{HasEntry}
use Rattle.ff_memory.proofs.Flights.{entry-ready}
use Rattle.ff_memory.proofs.Steps.{advanced-located, advanced-lines}
use Rattle.ff_memory.proofs.memory.Memory.advance.Goals as goal

pub step-requires : goal.step-requires
step-requires g c =
    let has = subst (λ (m : MemoryView). HasEntry m.slots c.args.slot c.entry-entry.result) c.self.view_is c.entry-entry.ensures in
    entry-ready _ _ c.args.slot _ record {
      sound = c.known.ensures;
      device = c.resident.ensures.known;
      located = c.requires.located;
      has = has;
    }

pub returns-clause-located : goal.returns-clause-located
returns-clause-located g c =
    let has = subst (λ (m : MemoryView). HasEntry m.slots c.args.slot c.entry-entry.result) c.self.view_is c.entry-entry.ensures in
    advanced-located c.step.result c.args.self.now (g.D.LineDevice.state c.args.d.now) c.args.slot c.entry-entry.result c.step.new.self
    (g.D.LineDevice.state c.step.new.d)
    record {
      sound = c.known.ensures;
      device = c.resident.ensures.known;
      located = c.requires.located;
      has = has;
    }
    c.step.ensures.step

pub returns-clause-lines : goal.returns-clause-lines
returns-clause-lines g c =
    let has = subst (λ (m : MemoryView). HasEntry m.slots c.args.slot c.entry-entry.result) c.self.view_is c.entry-entry.ensures in
    advanced-lines c.step.result c.args.self.now (g.D.LineDevice.state c.args.d.now) c.args.slot c.entry-entry.result c.step.new.self
    (g.D.LineDevice.state c.step.new.d)
    record {
      sound = c.known.ensures;
      device = c.resident.ensures.known;
      located = c.requires.located;
      has = has;
    }
    c.step.ensures.step
