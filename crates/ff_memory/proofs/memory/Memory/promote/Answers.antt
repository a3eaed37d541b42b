use Rattle.std.proofs.Common.{◌≡◌, ◌∙◌, None, ap, subst, sym}
use Rattle.ff_memory.specs.Memory.{MemoryView, slot_set}
use Rattle.ff_plb.specs.Plb.{IsEmpty, IsLeastEmpty, entry_of}
use Rattle.ff_memory.proofs.memory.Memory.promote.Goals as goal

pub pin-requires : goal.pin-requires
pin-requires g c = c.drain_all.ensures.drained.residence.resident c.args.page.0 ∙ c.requires.resident

pub begin-requires-clause-page : goal.begin-requires-clause-page
begin-requires-clause-page g c =
    let taken = c.self-2.view_is ∙ c.take_frame-frame.ensures.memory in
    subst (λ (m : MemoryView). entry_of m.slots c.args.page.0 ≡ None) (sym taken) c.requires.at_rest

pub begin-requires-clause-empty : goal.begin-requires-clause-empty
begin-requires-clause-empty g c =
    let taken = c.self-2.view_is ∙ c.take_frame-frame.ensures.memory in
    let slot = c.least_empty-slot.result in
    subst (λ (m : MemoryView). IsEmpty m.slots slot) (sym taken)
    (subst (λ (m : MemoryView). IsEmpty m.slots slot) c.self.view_is c.least_empty-slot.ensures.has)

pub returns-clause-step : goal.returns-clause-step
returns-clause-step g c = record {
  frame = c.take_frame-frame.result;
  slot = c.least_empty-slot.result;
  least_frame = c.take_frame-frame.ensures.least;
  least_slot = subst (λ (m : MemoryView). IsLeastEmpty m.slots c.least_empty-slot.result) c.self.view_is c.least_empty-slot.ensures;
  memory = rw c.begin.ensures (ap (slot_set c.least_empty-slot.result _) (c.self-2.view_is ∙ c.take_frame-frame.ensures.memory));
  device = record {
    mid = g.D.LineDevice.state c.drain_all.new.self;
    drained = c.drain_all.ensures.drained;
    pinned = c.pin.ensures.pinned;
  };
}
