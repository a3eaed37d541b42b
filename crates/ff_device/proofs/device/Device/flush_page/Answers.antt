use Rattle.std.proofs.Common.{inl, inr, refl, sym}
use Rattle.ff_device.specs.Parts.{Parts}
use Rattle.ff_device.specs.StoreState.{seen_of}
use Rattle.ff_device.proofs.StoreCalls.{limits_of}
use Rattle.ff_device.proofs.Stopping.{stopped_sound}
use Rattle.ff_device.proofs.Programming.{dirty_held, dirty_in_range, dirty_room, programming_sound, IsDirtySlot}
use Rattle.ff_device.proofs.device.Device.flush_page.Goals as goal

pub flush_step-requires-clause-page : goal.flush_step-requires-clause-page
flush_step-requires-clause-page g c =
    let old : Parts = record { store = seen_of c.self.inside.store; cache = c.self.inside.cache; window = c.self.inside.window } in
    let dirty : IsDirtySlot c.args.slot c.args.page old = record {
      sound = c.self.invariant;
      cache = c.known.ensures;
      within = rw (← c.self.view_is) at c.requires.slot;
      is = rw (← c.self.view_is) at c.requires.held;
      dirty = rw (← c.self.view_is) at c.requires.dirty;
    } in
    dirty_in_range c.args.slot c.args.page old dirty

pub flush_step-requires-clause-room : goal.flush_step-requires-clause-room
flush_step-requires-clause-room g c =
    let old : Parts = record { store = seen_of c.self.inside.store; cache = c.self.inside.cache; window = c.self.inside.window } in
    let dirty : IsDirtySlot c.args.slot c.args.page old = record {
      sound = c.self.invariant;
      cache = c.known.ensures;
      within = rw (← c.self.view_is) at c.requires.slot;
      is = rw (← c.self.view_is) at c.requires.held;
      dirty = rw (← c.self.view_is) at c.requires.dirty;
    } in
    dirty_room c.args.slot c.args.page old dirty

pub begin_flush-requires : goal.begin_flush-requires
begin_flush-requires g c =
    let old : Parts = record { store = seen_of c.self.inside.store; cache = c.self.inside.cache; window = c.self.inside.window } in
    let dirty : IsDirtySlot c.args.slot c.args.page old = record {
      sound = c.self.invariant;
      cache = c.known.ensures;
      within = rw (← c.self.view_is) at c.requires.slot;
      is = rw (← c.self.view_is) at c.requires.held;
      dirty = rw (← c.self.view_is) at c.requires.dirty;
    } in
    dirty_held c.args.slot c.args.page old dirty

pub invariant_of-self : goal.invariant_of-self
invariant_of-self g c =
    let old : Parts = record { store = seen_of c.self.inside.store; cache = c.self.inside.cache; window = c.self.inside.window } in
    let dirty : IsDirtySlot c.args.slot c.args.page old = record {
      sound = c.self.invariant;
      cache = c.known.ensures;
      within = rw (← c.self.view_is) at c.requires.slot;
      is = rw (← c.self.view_is) at c.requires.held;
      dirty = rw (← c.self.view_is) at c.requires.dirty;
    } in
    let new : Parts = record { store = seen_of c.flush_step.new.store; cache = c.begin_flush.new.cache; window = c.self.inside.window } in
    programming_sound c.args.slot c.args.page old new (record {
      slot_is = dirty;
      begins = c.begin_flush.ensures;
      window = refl;
      pages = c.in-Ok-Programmed.ensures.pages;
      capacity = (limits_of _ _ _ c.in-Ok-Programmed.ensures.calls).capacity;
      pending = rw (sym c.copy_out.ensures) (rw c.in-Ok-Programmed.field-0-is at c.in-Ok-Programmed.ensures.step);
    })

pub invariant_of-self-in-Ok-Collected : goal.invariant_of-self-in-Ok-Collected
invariant_of-self-in-Ok-Collected g c =
    let old : Parts = record { store = seen_of c.self.inside.store; cache = c.self.inside.cache; window = c.self.inside.window } in
    let step = rw c.in-Ok-Collected.field-0-is at c.in-Ok-Collected.ensures.step in
    stopped_sound old (seen_of c.flush_step.new.store) c.self.invariant c.in-Ok-Collected.ensures.pages (limits_of _ _ _ c.in-Ok-Collected.ensures.calls).capacity (inl step.0)

pub invariant_of-self-in-Err-Failed : goal.invariant_of-self-in-Err-Failed
invariant_of-self-in-Err-Failed g c =
    let old : Parts = record { store = seen_of c.self.inside.store; cache = c.self.inside.cache; window = c.self.inside.window } in
    stopped_sound old (seen_of c.flush_step.new.store) c.self.invariant c.in-Err-Failed.ensures.pages (limits_of _ _ _ c.in-Err-Failed.ensures.calls).capacity (inl c.in-Err-Failed.ensures.step)

pub invariant_of-self-in-Err-Off : goal.invariant_of-self-in-Err-Off
invariant_of-self-in-Err-Off g c =
    let old : Parts = record { store = seen_of c.self.inside.store; cache = c.self.inside.cache; window = c.self.inside.window } in
    stopped_sound old (seen_of c.flush_step.new.store) c.self.invariant c.in-Err-Off.ensures.pages (limits_of _ _ _ c.in-Err-Off.ensures.calls).capacity (inl c.in-Err-Off.ensures.step)

pub returns-in-Ok-Programmed-clause-row : goal.returns-in-Ok-Programmed-clause-row
returns-in-Ok-Programmed-clause-row g c = inl (record {
  page = c.args.page;
  held = c.requires.held;
  cache = rw (← c.self.view_is) c.begin_flush.ensures;
  window = rw (← c.self.view_is) refl;
  pages = rw (← c.self.view_is) c.in-Ok-Programmed.ensures.pages;
  pending = rw (← c.self.view_is, sym c.copy_out.ensures) (rw c.in-Ok-Programmed.field-0-is at c.in-Ok-Programmed.ensures.step);
})

pub returns-in-Ok-Programmed-clause-calls : goal.returns-in-Ok-Programmed-clause-calls
returns-in-Ok-Programmed-clause-calls g c = rw (← c.self.view_is) c.in-Ok-Programmed.ensures.calls

pub returns-in-Ok-Collected-clause-row : goal.returns-in-Ok-Collected-clause-row
returns-in-Ok-Collected-clause-row g c =
    let step = rw c.in-Ok-Collected.field-0-is at c.in-Ok-Collected.ensures.step in
    rw (← c.self.view_is) (inr (record { same = record { cache = refl; window = refl; pages = c.in-Ok-Collected.ensures.pages }; pending = step.0; fewer = step.1 }))

pub returns-in-Ok-Collected-clause-calls : goal.returns-in-Ok-Collected-clause-calls
returns-in-Ok-Collected-clause-calls g c = rw (← c.self.view_is) c.in-Ok-Collected.ensures.calls

pub returns-in-Err-Failed-clause-row : goal.returns-in-Err-Failed-clause-row
returns-in-Err-Failed-clause-row g c =
    rw (← c.self.view_is) (record { cache = refl; window = refl; pages = c.in-Err-Failed.ensures.pages }, c.in-Err-Failed.ensures.step)

pub returns-in-Err-Failed-clause-calls : goal.returns-in-Err-Failed-clause-calls
returns-in-Err-Failed-clause-calls g c = rw (← c.self.view_is, ← c.in-Err-Failed.field-0-is) c.in-Err-Failed.ensures.calls

pub returns-in-Err-Off-clause-row : goal.returns-in-Err-Off-clause-row
returns-in-Err-Off-clause-row g c =
    rw (← c.self.view_is) (record { cache = refl; window = refl; pages = c.in-Err-Off.ensures.pages }, c.in-Err-Off.ensures.step)

pub returns-in-Err-Off-clause-calls : goal.returns-in-Err-Off-clause-calls
returns-in-Err-Off-clause-calls g c = rw (← c.self.view_is, ← c.in-Err-Off.field-0-is) c.in-Err-Off.ensures.calls
