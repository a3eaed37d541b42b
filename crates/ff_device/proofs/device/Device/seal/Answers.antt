use Rattle.std.proofs.Common.{inl, inr, refl}
use Rattle.ff_device.specs.Parts.{Parts}
use Rattle.ff_device.specs.StoreState.{seen_of}
use Rattle.ff_device.proofs.StoreCalls.{limits_of}
use Rattle.ff_device.proofs.Sealing.{sealed_held, sealing_sound}
use Rattle.ff_device.proofs.Stopping.{stopped_sound}
use Rattle.ff_device.proofs.device.Device.seal.Goals as goal

pub end_flush-requires : goal.end_flush-requires
end_flush-requires g c =
    let old : Parts = record { store = seen_of c.self.inside.store; cache = c.self.inside.cache; window = c.self.inside.window } in
    sealed_held old c.in-Ok-Sealed.page.0 (seen_of c.seal_step.new.store) c.self.invariant (rw c.in-Ok-Sealed.field-0-is at c.in-Ok-Sealed.ensures.step)

pub invariant_of-self : goal.invariant_of-self
invariant_of-self g c =
    let old : Parts = record { store = seen_of c.self.inside.store; cache = c.self.inside.cache; window = c.self.inside.window } in
    let new : Parts = record { store = seen_of c.seal_step.new.store; cache = c.end_flush.new.cache; window = c.self.inside.window } in
    sealing_sound c.in-Ok-Sealed.page.0 old new (record {
      sound = c.self.invariant;
      cache = c.known.ensures;
      store = c.store_known.ensures.seen;
      seals = rw c.in-Ok-Sealed.field-0-is at c.in-Ok-Sealed.ensures.step;
      ends = c.end_flush.ensures;
      window = refl;
      capacity = (limits_of _ _ _ c.in-Ok-Sealed.ensures.calls).capacity;
    })

pub invariant_of-self-in-Err-Off : goal.invariant_of-self-in-Err-Off
invariant_of-self-in-Err-Off g c =
    let old : Parts = record { store = seen_of c.self.inside.store; cache = c.self.inside.cache; window = c.self.inside.window } in
    let step = rw c.in-Err-Off.field-0-is at c.in-Err-Off.ensures.step in
    stopped_sound old (seen_of c.seal_step.new.store) c.self.invariant step.0 (limits_of _ _ _ c.in-Err-Off.ensures.calls).capacity (inr step.1)

pub invariant_of-self-in-Err-Failed : goal.invariant_of-self-in-Err-Failed
invariant_of-self-in-Err-Failed g c =
    let old : Parts = record { store = seen_of c.self.inside.store; cache = c.self.inside.cache; window = c.self.inside.window } in
    let step = rw c.in-Err-Failed.field-0-is at c.in-Err-Failed.ensures.step in
    stopped_sound old (seen_of c.seal_step.new.store) c.self.invariant step.0 (limits_of _ _ _ c.in-Err-Failed.ensures.calls).capacity (inl step.1)

pub returns-in-Ok-Sealed-clause-row : goal.returns-in-Ok-Sealed-clause-row
returns-in-Ok-Sealed-clause-row g c = rw (← c.self.view_is) (record {
  page = c.in-Ok-Sealed.page.0;
  sealed = rw c.in-Ok-Sealed.field-0-is at c.in-Ok-Sealed.ensures.step;
  cache = c.end_flush.ensures;
  window = refl;
})

pub returns-in-Ok-Sealed-clause-calls : goal.returns-in-Ok-Sealed-clause-calls
returns-in-Ok-Sealed-clause-calls g c = rw (← c.self.view_is) c.in-Ok-Sealed.ensures.calls

pub returns-in-Err-Failed-clause-row : goal.returns-in-Err-Failed-clause-row
returns-in-Err-Failed-clause-row g c =
    let step = rw c.in-Err-Failed.field-0-is at c.in-Err-Failed.ensures.step in
    rw (← c.self.view_is) (record { cache = refl; window = refl; pages = step.0 }, step.1)

pub returns-in-Err-Failed-clause-calls : goal.returns-in-Err-Failed-clause-calls
returns-in-Err-Failed-clause-calls g c = rw (← c.self.view_is, ← c.in-Err-Failed.field-0-is) c.in-Err-Failed.ensures.calls

pub returns-in-Err-Off-clause-row : goal.returns-in-Err-Off-clause-row
returns-in-Err-Off-clause-row g c =
    let step = rw c.in-Err-Off.field-0-is at c.in-Err-Off.ensures.step in
    rw (← c.self.view_is) (record { cache = refl; window = refl; pages = step.0 }, step.1)

pub returns-in-Err-Off-clause-calls : goal.returns-in-Err-Off-clause-calls
returns-in-Err-Off-clause-calls g c = rw (← c.self.view_is, ← c.in-Err-Off.field-0-is) c.in-Err-Off.ensures.calls
