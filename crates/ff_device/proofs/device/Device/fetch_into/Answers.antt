use Rattle.std.proofs.Common.{ap, inr, refl, sym}
use Rattle.ff_cache.specs.Slots.{cache_slot_at}
use Rattle.ff_device.specs.Parts.{Parts}
use Rattle.ff_device.specs.StoreState.{seen_of}
use Rattle.ff_device.proofs.StoreCalls.{limits_of}
use Rattle.ff_device.proofs.Fetches.{fetching_sound, goes_unpinned}
use Rattle.ff_device.proofs.Stopping.{stopped_sound}
use Rattle.ff_device.proofs.device.Device.fetch_into.Goals as goal

pub invariant_of-self : goal.invariant_of-self
invariant_of-self g c =
    let old : Parts = record { store = seen_of c.self.inside.store; cache = c.self.inside.cache; window = c.self.inside.window } in
    let new : Parts = record { store = seen_of c.fetch.new.store; cache = c.put.new.self; window = c.self.inside.window } in
    let absent = rw (← c.self.view_is) at c.requires.absent in
    let in_set = rw (← c.self.view_is) at c.requires.in_set in
    let clean = rw (← c.self.view_is) at c.requires.clean in
    let goes = rw (← c.self.view_is) at c.requires.goes in
    let idle = rw (← c.self.view_is) at c.requires.idle in
    let in_range = rw (← c.self.view_is) at c.requires.page in
    fetching_sound c.args.page.0 c.args.slot old new (record {
      sound = c.self.invariant;
      cache = c.known.ensures;
      in_range = in_range;
      absent = absent;
      in_set = in_set;
      clean = clean;
      goes = goes;
      idle = idle;
      fetched = record { cache = rw (sym c.in-Ok.ensures.bytes) c.put.ensures; window = refl; pages = c.in-Ok.ensures.pages; pending = c.in-Ok.ensures.pending; unmapped = λ none. ap seen_of (c.in-Ok.ensures.unmapped none) };
      capacity = (limits_of _ _ _ c.in-Ok.ensures.calls).capacity;
    })

pub invariant_of-self-in-Err-Failed : goal.invariant_of-self-in-Err-Failed
invariant_of-self-in-Err-Failed g c =
    let old : Parts = record { store = seen_of c.self.inside.store; cache = c.self.inside.cache; window = c.self.inside.window } in
    stopped_sound old (seen_of c.fetch.new.store) c.self.invariant c.in-Err-Failed.ensures.pages (limits_of _ _ _ c.in-Err-Failed.ensures.calls).capacity
    (inr c.in-Err-Failed.ensures.pending)

pub invariant_of-self-in-Err-Off : goal.invariant_of-self-in-Err-Off
invariant_of-self-in-Err-Off g c =
    let old : Parts = record { store = seen_of c.self.inside.store; cache = c.self.inside.cache; window = c.self.inside.window } in
    stopped_sound old (seen_of c.fetch.new.store) c.self.invariant c.in-Err-Off.ensures.pages (limits_of _ _ _ c.in-Err-Off.ensures.calls).capacity
    (inr c.in-Err-Off.ensures.pending)

pub put-requires-clause-slot : goal.put-requires-clause-slot
put-requires-clause-slot g c = rw (← c.self.view_is) at c.requires.in_set

pub put-requires-clause-clean : goal.put-requires-clause-clean
put-requires-clause-clean g c = rw (← c.self.view_is) at c.requires.clean

pub put-requires-clause-unpinned : goal.put-requires-clause-unpinned
put-requires-clause-unpinned g c =
    goes_unpinned c.self.inside.window.posts (cache_slot_at c.self.inside.cache.slots c.args.slot) (rw (← c.self.view_is) at c.requires.goes)

pub put-requires-clause-absent : goal.put-requires-clause-absent
put-requires-clause-absent g c = rw (← c.self.view_is) at c.requires.absent

pub returns-in-Ok-clause-row : goal.returns-in-Ok-clause-row
returns-in-Ok-clause-row g c = rw (← c.self.view_is) (record {
  cache = rw (sym c.in-Ok.ensures.bytes) c.put.ensures;
  window = refl;
  pages = c.in-Ok.ensures.pages;
  pending = c.in-Ok.ensures.pending;
  unmapped = λ none. ap seen_of (c.in-Ok.ensures.unmapped none);
})

pub returns-in-Ok-clause-calls : goal.returns-in-Ok-clause-calls
returns-in-Ok-clause-calls g c = rw (← c.self.view_is) c.in-Ok.ensures.calls

pub returns-in-Err-Failed-clause-row : goal.returns-in-Err-Failed-clause-row
returns-in-Err-Failed-clause-row g c =
    rw (← c.self.view_is) (record { cache = refl; window = refl; pages = c.in-Err-Failed.ensures.pages }, c.in-Err-Failed.ensures.pending)

pub returns-in-Err-Failed-clause-calls : goal.returns-in-Err-Failed-clause-calls
returns-in-Err-Failed-clause-calls g c = rw (← c.self.view_is, ← c.in-Err-Failed.field-0-is) c.in-Err-Failed.ensures.calls

pub returns-in-Err-Off-clause-row : goal.returns-in-Err-Off-clause-row
returns-in-Err-Off-clause-row g c =
    rw (← c.self.view_is) (record { cache = refl; window = refl; pages = c.in-Err-Off.ensures.pages }, c.in-Err-Off.ensures.pending)

pub returns-in-Err-Off-clause-calls : goal.returns-in-Err-Off-clause-calls
returns-in-Err-Off-clause-calls g c = rw (← c.self.view_is, ← c.in-Err-Off.field-0-is) c.in-Err-Off.ensures.calls
