use Rattle.std.proofs.Common.{refl}
use Rattle.ff_device.specs.Parts.{Parts}
use Rattle.ff_device.specs.StoreState.{seen_of}
use Rattle.ff_device.specs.Changes.{slot_after}
use Rattle.ff_device.specs.Device.{lines_in, parts_of, DeviceView}
use Rattle.ff_device.proofs.Drained.{drains_empty, frames_same, none_waiting, same_window}
use Rattle.ff_device.proofs.Frames.{own_kept}
use Rattle.ff_device.proofs.Laying.{laying_drains, laying_frames, laying_sound, oldest_held, oldest_post}
use Rattle.ff_device.proofs.device.Device.drain_one.Goals as goal

pub invariant_of-self : goal.invariant_of-self
invariant_of-self g c =
    let old : Parts = record { store = seen_of c.self.inside.store; cache = c.self.inside.cache; window = c.self.inside.window } in
    let new : Parts = record { store = seen_of c.self.inside.store; cache = c.lay.new.cache; window = c.pop.new.self } in
    laying_sound c.in-Some.post old new (record {
      sound = c.self.invariant;
      cache = c.known.ensures;
      lays = c.lay.ensures;
      posts = c.in-Some.ensures.posts;
      room = c.in-Some.ensures.room;
      store = refl;
    })

pub returns-in-Some-clause-drained : goal.returns-in-Some-clause-drained
returns-in-Some-clause-drained g c =
    let old : Parts = record { store = seen_of c.self.inside.store; cache = c.self.inside.cache; window = c.self.inside.window } in
    let new : Parts = record { store = seen_of c.self.inside.store; cache = c.lay.new.cache; window = c.pop.new.self } in
    rw (← c.self.view_is) (laying_drains c.in-Some.post old new (record {
      sound = c.self.invariant;
      cache = c.known.ensures;
      lays = c.lay.ensures;
      posts = c.in-Some.ensures.posts;
      room = c.in-Some.ensures.room;
      store = refl;
    }))

pub returns-in-Some-clause-own : goal.returns-in-Some-clause-own
returns-in-Some-clause-own g c =
    let old : DeviceView = record { store = c.self.inside.store; cache = c.self.inside.cache; window = c.self.inside.window } in
    let new : DeviceView = record { store = c.self.inside.store; cache = c.lay.new.cache; window = c.pop.new.self } in
    rw (← c.self.view_is) (own_kept c.in-Some.post.page.0 (slot_after c.in-Some.post) old new c.lay.ensures (λ slot. refl) refl
    c.in-Some.ensures.room)

pub lay-requires-clause-held : goal.lay-requires-clause-held
lay-requires-clause-held g c =
    oldest_held c.in-Some.post c.pop.new.self.posts (parts_of (record { store = c.self.inside.store; cache = c.self.inside.cache; window = c.self.inside.window }))
    c.self.invariant c.in-Some.ensures.posts

pub lay-requires-clause-post : goal.lay-requires-clause-post
lay-requires-clause-post g c = oldest_post c.in-Some.post c.pop.new.self.posts c.self.inside.window.posts c.self.invariant.posts c.in-Some.ensures.posts

pub invariant_of-self-in-None : goal.invariant_of-self-in-None
invariant_of-self-in-None g c = rw (same_window c.self.inside.window c.pop.new.self c.in-None.ensures.posts c.in-None.ensures.room) c.self.invariant

pub returns-in-Some-clause-frames : goal.returns-in-Some-clause-frames
returns-in-Some-clause-frames g c = rw (← c.self.view_is) (laying_frames c.in-Some.post c.self.inside.cache c.lay.new.cache c.lay.ensures)

pub returns-in-None-clause-drained : goal.returns-in-None-clause-drained
returns-in-None-clause-drained g c =
    let old : DeviceView = record { store = c.self.inside.store; cache = c.self.inside.cache; window = c.self.inside.window } in
    rw (← c.self.view_is, same_window c.self.inside.window c.pop.new.self c.in-None.ensures.posts c.in-None.ensures.room)
    (drains_empty (lines_in old) (none_waiting c.self.inside.window.posts c.in-None.ensures.found.1))

pub returns-in-None-clause-own : goal.returns-in-None-clause-own
returns-in-None-clause-own g c =
    rw (← c.self.view_is, same_window c.self.inside.window c.pop.new.self c.in-None.ensures.posts c.in-None.ensures.room) refl

pub returns-in-None-clause-frames : goal.returns-in-None-clause-frames
returns-in-None-clause-frames g c = rw (← c.self.view_is) (frames_same c.self.inside.cache)
