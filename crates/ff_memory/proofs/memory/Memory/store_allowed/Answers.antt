use Rattle.std.proofs.Common.{◌≡◌, Option, None, ap, subst}
use Rattle.ff_memory.specs.LineBytes.{store_frame_for}
use Rattle.ff_memory.specs.Memory.{MemoryView, entry_at, home_at}
use Rattle.ff_plb.specs.declared.slot.Slot.{Slot}
use Rattle.ff_memory.proofs.Flights.{entry-ready}
use Rattle.ff_memory.proofs.Rooms.{has-room}
use Rattle.ff_memory.proofs.memory.Memory.store_allowed.Goals as goal

pub store_at_rest-requires-clause-room : goal.store_at_rest-requires-clause-room
store_at_rest-requires-clause-room g c =
    let is = c.requires in has-room c.args.self.now _ c.args.at.page.0 is.sound.table_sound is.located is.within is.allowed

pub store_in_flight-requires-clause-room : goal.store_in_flight-requires-clause-room
store_in_flight-requires-clause-room g c =
    let is = c.requires in has-room c.args.self.now _ c.args.at.page.0 is.sound.table_sound is.located is.within is.allowed

pub store_in_flight-requires-clause-ready : goal.store_in_flight-requires-clause-ready
store_in_flight-requires-clause-ready g c entry has =
    let is = c.requires in
    entry-ready c.args.self.now _ _ entry record { sound = is.sound; device = is.device; located = is.located; has = has }

pub returns-in-None-clause-store : goal.returns-in-None-clause-store
returns-in-None-clause-store g c =
    let m = c.args.self.now in
    let none = subst (λ (n : MemoryView). entry_at n c.args.at.page.0 ≡ None) c.self.view_is c.in-None.ensures in
    let storing = ap (λ (entry : Option Slot). store_frame_for (home_at m c.args.at.page.0) entry c.args.at.line) none in
    rw storing c.store_at_rest.ensures.store

pub returns-in-Some-clause-store : goal.returns-in-Some-clause-store
returns-in-Some-clause-store g c = c.store_in_flight.ensures.store
