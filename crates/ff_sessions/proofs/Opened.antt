-- For what a session has room when it begins.
use Rattle.std.proofs.Common.{◌≡◌, ℕ, List, length, refl, sym, ap, subst, arith}
use Rattle.ff_base.specs.Geometry.{IsWithinLimits}
use Rattle.ff_base.specs.declared.geometry.Geometry.{Geometry}
use Rattle.ff_cache.specs.Cache.{CacheView}
use Rattle.ff_core.specs.Account.{Start}
use Rattle.ff_core.specs.Core.{CoreView}
use Rattle.ff_core.specs.Fresh.{fresh_core}
use Rattle.ff_core.specs.Resume.{CanResume, resumed_core}
use Rattle.ff_core.specs.declared.core_state.Room.{Room}
use Rattle.ff_evict.specs.Picker.{PickerView}
use Rattle.ff_flash.specs.FlashState.{FlashState}
use Rattle.ff_flash.specs.SimFlash.{IsSimFlashSound, told_plan}
use Rattle.ff_model.specs.Image.{Content}
use Rattle.ff_policy.specs.Tuner.{TunerView}
use Rattle.ff_store.specs.PageStore.{IsStoreSound, PageStoreView}
use Rattle.ff_trace.specs.Within.{turns_asked}
use Rattle.ff_trace.specs.declared.row.Row.{Row}
use Rattle.ff_sessions.proofs.Asked.{room_for_all, room_for_left}
use Rattle.ff_sessions.specs.Begun.{IsBegun, resumed_start}
use Rattle.ff_sessions.specs.Items.{items_of}
use Rattle.ff_sessions.specs.Making.{HasRoomFor}
use Rattle.ff_sessions.specs.Sessions.{setup_with}
use Rattle.ff_sessions.specs.Stops.{items_from}

-- a first session with room for these rows
pub first_room : {T E : Type 0} (g : Geometry) (flash : FlashState) (tuner : TunerView T) (picker : PickerView E) (room : Room)
    (core : CoreView T E) (rows : List Row) → room.calls ≡ length rows → room.turns ≡ turns_asked rows
    → core ≡ fresh_core flash g tuner picker room → HasRoomFor core (items_of rows)
first_room {T} {E} g flash tuner picker room core rows calls turns is =
    subst (λ (c : CoreView T E). HasRoomFor c (items_of rows)) (sym is)
    (room_for_all (fresh_core flash g tuner picker room) rows (omega arith) (omega arith))

-- a later session, also where some turns of the first row were made
pub next_room : {T E : Type 0} (g : Geometry) (store : PageStoreView) (cache : CacheView) (marks : List ℕ) (base : Content)
    (tuner : TunerView T) (picker : PickerView E) (room : Room) (event : ℕ) (core : CoreView T E) (rows : List Row)
    → room.calls ≡ length rows → room.turns ≡ turns_asked rows
    → core ≡ resumed_core store cache marks base g tuner picker room event → (made : ℕ) → HasRoomFor core (items_from made rows)
next_room {T} {E} g store cache marks base tuner picker room event core rows calls turns is made =
    subst (λ (c : CoreView T E). HasRoomFor c (items_from made rows)) (sym is)
    (room_for_left (resumed_core store cache marks base g tuner picker room event) rows (omega arith) (omega arith) made)

-- a later session has begun
pub next_begun : {T E : Type 0} (g : Geometry) (store : PageStoreView) (cache : CacheView) (marks : List ℕ) (base : Content)
    (tuner : TunerView T) (picker : PickerView E) (room : Room) (event : ℕ) (core : CoreView T E) → IsWithinLimits g
    → CanResume g store cache marks event → IsStoreSound store → IsSimFlashSound store.world.flash
    → core ≡ resumed_core store cache marks base g tuner picker room event
    → IsBegun (setup_with g (told_plan store.world.flash) tuner.floor) (resumed_start base event store.world.flash) core
next_begun {T} {E} g store cache marks base tuner picker room event core limits parts sound flash is =
    let next : CoreView T E = resumed_core store cache marks base g tuner picker room event in
    let setup = setup_with g (told_plan store.world.flash) tuner.floor in
    let start : Start = resumed_start base event store.world.flash in
    let begun : IsBegun setup start next = record {
      limits = limits;
      geometry = refl;
      floor = refl;
      start_is = ap (λ (operations : ℕ). record start { operations = operations }) sound.counted;
      age = refl;
      calls = refl;
      turns = refl;
      plan = flash.told;
      on = parts.on;
    } in
    subst (λ (c : CoreView T E). IsBegun setup start c) (sym is) begun
