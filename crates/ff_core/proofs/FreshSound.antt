-- A first session is sound.
use Rattle.std.proofs.Common.{◌≡◌, ◌≤◌, ◌<◌, ◌-◌, ◌*◌, ◌^◌, ℕ, Option, None, replicate, refl, sym, ap, ◌∙◌, subst, arith}
use Rattle.std.proofs.lemmas.List.{length-map, length-replicate}
use Rattle.ff_base.specs.Geometry.{IsWithinLimits}
use Rattle.ff_base.specs.declared.geometry.Geometry.{Geometry}
use Rattle.ff_cache.specs.declared.slot.CacheSlot.{CacheSlot}
use Rattle.ff_calls.proofs.ToldFresh.{IsFreshDevice, told-fresh, zero-line_or_blank}
use Rattle.ff_evict.specs.Picker.{PickerView}
use Rattle.ff_flash.specs.FlashState.{FlashState}
use Rattle.ff_frames.specs.Frame.{free_frame}
use Rattle.ff_map.specs.declared.places.Mapping.{Mapping}
use Rattle.ff_model.specs.Image.{empty_content}
use Rattle.ff_model.specs.Legal.{opening_of}
use Rattle.ff_policy.specs.Tuner.{TunerView}
use Rattle.ff_space.specs.Blocks.{erased_block}
use Rattle.ff_device.specs.Device.{lines_in, parts_of}
use Rattle.ff_device.specs.Parts.{Parts, cached, slot_passes}
use Rattle.ff_device.specs.StoreState.{bytes_at, stored_in}
use Rattle.ff_core.specs.Core.{CoreView}
use Rattle.ff_core.specs.CoreSound.{IsCoreSound, IsCounted, IsSized, IsTimed}
use Rattle.ff_core.specs.Fresh.{IsFreshFlash, fresh_core, fresh_device}
use Rattle.ff_core.specs.declared.core_state.Room.{Room}
use Rattle.ff_core.proofs.Beginning.{none-held, none-stored}

-- the parts of a device over an erased flash
abbrev fresh_parts : FlashState → Geometry → Parts
fresh_parts flash g = parts_of (fresh_device flash g)

cached-none : (flash : FlashState) (g : Geometry) (page : ℕ) → cached (fresh_parts flash g) page ≡ None
cached-none flash g page = none-held (g.sets * g.ways) page

unstored : (flash : FlashState) (g : Geometry) (page : ℕ) → stored_in (fresh_parts flash g).store page ≡ None
unstored flash g page = none-stored g.pages page flash.cells

fresh-device : (flash : FlashState) (g : Geometry)
    → IsFreshDevice (opening_of (empty_content g.pages) g 0 flash.faults) (lines_in (fresh_device flash g))
fresh-device flash g = record {
  posts = refl;
  below = λ page line i.
      let none = cached-none flash g page in
      let bare = unstored flash g page in
      rw (none, bare) (zero-line_or_blank line i);
  pinned = λ page. ap (λ (slot : Option CacheSlot). slot_passes (λ s. s.pinned) slot) (cached-none flash g page);
  written = λ page.
      let none = cached-none flash g page in
      let bare = unstored flash g page in
      rw (none, bare) refl;
  room = ap (λ (blocks : ℕ). (blocks - 1) * g.per_block - 1) (length-replicate g.blocks erased_block);
  pages = length-map (replicate g.pages None) (λ (m : Option Mapping). bytes_at flash.cells m)
      ∙ length-replicate g.pages None;
}

fresh-sized : {T E : Type 0} (flash : FlashState) (g : Geometry) (tuner : TunerView T) (picker : PickerView E) (room : Room)
    → IsWithinLimits g → room.calls < 2 ^ 32 → room.turns < 2 ^ 32 → IsSized (fresh_core flash g tuner picker room)
fresh-sized flash g tuner picker room limits calls turns = record {
  limits = limits;
  pages = refl;
  capacity = refl;
  window = refl;
  steps = omega arith;
  sets = refl;
  ways = refl;
  counters = length-replicate g.pages 0;
  frames = length-replicate g.frames free_frame;
  slots = length-replicate g.plb None;
  hand = λ some. some;
  few_calls = calls;
  few_turns = turns;
}

fresh-timed : {T E : Type 0} (flash : FlashState) (g : Geometry) (tuner : TunerView T) (picker : PickerView E) (room : Room)
    → flash.operations ≤ 2 ^ 62 → IsTimed (fresh_core flash g tuner picker room)
fresh-timed flash g tuner picker room few = record {
  next = omega arith;
  from_on = omega arith;
  not_past = omega arith;
  few = omega arith;
  on = λ on. omega arith;
  off = omega arith;
}

fresh-counted : {T E : Type 0} (flash : FlashState) (g : Geometry) (tuner : TunerView T) (picker : PickerView E) (room : Room)
    → IsCounted (fresh_core flash g tuner picker room)
fresh-counted flash g tuner picker room = record {
  served = refl;
  promotions = refl;
  paid = refl;
  accesses = refl;
  hits = omega arith;
  moves = omega arith;
  faults = omega arith;
  planned = λ some. omega arith;
  kinds = record { reads = omega arith; programs = omega arith; seals = omega arith; erases = omega arith };
}

-- a first session
pub fresh-sound : {T E : Type 0} (flash : FlashState) (g : Geometry) (tuner : TunerView T) (picker : PickerView E) (room : Room)
    → IsWithinLimits g → flash.operations ≤ 2 ^ 62 → room.calls < 2 ^ 32 → room.turns < 2 ^ 32
    → IsCoreSound (fresh_core flash g tuner picker room)
fresh-sound flash g tuner picker room limits few calls turns = record {
  sized = fresh-sized flash g tuner picker room limits calls turns;
  told = told-fresh (opening_of (empty_content g.pages) g 0 flash.faults) g.frames g.plb _ (lines_in (fresh_device flash g)) refl
      (omega arith) refl (fresh-device flash g);
  timed = fresh-timed flash g tuner picker room few;
  counted = fresh-counted flash g tuner picker room;
}

-- what a first session is made of
pub fresh-kept : {T E : Type 0} (core : CoreView T E) (flash : FlashState) (g : Geometry) (tuner : TunerView T) (picker : PickerView E)
    (room : Room) → core ≡ fresh_core flash g tuner picker room → IsWithinLimits g → IsFreshFlash g flash → room.calls < 2 ^ 32
    → room.turns < 2 ^ 32 → IsCoreSound core
fresh-kept {T} {E} core flash g tuner picker room is limits fresh calls turns =
    subst (λ (c : CoreView T E). IsCoreSound c) (sym is) (fresh-sound flash g tuner picker room limits fresh.few calls turns)
