-- A core whose power is cut between two events keeps what it kept.
use Rattle.std.proofs.Common.{◌≡◌, Bool, true, false, cond, inl, refl, sym, ap, subst, arith}
use Rattle.ff_calls.proofs.ToldMoved.{told-worked}
use Rattle.ff_flash.specs.FlashState.{FlashState, powered_off}
use Rattle.ff_lines.specs.DeviceState.{IsDevice}
use Rattle.ff_lines.specs.Works.{KeepsLines}
use Rattle.ff_core.specs.Core.{CoreView}
use Rattle.ff_core.specs.CoreSound.{IsCoreSound}
use Rattle.ff_core.specs.Hierarchy.{HierarchyView, flash_under, lines_under}
use Rattle.ff_core.specs.Losing.{core_off}
use Rattle.ff_core.proofs.Recounting.{recounted-still}
use Rattle.ff_core.proofs.Running.{FailsBy}
use Rattle.ff_core.proofs.Sizes.{KeepsParts}
use Rattle.ff_core.proofs.SoundOver.{counted-alike, sound-over}
use Rattle.ff_core.proofs.Timing.{later-cut}

-- a hierarchy over another flash
abbrev with_flash : {T E : Type 0} → HierarchyView T E → FlashState → HierarchyView T E
with_flash h flash = record h {
  device = record h.device { store = record h.device.store { world = record h.device.store.world { flash = flash } } };
}

-- the flash with its power off
abbrev flash_down : FlashState → FlashState
flash_down flash = record flash { on = false; cut = false }

down_parts : {T E : Type 0} (h : HierarchyView T E) → KeepsParts h (with_flash h (flash_down (flash_under h)))
down_parts h = record {
  sizes = record {
    frames = refl;
    slots = refl;
    lines = record { pages = refl; room = refl; most_steps = refl; most_posts = refl };
  };
  shape = record { sets = refl; ways = refl; room = refl };
  counters = refl;
  hand = λ inside. inside;
}

down_lines : {T E : Type 0} (h : HierarchyView T E)
    → KeepsLines (lines_under h) (lines_under (with_flash h (flash_down (flash_under h))))
down_lines h = record {
  lines = inl (record { posts = refl; below = λ page line. refl });
  pinned = λ page. refl;
  written = λ page. refl;
  stay = λ page kept resident. resident;
  sizes = record { pages = refl; room = refl; most_steps = refl; most_posts = refl };
  no_fall = omega arith;
  one_more = omega arith;
}

down_fails : {T E : Type 0} (h : HierarchyView T E) → FailsBy 0 h.device.store (with_flash h (flash_down (flash_under h))).device.store
down_fails h = record {
  faults = omega arith;
  plan = refl;
  planned = λ some. omega arith;
  since = record { reads = omega arith; programs = omega arith; seals = omega arith; erases = omega arith };
}

-- the power was on
down_sound : {T E : Type 0} (core : CoreView T E) → IsCoreSound core → IsDevice (lines_under core.hierarchy)
    → (flash_under core.hierarchy).on ≡ true
    → IsCoreSound (record core { hierarchy = with_flash core.hierarchy (flash_down (flash_under core.hierarchy)) })
down_sound {T} {E} core sound device on =
    let h : HierarchyView T E = core.hierarchy in
    let after : HierarchyView T E = with_flash h (flash_down (flash_under h)) in
    sound-over core core.history core.events core.log core.tally after sound on (record {
      parts = down_parts h;
      calls = refl;
      turns = refl;
      told = told-worked core.opening core.history.entries h.memory (lines_under h) (lines_under after) sound.told device
          (down_lines h) (omega arith);
      later = later-cut core after sound.timed refl (omega arith) refl;
      counts = recounted-still core after (counted-alike core sound) (down_fails h);
    })

off_sound_by : {T E : Type 0} (core : CoreView T E) (on : Bool) → (flash_under core.hierarchy).on ≡ on → IsCoreSound core
    → IsDevice (lines_under core.hierarchy) → IsCoreSound (core_off core)
off_sound_by {T} {E} core true on sound device =
    let flash : FlashState = flash_under core.hierarchy in
    let same : powered_off flash ≡ flash_down flash = ap (λ (b : Bool). cond b (flash_down flash) flash) on in
    subst (λ (f : FlashState). IsCoreSound (record core { hierarchy = with_flash core.hierarchy f })) (sym same)
    (down_sound core sound device on)
off_sound_by {T} {E} core false on sound device =
    let flash : FlashState = flash_under core.hierarchy in
    let same : powered_off flash ≡ flash = ap (λ (b : Bool). cond b (flash_down flash) flash) on in
    subst (λ (f : FlashState). IsCoreSound (record core { hierarchy = with_flash core.hierarchy f })) (sym same) sound

pub core_off_sound : {T E : Type 0} (core : CoreView T E) → IsCoreSound core → IsDevice (lines_under core.hierarchy)
    → IsCoreSound (core_off core)
core_off_sound core sound device = off_sound_by core (flash_under core.hierarchy).on refl sound device
