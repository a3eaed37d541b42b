-- What a loss of power leaves of a session.
use Rattle.std.specs.Prelude.{ℕ, ◌-◌, ◌<◌, ◌≤◌, ◌≡◌, ◌==◌, List, [], length, drop, take, min, slice_index}
use Rattle.std.specs.Int.{bit_at}
use Rattle.ff_base.specs.declared.numbers.TheConstants.{PAGE_LINES}
use Rattle.ff_base.specs.declared.geometry.Geometry.{Geometry}
use Rattle.ff_cache.specs.Cache.{IsCacheSound}
use Rattle.ff_cache.specs.Nv.{NvView}
use Rattle.ff_device.specs.Device.{DeviceView, own_of, parts_of}
use Rattle.ff_device.specs.Parts.{IsDeviceSound, line_below}
use Rattle.ff_flash.specs.FlashState.{FlashState, powered_off}
use Rattle.ff_kept.specs.Keeping.{PowerLossKeeps}
use Rattle.ff_kept.specs.Marked.{marked_at}
use Rattle.ff_kept.specs.Waiting.{kept_length}
use Rattle.ff_lines.specs.Posts.{laid}
use Rattle.ff_model.specs.Callers.{is_marked}
use Rattle.ff_model.specs.Image.{Content, byte_at}
use Rattle.ff_model.specs.declared.history.Entry.{Entry}
use Rattle.ff_mount.specs.Held.{held_content}
use Rattle.ff_mount.specs.Sound.{AreSound}
use Rattle.ff_store.specs.PageStore.{IsStoreSound}
use Rattle.ff_store.specs.Recoverable.{IsRecoverable}
use Rattle.ff_core.specs.Core.{CoreView}
use Rattle.ff_core.specs.Record.{RecordView}

-- a device with its power off
abbrev pub device_off : DeviceView → DeviceView
device_off d = record d {
  store = record d.store {
    world = record d.store.world { flash = powered_off d.store.world.flash };
  };
}

-- a core with its power off
abbrev pub core_off : {T E : Type 0} → CoreView T E → CoreView T E
core_off core = record core {
  hierarchy = record core.hierarchy { device = device_off core.hierarchy.device };
}

-- the power went off after so many of the oldest posts had arrived, and the others are lost
pub record IsPoweredDown (arrive : ℕ) (old new : DeviceView) : Type 0 where
  pub posts : new.window.posts ≡ []
  pub below : (page line : ℕ) → line_below (parts_of new) page line
      ≡ laid page line (take arrive old.window.posts) (line_below (parts_of old) page line)
  pub own : own_of new ≡ own_of (device_off old)
  pub device : IsDeviceSound (parts_of new)
  pub store : IsStoreSound new.store
  pub recoverable : IsRecoverable new.store
  pub cache : IsCacheSound new.cache

-- how many entries of the history are kept where so many of the waiting posts arrive
abbrev pub kept_after : {T E : Type 0} → CoreView T E → ℕ → ℕ
kept_after core arrive =
    kept_length (drop arrive core.hierarchy.device.window.posts) (length core.history.entries)

-- the marks of an image are those after the entries
abbrev pub AreMarksAfter : Content → List Entry → Content → Type 0
AreMarksAfter base entries image =
    (page line : ℕ) → line < PAGE_LINES
    → (bit_at (slice_index image.marks page) line == 1) ≡ is_marked base entries page line

-- what the battery and the flash hold of a session that lost its power when so many of its waiting posts had arrived: a
-- mount finds its way from it, and the image of it has the marks and the bytes that the session owes
pub record IsLossOf (geometry : Geometry) (base : Content) (arrive : ℕ) (account : RecordView)
    (nv : NvView) (flash : FlashState) : Type 0 where
  pub sound : AreSound geometry nv flash
  pub marks : AreMarksAfter base account.entries (held_content geometry.pages nv flash.cells)
  pub keeps : PowerLossKeeps base account.entries (marked_at base account.entries)
      (byte_at (held_content geometry.pages nv flash.cells)) account.kept
      (geometry.window - min arrive geometry.window)
  pub whole : geometry.window ≤ arrive → account.kept ≡ length account.entries
