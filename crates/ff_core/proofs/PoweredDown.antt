-- A device whose power went off after some of its posts had arrived.
use Rattle.std.proofs.Common.{◌≡◌, ℕ, Bool, true, false, cond, List, [], ◌∷◌, map, take, Option, Some, None, refl, ap, ◌∙◌}
use Rattle.std.specs.Prelude.{unwrap_or}
use Rattle.std.specs.Option.{option_or}
use Rattle.ff_cache.specs.Cache.{IsCacheSound}
use Rattle.ff_device.specs.Device.{DeviceView, own_of, parts_of}
use Rattle.ff_device.specs.Parts.{IsDeviceSound, bytes_over, cached, line_below}
use Rattle.ff_device.specs.StoreState.{bytes_at, stored_bytes}
use Rattle.ff_device.specs.declared.device.DeviceOwn.{DeviceOwn}
use Rattle.ff_flash.specs.Cells.{Cell}
use Rattle.ff_flash.specs.FlashState.{FlashState, powered_off}
use Rattle.ff_kept.specs.Waiting.{kept_length}
use Rattle.ff_lines.specs.BlankLine.{line_or_blank}
use Rattle.ff_lines.specs.Posts.{laid}
use Rattle.ff_lines.specs.declared.post.Post.{Post}
use Rattle.ff_map.specs.declared.places.Mapping.{Mapping}
use Rattle.ff_store.specs.PageStore.{IsStoreSound, PageStoreView}
use Rattle.ff_store.specs.Recoverable.{IsRecoverable}
use Rattle.ff_window.specs.Window.{first_position}
use Rattle.ff_core.specs.Losing.{IsPoweredDown, device_off}

kept_by : (position next : Option ℕ) (entries kept : ℕ) → unwrap_or next entries ≡ kept
    → unwrap_or (option_or position next) entries ≡ unwrap_or position kept
kept_by None next entries kept later = later
kept_by (Some position) next entries kept later = refl

-- how many entries are kept, by the first lost position
pub first_kept : (lost : List Post) (entries : ℕ) → unwrap_or (first_position lost) entries ≡ kept_length lost entries
first_kept [] entries = refl
first_kept (post ∷ later) entries =
    kept_by post.position (first_position later) entries (kept_length later entries) (first_kept later entries)

off_by : {X : Type 0} (field : FlashState → X) (flash : FlashState) (on : Bool)
    → field (record flash { on = false; cut = false }) ≡ field flash
    → field (cond on (record flash { on = false; cut = false }) flash) ≡ field flash
off_by field flash true same = same
off_by field flash false same = refl

-- what the power's going off leaves of a flash
pub off_same : {X : Type 0} (field : FlashState → X) (flash : FlashState) → field (record flash { on = false; cut = false }) ≡ field flash
    → field (powered_off flash) ≡ field flash
off_same field flash same = off_by field flash flash.on same

below_off : (d : DeviceView) (page line : ℕ) → line_below (parts_of (device_off d)) page line ≡ line_below (parts_of d) page line
below_off d page line =
    ap (λ (cells : List Cell). line_or_blank (bytes_over (cached (parts_of d) page)
    (stored_bytes (record (parts_of d).store { pages = map (λ (m : Option Mapping). bytes_at cells m) d.store.world.places.pages })
    page)) line)
    (off_same (λ (f : FlashState). f.cells) d.store.world.flash refl)

-- so many posts arrived, and then the power went off
pub powered_down : (arrive : ℕ) (old mid new : DeviceView) → mid.window.posts ≡ []
    → ((page line : ℕ) → line_below (parts_of mid) page line
    ≡ laid page line (take arrive old.window.posts) (line_below (parts_of old) page line))
    → own_of mid ≡ own_of old → new ≡ device_off mid → IsDeviceSound (parts_of new) → IsStoreSound new.store
    → IsRecoverable new.store → IsCacheSound new.cache → IsPoweredDown arrive old new
powered_down arrive old mid new posts below own is device store recoverable cache = record {
  posts = ap (λ (d : DeviceView). d.window.posts) is ∙ posts;
  below = λ page line.
      ap (λ (d : DeviceView). line_below (parts_of d) page line) is ∙ below_off mid page line ∙ below page line;
  own = ap own_of is ∙ ap (λ (o : DeviceOwn PageStoreView). record o { store = record o.store { world = record o.store.world { flash = powered_off o.store.world.flash } } }) own;
  device = device;
  store = store;
  recoverable = recoverable;
  cache = cache;
}

off_down_by : (flash : FlashState) (on : Bool) → flash.on ≡ on
    → (cond on (record flash { on = false; cut = false }) flash).on ≡ false
off_down_by flash true is = refl
off_down_by flash false is = is

pub off_down : (flash : FlashState) → (powered_off flash).on ≡ false
off_down flash = off_down_by flash flash.on refl

-- the flash went off, and nothing else changed in it
pub flash_off : (arrive : ℕ) (old new : DeviceView) → IsPoweredDown arrive old new
    → new.store.world.flash ≡ powered_off old.store.world.flash
flash_off arrive old new down = ap (λ (o : DeviceOwn PageStoreView). o.store.world.flash) down.own
