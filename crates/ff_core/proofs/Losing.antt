-- What a session leaves at a loss of power.
use Rattle.std.proofs.Common.{◌≡◌, ◌-◌, ℕ, List, ◌==◌, length, take, refl, sym, ap, subst, ◌∙◌, arith}
use Rattle.std.specs.Prelude.{min, slice_index}
use Rattle.std.specs.Int.{bit_at}
use Rattle.std.proofs.Math.Path.{fun_ext}
use Rattle.ff_cache.specs.Nv.{NvView, ways_of}
use Rattle.ff_device.specs.Device.{DeviceView, parts_of}
use Rattle.ff_device.specs.Parts.{line_below}
use Rattle.ff_flash.specs.FlashState.{FlashState, powered_off}
use Rattle.ff_kept.proofs.KeepingLost.{keeping-lost, kept_length-all}
use Rattle.ff_kept.specs.Keeping.{PowerLossKeeps}
use Rattle.ff_kept.specs.Marked.{marked_at}
use Rattle.ff_kept.specs.Posted.{byte_in_lines}
use Rattle.ff_lines.specs.BlankLine.{line_or_blank}
use Rattle.ff_lines.specs.DeviceState.{IsDevice}
use Rattle.ff_lines.specs.Posts.{laid}
use Rattle.ff_memory.specs.Memory.{IsMemorySound}
use Rattle.ff_model.specs.Callers.{is_marked}
use Rattle.ff_mount.proofs.Contents.{content_line}
use Rattle.ff_mount.proofs.Sounding.{sound_over}
use Rattle.ff_mount.specs.Held.{held_bytes, held_content, nv_of}
use Rattle.ff_policy.specs.Policy.{IsPolicySound}
use Rattle.ff_store.specs.PageStore.{IsStoreSound}
use Rattle.ff_core.specs.Account.{IsAccountOf, start_of}
use Rattle.ff_core.specs.Core.{CoreView}
use Rattle.ff_core.specs.CoreSound.{IsCoreSound}
use Rattle.ff_core.specs.Hierarchy.{HierarchyView, flash_under, lines_under}
use Rattle.ff_core.specs.Losing.{IsLossOf, IsPoweredDown, kept_after}
use Rattle.ff_core.specs.Record.{IsRecordSound, RecordView, record_of}
use Rattle.ff_core.proofs.CachedOver.{cache_over, left_lines}
use Rattle.ff_core.proofs.Ending.{account_of, record_sound}
use Rattle.ff_core.proofs.PoweredDown.{off_same}

-- what the lines that are left keep of the history
keeps_lines : {T E : Type 0} (core : CoreView T E) (arrive : ℕ) (left : ℕ → ℕ → List ℕ) → IsCoreSound core
    → IsDevice (lines_under core.hierarchy)
    → ((page line : ℕ) → left page line ≡ laid page line (take arrive core.hierarchy.device.window.posts)
    (line_below (parts_of core.hierarchy.device) page line))
    → PowerLossKeeps core.opening.base core.history.entries (marked_at core.opening.base core.history.entries) (byte_in_lines left)
    (kept_after core arrive) (core.geometry.window - min arrive core.geometry.window)
keeps_lines core arrive left sound device laid_are =
    let few = device.few_posts in
    let window = sound.sized.window in
    keeping-lost core.opening core.history.entries (lines_under core.hierarchy) left arrive core.geometry.window sound.told.legal
    device (omega (arith, few, window)) laid_are sound.told.keeping

-- no more entries are kept than there are
pub lost_sound : {T E : Type 0} (core : CoreView T E) (arrive : ℕ) → IsCoreSound core → IsDevice (lines_under core.hierarchy)
    → IsRecordSound (record_of core (kept_after core arrive))
lost_sound core arrive sound device =
    let keeps = keeps_lines core arrive
    (λ page line. laid page line (take arrive core.hierarchy.device.window.posts)
    (line_below (parts_of core.hierarchy.device) page line)) sound device (λ page line. refl) in
    record_sound core (kept_after core arrive) sound keeps.within

account_off : {T E : Type 0} (core : CoreView T E) (kept : ℕ) → IsCoreSound core → IsStoreSound core.hierarchy.device.store
    → IsPolicySound core.hierarchy.policy
    → IsAccountOf core.geometry core.hierarchy.policy.tuner.floor (start_of core) (record_of core kept)
    (powered_off (flash_under core.hierarchy))
account_off core kept sound store policy =
    let flash = flash_under core.hierarchy in
    let account = account_of core kept sound store policy in
    let operations = off_same (λ (f : FlashState). f.operations) flash refl in
    let faults = off_same (λ (f : FlashState). f.faults) flash refl in
    let plan = off_same (λ (f : FlashState). f.plan) flash refl in
    record {
      geometry_is = account.geometry_is;
      from_event = account.from_event;
      legal = account.legal;
      events = account.events;
      not_past = account.not_past;
      served = account.served;
      promotions = account.promotions;
      paid = account.paid;
      operations = account.operations ∙ sym operations;
      faults = account.faults ∙ sym faults;
      met = let met = account.met in omega (arith, met, faults);
      told = λ tells. account.told (rw plan at tells);
    }

-- the account of a session whose power went off
pub lost_account : {T E : Type 0} (core : CoreView T E) (kept : ℕ) (account : RecordView) (flash : FlashState) → IsCoreSound core
    → IsStoreSound core.hierarchy.device.store → IsPolicySound core.hierarchy.policy → account ≡ record_of core kept
    → flash ≡ powered_off (flash_under core.hierarchy)
    → IsAccountOf core.geometry core.hierarchy.policy.tuner.floor (start_of core) account flash
lost_account core kept account flash sound store policy account_is flash_is =
    let floor = core.hierarchy.policy.tuner.floor in
    subst (λ (a : RecordView). IsAccountOf core.geometry floor (start_of core) a flash) (sym account_is)
    (subst (λ (f : FlashState). IsAccountOf core.geometry floor (start_of core) (record_of core kept) f) (sym flash_is)
    (account_off core kept sound store policy))

content_marks : (pages : ℕ) (nv : NvView) (flash : FlashState) → (held_content pages nv flash.cells).marks ≡ nv.marks
unfolding held_content
content_marks pages nv flash = refl

-- what the battery and the flash hold
loss_of : {T E : Type 0} (core : CoreView T E) (arrive : ℕ) (d : DeviceView) → IsCoreSound core
    → IsMemorySound core.hierarchy.memory → IsDevice (lines_under core.hierarchy) → IsPoweredDown arrive core.hierarchy.device d
    → IsLossOf core.geometry core.opening.base arrive (record_of core (kept_after core arrive))
    (nv_of d.cache core.hierarchy.memory.table.marks) d.store.world.flash
loss_of core arrive d sound memory device down =
    let g = core.geometry in
    let marks = core.hierarchy.memory.table.marks in
    let nv = nv_of d.cache marks in
    let flash = d.store.world.flash in
    let over = cache_over core arrive d sound down in
    let marked : length marks ≡ g.pages = memory.table_sound.marked ∙ sound.told.pages ∙ sound.sized.pages in
    let left_sound = sound_over g d.store d.cache marks down.store down.recoverable down.cache over marked in
    let left : ℕ → ℕ → List ℕ = λ page line. line_or_blank (held_bytes (ways_of d.cache.slots) flash.cells page) line in
    let few = device.few_posts in
    let window = sound.sized.window in
    record {
      sound = left_sound;
      marks = λ page line low.
          subst (λ (found : List ℕ). (bit_at (slice_index found page) line == 1)
          ≡ is_marked core.opening.base core.history.entries page line) (sym (content_marks g.pages nv flash))
          (sound.told.marks page line low);
      keeps = subst
          (λ (byte : ℕ → ℕ). PowerLossKeeps core.opening.base core.history.entries
          (marked_at core.opening.base core.history.entries) byte (kept_after core arrive) (g.window - min arrive g.window))
          (fun_ext (λ address. sym (content_line g nv flash address left_sound)))
          (keeps_lines core arrive left sound device
          (λ page line. left_lines g arrive core.hierarchy.device d page line down over ∙ down.below page line));
      whole = λ all. kept_length-all core.hierarchy.device.window.posts arrive (length core.history.entries)
          (omega (arith, few, window, all));
    }

-- the same, of what is left of the hierarchy
pub lost_of : {T E : Type 0} (core : CoreView T E) (arrive : ℕ) (h : HierarchyView T E) (account : RecordView) (nv : NvView)
    (flash : FlashState) → IsCoreSound core → IsMemorySound core.hierarchy.memory → IsDevice (lines_under core.hierarchy)
    → IsPoweredDown arrive core.hierarchy.device h.device → h ≡ record core.hierarchy { device = h.device }
    → account ≡ record_of core (kept_after core arrive) → nv ≡ nv_of h.device.cache h.memory.table.marks → flash ≡ flash_under h
    → IsLossOf core.geometry core.opening.base arrive account nv flash
lost_of {T} {E} core arrive h account nv flash sound memory device down rest account_is nv_is flash_is =
    let marks = ap (λ (x : HierarchyView T E). nv_of h.device.cache x.memory.table.marks) rest in
    subst (λ (a : RecordView). IsLossOf core.geometry core.opening.base arrive a nv flash) (sym account_is)
    (subst (λ (n : NvView). IsLossOf core.geometry core.opening.base arrive (record_of core (kept_after core arrive)) n flash)
    (sym (nv_is ∙ marks))
    (subst (λ (f : FlashState). IsLossOf core.geometry core.opening.base arrive (record_of core (kept_after core arrive))
    (nv_of h.device.cache core.hierarchy.memory.table.marks) f) (sym flash_is)
    (loss_of core arrive h.device sound memory device down)))
