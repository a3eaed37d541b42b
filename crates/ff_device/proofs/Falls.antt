-- A step of work leaves fewer steps.
use Rattle.std.proofs.Common.{◌≡◌, ◌<◌, ◌≤◌, inl, inr, ℕ, suc, ◌+◌, ◌*◌, ◌%◌, ◌||◌, Bool, true, false, not, List, [], length, refl, ap, ◌∙◌, arith, Option, Some, None, get_or-set_same, get_or-set_other}
use Rattle.std.specs.Option.{is_some}
use Rattle.std.specs.Prelude.{if◌then◌else◌}
use Rattle.std.proofs.Math.Nat.{mod-lt}
use Rattle.std.proofs.lemmas.Bool.{cases_Bool, cases_eq, cases_lt, false_from_ne_true}
use Rattle.std.proofs.lemmas.List.{get_or_past}
use Rattle.ff_base.specs.declared.numbers.PageNo.{PageNo}
use Rattle.ff_cache.specs.Cache.{is_full_set, set_of, values_of, way_at, IsCacheSound}
use Rattle.ff_cache.specs.Slots.{empty_slot, held, holds, cache_slot_at, slot_flushed, slot_flushing}
use Rattle.ff_cache.specs.declared.slot.CacheSlot.{CacheSlot}
use Rattle.ff_lines.specs.declared.post.Post.{Post}
use Rattle.ff_device.specs.Draining.{SameFrames}
use Rattle.ff_device.specs.Parts.{is_resident, Parts}
use Rattle.ff_device.specs.Steps.{chosen_way, flush_steps, may_go, may_go_at, page_waits, soon_clean, steps_of_set, steps_of_slot, steps_of_way, steps_to}
use Rattle.ff_device.specs.StoreState.{IsStoreStateSound, PendingFlush, StoreState}
use Rattle.ff_device.specs.WorkRows.{HasUnpinned}
use Rattle.ff_device.proofs.Frames.{chosen_frames, frames_by, full_frames}
use Rattle.ff_device.proofs.Oldest.{some_chosen}
use Rattle.ff_device.proofs.Sealing.{sealing_flush, sealing_slot, Sealing}

-- the steps of a page that isn't resident, with and without a flush that waits
pub steps_waiting : (parts : Parts) (page : ℕ) (flush : PendingFlush) → held parts.cache.slots page ≡ None → parts.store.pending ≡ Some flush
    → steps_to parts page ≡ suc (1 + steps_of_set parts page)
steps_waiting parts page flush absent waits = rw (absent, waits) refl

pub steps_idle : (parts : Parts) (page : ℕ) → held parts.cache.slots page ≡ None → parts.store.pending ≡ None
    → steps_to parts page ≡ suc (0 + steps_of_set parts page)
steps_idle parts page absent idle = rw (absent, idle) refl

pub steps_full : (parts : Parts) (page : ℕ) (way : Option ℕ) → is_full_set parts.cache page ≡ true → chosen_way parts page ≡ way
    → steps_of_set parts page ≡ steps_of_way parts page way
steps_full parts page way full choice = rw (full, choice) refl

not_clean : (pending : Option PendingFlush) (slot : CacheSlot) → pending ≡ None → slot.dirty ≡ true → soon_clean pending slot ≡ false
not_clean pending slot idle dirty = rw (idle, dirty) refl

-- the steps where the chosen way is dirty and no flush waits
pub steps_dirty : (parts : Parts) (page way : ℕ) → held parts.cache.slots page ≡ None → parts.store.pending ≡ None
    → is_full_set parts.cache page ≡ true → chosen_way parts page ≡ Some way → (way_at parts.cache page way).dirty ≡ true
    → steps_to parts page ≡ suc (0 + (parts.store.left + 2))
steps_dirty parts page way absent idle full choice dirty =
    steps_idle parts page absent idle
    ∙ ap (λ (n : ℕ). suc (0 + n)) (steps_full parts page (Some way) full choice
    ∙ rw (not_clean parts.store.pending (way_at parts.cache page way) idle dirty, idle) refl)

-- a page that is resident
pub fetched_falls : (old new : Parts) (page : ℕ) → held old.cache.slots page ≡ None → is_resident new page ≡ true
    → steps_to new page < steps_to old page
fetched_falls old new page absent resident = rw (absent, resident) (omega arith)

-- the store made a collection step
pub collected_falls : (old new : Parts) (page way : ℕ) → held old.cache.slots page ≡ None → old.store.pending ≡ None
    → is_full_set old.cache page ≡ true → chosen_way old page ≡ Some way → (way_at old.cache page way).dirty ≡ true
    → new.cache ≡ old.cache → new.window ≡ old.window → new.store.pending ≡ None → new.store.left < old.store.left
    → steps_to new page < steps_to old page
collected_falls old new page way absent idle full choice dirty cache window still fewer =
    let before : steps_to old page ≡ suc (0 + (old.store.left + 2)) = steps_dirty old page way absent idle full choice dirty in
    let after : steps_to new page ≡ suc (0 + (new.store.left + 2)) =
    steps_dirty new page way (rw cache absent) still (rw cache full) (rw (cache, window) choice) (rw cache dirty) in
    omega arith

or_right_true : (b : Bool) → (b || true) ≡ true
or_right_true true = refl
or_right_true false = refl

or_false : (b : Bool) → (b || false) ≡ b
or_false true = refl
or_false false = refl

pub flushing_soon : (page : ℕ) (bytes : List ℕ) (slot : CacheSlot) → holds slot page ≡ true
    → soon_clean (Some (record { page = page; bytes = bytes })) (slot_flushing slot) ≡ true
flushing_soon page bytes slot is = rw is (or_right_true (not slot.dirty))

-- the flush of the chosen way was programmed
pub programmed_falls : (old new : Parts) (page way : ℕ) (flushed : ℕ) (bytes : List ℕ) → held old.cache.slots page ≡ None
    → held new.cache.slots page ≡ None → old.store.pending ≡ None
    → is_full_set old.cache page ≡ true → chosen_way old page ≡ Some way → (way_at old.cache page way).dirty ≡ true
    → SameFrames old.cache new.cache → new.window ≡ old.window
    → new.store.pending ≡ Some (record { page = flushed; bytes = bytes })
    → soon_clean new.store.pending (way_at new.cache page way) ≡ true
    → steps_to new page < steps_to old page
programmed_falls old new page way flushed bytes absent still idle full choice dirty frames window pending soon =
    let before : steps_to old page ≡ suc (0 + (old.store.left + 2)) = steps_dirty old page way absent idle full choice dirty in
    let posts : new.window.posts ≡ old.window.posts = ap (λ w. w.posts) window in
    let way_is : steps_of_set new page ≡ 0 =
    steps_full new page (Some way) (full_frames old.cache new.cache page frames ∙ full) (chosen_frames old new page frames posts ∙ choice)
    ∙ rw soon refl in
    let after : steps_to new page ≡ suc (1 + 0) =
    steps_waiting new page (record { page = flushed; bytes = bytes }) still pending ∙ ap (λ (n : ℕ). suc (1 + n)) way_is in
    omega arith

some_way : (o : Option ℕ) → is_some o ≡ true → (way : ℕ) × (o ≡ Some way)
some_way None is = absurd (cc)
some_way (Some way) is = (way, refl)

slot_most : (store : StoreState) (slot : CacheSlot) → store.pending ≡ None → steps_of_slot store slot ≤ store.left + 2
slot_most store slot idle = elim (cases_Bool (soon_clean store.pending slot)) [
  | inl soon ↦ rw soon (omega arith)
  | inr late ↦ rw (late, idle) (omega arith)
]

no_page_waits : (found : Option PageNo) → page_waits [] found ≡ false
no_page_waits None = refl
no_page_waits (Some page) = refl

unpinned_goes : (posts : List Post) (slot : CacheSlot) → posts ≡ [] → slot.pinned ≡ false → may_go posts slot ≡ true
unpinned_goes posts slot none unpinned = rw (none, unpinned, no_page_waits slot.page) refl

-- the window was drained, since no way might give way
pub drained_falls : (old new : Parts) (page : ℕ) → IsCacheSound old.cache → held old.cache.slots page ≡ None
    → held new.cache.slots page ≡ None → old.store.pending ≡ None → is_full_set old.cache page ≡ true
    → chosen_way old page ≡ None → HasUnpinned page old → SameFrames old.cache new.cache → new.window.posts ≡ [] → new.store ≡ old.store
    → steps_to new page < steps_to old page
drained_falls old new page sound absent still idle full none free frames posts store =
    let before : steps_to old page ≡ suc (0 + suc (old.store.left + 2)) =
    steps_idle old page absent idle ∙ ap (λ (n : ℕ). suc (0 + n)) (steps_full old page None full none ∙ rw idle refl) in
    let k : ℕ = page % old.cache.sets * old.cache.ways + free.way in
    let unpinned : (cache_slot_at new.cache.slots k).pinned ≡ false = frames.pinned k ∙ free.unpinned in
    let goes : may_go_at new page free.way ≡ true =
    rw (frames.sets, frames.ways) (unpinned_goes new.window.posts (cache_slot_at new.cache.slots k) posts unpinned) in
    let size : length (values_of new.cache page) ≡ old.cache.ways =
    rw (frames.values, frames.sets) (sound.values.each (set_of old.cache page) (mod-lt page sound.sizes.some_sets)) in
    let found = some_way (chosen_way new page) (some_chosen (may_go_at new page) (values_of new.cache page) free.way (omega (arith, free.within)) goes) in
    let still_idle : new.store.pending ≡ None = ap (λ s. s.pending) store ∙ idle in
    let after : steps_to new page ≡ suc (0 + steps_of_slot new.store (way_at new.cache page found.0)) =
    steps_idle new page still still_idle
    ∙ ap (λ (n : ℕ). suc (0 + n)) (steps_full new page (Some found.0) (full_frames old.cache new.cache page frames ∙ full) found.1) in
    let most = slot_most new.store (way_at new.cache page found.0) still_idle in
    let left : new.store.left ≡ old.store.left = ap (λ s. s.left) store in
    omega arith

sealed_here : (flush : PendingFlush) (slot : CacheSlot) → slot.dirty ≡ true → holds slot flush.page ≡ true
    → soon_clean None (slot_flushed slot) ≡ soon_clean (Some flush) slot
sealed_here flush slot dirty is = rw (dirty, is) (or_false (not slot.touched))

sealed_there : (flush : PendingFlush) (slot : CacheSlot) → holds slot flush.page ≡ false → soon_clean None slot ≡ soon_clean (Some flush) slot
sealed_there flush slot is = rw is refl

-- a slot is clean after the seal where it was soon to be
sealed_soon : (page : ℕ) (old new : Parts) → (s : Sealing page old new) → (k : ℕ)
    → soon_clean None (cache_slot_at new.cache.slots k) ≡ soon_clean (Some s.seals.flush) (cache_slot_at old.cache.slots k)
sealed_soon page old new s k =
    let index : ℕ = s.ends.index in
    let slot : CacheSlot = sealing_slot page old new s in
    let own : holds slot s.seals.flush.page ≡ true = rw s.seals.page_is s.ends.holds in
    elim (cases_eq k index) [
      | inl same ↦
          rw (same, s.ends.is, get_or-set_same old.cache.slots index (slot_flushed slot) empty_slot s.ends.within)
          (sealed_here s.seals.flush slot (sealing_flush page old new s).0 own)
      | inr apart ↦
          rw (s.ends.is, get_or-set_other old.cache.slots index k (slot_flushed slot) empty_slot apart)
          (sealed_there s.seals.flush (cache_slot_at old.cache.slots k) (elim (cases_lt k (length old.cache.slots)) [
            | inl within ↦ false_from_ne_true (holds (cache_slot_at old.cache.slots k) s.seals.flush.page)
                (λ twice. apart (s.cache.slots.unique k index s.seals.flush.page within s.ends.within twice own))
            | inr past ↦ rw (get_or_past old.cache.slots k empty_slot past) refl
          ]))
    ]

less_if : (soon : Bool) (n m : ℕ) → n ≤ m → (if soon then 0 else n) ≤ (if soon then 0 else m)
less_if true n m less = omega arith
less_if false n m less = less

either_less : (full : Bool) (n m : ℕ) → n ≤ m → (if full then n else 0) ≤ (if full then m else 0)
either_less true n m less = less
either_less false n m less = omega arith

slot_less : (a b : StoreState) (one other : CacheSlot) → soon_clean a.pending one ≡ soon_clean b.pending other → flush_steps a ≤ flush_steps b
    → steps_of_slot a one ≤ steps_of_slot b other
slot_less a b one other same less = rw same (less_if (soon_clean b.pending other) (flush_steps a) (flush_steps b) less)

sealed_way : (page wanted : ℕ) (old new : Parts) → (s : Sealing page old new) → SameFrames old.cache new.cache
    → flush_steps new.store ≤ flush_steps old.store → (way : Option ℕ) → steps_of_way new wanted way ≤ steps_of_way old wanted way
sealed_way page wanted old new s frames less None = omega arith
sealed_way page wanted old new s frames less (Some way) =
    let k : ℕ = wanted % old.cache.sets * old.cache.ways + way in
    let soon : soon_clean new.store.pending (way_at new.cache wanted way) ≡ soon_clean old.store.pending (way_at old.cache wanted way) =
    rw (s.seals.done, s.seals.waited, frames.sets, frames.ways) (sealed_soon page old new s k) in
    slot_less new.store old.store (way_at new.cache wanted way) (way_at old.cache wanted way) soon less

-- the flush that waited was sealed
pub sealed_falls : (page wanted : ℕ) (old new : Parts) → (s : Sealing page old new) → IsStoreStateSound new.store
    → new.store.most_left ≡ old.store.most_left → held old.cache.slots wanted ≡ None → held new.cache.slots wanted ≡ None
    → steps_to new wanted < steps_to old wanted
sealed_falls page wanted old new s store most absent still =
    let frames = frames_by page slot_flushed old.cache new.cache s.ends (λ slot. refl) (λ slot. refl) in
    let posts : new.window.posts ≡ old.window.posts = ap (λ w. w.posts) s.window in
    let few = store.few in
    let less : flush_steps new.store ≤ flush_steps old.store = rw (s.seals.done, s.seals.waited) (omega arith) in
    let way = sealed_way page wanted old new s frames less (chosen_way old wanted) in
    let set : steps_of_set new wanted ≤ steps_of_set old wanted =
    rw (full_frames old.cache new.cache wanted frames, chosen_frames old new wanted frames posts)
    (either_less (is_full_set old.cache wanted) (steps_of_way new wanted (chosen_way old wanted)) (steps_of_way old wanted (chosen_way old wanted)) way) in
    let before : steps_to old wanted ≡ suc (1 + steps_of_set old wanted) = steps_waiting old wanted s.seals.flush absent s.seals.waited in
    let after : steps_to new wanted ≡ suc (0 + steps_of_set new wanted) = steps_idle new wanted still s.seals.done in
    omega arith
