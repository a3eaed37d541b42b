-- Each row of a step of work is what a device of lines promises.
use Rattle.std.proofs.Common.{◌≡◌, ◌<◌, inl, inr, ℕ, ◌+◌, ◌%◌, true, false, List, length, refl, sym, ap, ◌∙◌, arith, Option, Some, None, get_or-set_same}
use Rattle.std.specs.Option.{is_none, is_some}
use Rattle.std.proofs.Math.Nat.{mod-lt}
use Rattle.std.proofs.lemmas.Bool.{cases_Bool, eq-eqb}
use Rattle.ff_base.specs.declared.numbers.PageNo.{PageNo}
use Rattle.ff_cache.specs.Cache.{first_of, is_full_set, way_at, CacheView, IsCacheSound, IsEmptyWay, IsInSet}
use Rattle.ff_cache.specs.Slots.{empty_slot, held, holds, cache_slot_at, slot_flushed, slot_flushing}
use Rattle.ff_cache.specs.declared.slot.CacheSlot.{CacheSlot}
use Rattle.ff_cache.proofs.Sets.{set_fits, slot_of_page}
use Rattle.ff_lines.specs.Works.{KeepsLines, Works}
use Rattle.ff_lines.specs.declared.device.Work.{Work}
use Rattle.ff_lines.specs.declared.device.Work.TheVariants.{Ready, Stepped, Pinned, Failed, Off}
use Rattle.ff_lines.specs.declared.post.Post.{Post}
use Rattle.ff_device.specs.Device.{lines_of, DeviceView}
use Rattle.ff_device.specs.Draining.{SameFrames}
use Rattle.ff_device.specs.Parts.{is_resident, IsDeviceSound, Parts}
use Rattle.ff_device.specs.Steps.{chosen_way, may_go, page_waits, soon_clean, steps_to}
use Rattle.ff_device.specs.StoreState.{IsStoreStateSound, PendingFlush}
use Rattle.ff_device.specs.StoreSteps.{Powers, SameLimits}
use Rattle.ff_device.specs.WorkRows.{FetchRow, FlushRow, IsFetched, HasProgrammed, IsRaised, HasSealed, IsWorkStep, NoWayRow, SealRow, stop_of_work}
use Rattle.ff_device.specs.WorkRows.{seals, fills, no_way, replaces, flushes}
use Rattle.ff_device.proofs.Edits.{edited_resident}
use Rattle.ff_device.proofs.Falls.{collected_falls, drained_falls, fetched_falls, flushing_soon, programmed_falls, sealed_falls}
use Rattle.ff_device.proofs.Fetches.{fetching_resident, Fetching}
use Rattle.ff_device.proofs.Frames.{frames_by}
use Rattle.ff_device.proofs.Keeping.{drained_keeps, edited_keeps, fetching_keeps, keeps_lines, raised_keeps, same_keeps, stopped_keeps, Keeps}
use Rattle.ff_device.proofs.Programming.{programming_edited, Programming}
use Rattle.ff_device.proofs.Raising.{raising_cache, raising_after, raising_goes, raising_place, raising_steps, Raising}
use Rattle.ff_device.proofs.Sealing.{sealing_edited, sealing_slot, Sealing}
use Rattle.ff_device.proofs.Touching.{sound_values, with_values}

-- a page that isn't cached isn't resident, and the other way round
absent_no : (parts : Parts) (page : ℕ) → held parts.cache.slots page ≡ None → is_resident parts page ≡ false
absent_no parts page absent = rw absent refl

none_of : (o : Option CacheSlot) → is_some o ≡ false → o ≡ None
none_of None is = refl
none_of (Some slot) is = absurd (cc)

-- what is known before and after a step for a page
pub record Working (page : ℕ) (old new : Parts) : Type 0 where
  pub sound : IsDeviceSound old
  pub cache : IsCacheSound old.cache
  pub store : IsStoreStateSound old.store
  pub in_range : page < length old.store.pages
  pub absent : held old.cache.slots page ≡ None
  pub on : old.store.on ≡ true
  pub after : IsStoreStateSound new.store
  pub same : SameLimits old.store new.store

-- the rows keep the lines, and a step that was made leaves fewer steps
pub record Row (page : ℕ) (result : Work) (old new : Parts) : Type 0 where
  pub keeps : Keeps old new
  pub falls : result ≡ Stepped → steps_to new page < steps_to old page
  pub busy : result ≡ Ready → ⊥
  pub free : (named : PageNo) → result ≡ Pinned named → ⊥

row_of : (page : ℕ) (old new : Parts) → Keeps old new → steps_to new page < steps_to old page → Row page Stepped old new
row_of page old new keeps falls = record { keeps = keeps; falls = λ _. falls; busy = λ e. cc; free = λ named e. cc }

failed_row : (page : ℕ) (old new : Parts) → Keeps old new → Row page Failed old new
failed_row page old new keeps = record { keeps = keeps; falls = λ e. absurd (cc); busy = λ e. cc; free = λ named e. cc }

off_row : (page : ℕ) (old new : Parts) → Keeps old new → Row page Off old new
off_row page old new keeps = record { keeps = keeps; falls = λ e. absurd (cc); busy = λ e. cc; free = λ named e. cc }

sealing_of : (page : ℕ) (old new : Parts) → Working page old new → (s : HasSealed old new) → Sealing s.page old new
sealing_of page old new w s = record {
  sound = w.sound;
  cache = w.cache;
  store = w.store;
  seals = s.sealed;
  ends = s.cache;
  window = s.window;
  capacity = w.same.capacity;
}

pub seal_row : (page : ℕ) (result : Work) (old new : Parts) → Working page old new → SealRow result old new → Row page result old new
seal_row page Stepped old new w s =
    let sealing = sealing_of page old new w s in
    let edited = sealing_edited s.page old new sealing in
    let slot = sealing_slot s.page old new sealing in
    let still : held new.cache.slots page ≡ None =
    none_of (held new.cache.slots page) (edited_resident s.page slot (slot_flushed slot) old new edited page ∙ absent_no old page w.absent) in
    row_of page old new (edited_keeps s.page slot (slot_flushed slot) old new edited refl)
    (sealed_falls s.page page old new sealing w.after w.same.most_left w.absent still)
seal_row page Failed old new w s = failed_row page old new (stopped_keeps old new s.0)
seal_row page Off old new w s = off_row page old new (stopped_keeps old new s.0)
seal_row page Ready old new w s = absurd s
seal_row page (Pinned other) old new w s = absurd s

-- what is asked of the slot of a fetch
pub record IsPlace (page slot : ℕ) (old : Parts) : Type 0 where
  pub in_set : IsInSet old.cache page slot
  pub clean : (cache_slot_at old.cache.slots slot).dirty ≡ false
  pub goes : may_go old.window.posts (cache_slot_at old.cache.slots slot) ≡ true
  pub idle : old.store.pending ≡ None

fetching_of : (page slot : ℕ) (old new : Parts) → Working page old new → IsPlace page slot old → IsFetched page slot old new
    → Fetching page slot old new
fetching_of page slot old new w p f = record {
  sound = w.sound;
  cache = w.cache;
  in_range = w.in_range;
  absent = w.absent;
  in_set = p.in_set;
  clean = p.clean;
  goes = p.goes;
  idle = p.idle;
  fetched = f;
  capacity = w.same.capacity;
}

pub fetch_row : (page slot : ℕ) (result : Work) (old new : Parts) → Working page old new → IsPlace page slot old
    → FetchRow page slot result old new → Row page result old new
fetch_row page slot Stepped old new w p f =
    let fetching = fetching_of page slot old new w p f in
    row_of page old new (fetching_keeps page slot old new fetching)
    (fetched_falls old new page w.absent (fetching_resident page slot old new fetching))
fetch_row page slot Failed old new w p f = failed_row page old new (stopped_keeps old new f.0)
fetch_row page slot Off old new w p f = off_row page old new (stopped_keeps old new f.0)
fetch_row page slot Ready old new w p f = absurd f
fetch_row page slot (Pinned other) old new w p f = absurd f

-- what is asked of the slot of a flush: it is that of the chosen way
pub record IsVictimSlot (page slot way : ℕ) (old : Parts) : Type 0 where
  pub within : slot < length old.cache.slots
  pub dirty : (cache_slot_at old.cache.slots slot).dirty ≡ true
  pub slot_is : slot ≡ first_of old.cache page + way
  pub chosen : chosen_way old page ≡ Some way
  pub full : is_full_set old.cache page ≡ true
  pub idle : old.store.pending ≡ None

programming_of : (page slot way : ℕ) (old new : Parts) → Working page old new → IsVictimSlot page slot way old
    → (p : HasProgrammed slot old new) → Programming slot p.page old new
programming_of page slot way old new w v p = record {
  slot_is = record { sound = w.sound; cache = w.cache; within = v.within; is = p.held; dirty = v.dirty };
  begins = p.cache;
  window = p.window;
  pages = p.pages;
  capacity = w.same.capacity;
  pending = p.pending;
}

-- the slot is clean once the flush is sealed
programmed_soon : (page slot way : ℕ) (old new : Parts) → Working page old new → IsVictimSlot page slot way old → (p : HasProgrammed slot old new)
    → soon_clean new.store.pending (way_at new.cache page way) ≡ true
programmed_soon page slot way old new w v p =
    let own : holds (cache_slot_at old.cache.slots slot) p.page.0 ≡ true = rw p.held (eq-eqb p.page.0 p.page.0 refl) in
    let same : p.cache.index ≡ slot =
    w.cache.slots.unique p.cache.index slot p.page.0 p.cache.within v.within p.cache.holds own in
    let there : first_of old.cache page + way ≡ p.cache.index = sym v.slot_is ∙ sym same in
    let found : CacheSlot = cache_slot_at old.cache.slots p.cache.index in
    let way_is : way_at new.cache page way ≡ slot_flushing found =
    rw (p.cache.is, there, get_or-set_same old.cache.slots p.cache.index (slot_flushing found) empty_slot p.cache.within) refl in
    rw (p.pending, way_is) (flushing_soon p.page.0 (cache_slot_at old.cache.slots slot).bytes found p.cache.holds)

programmed_row : (page slot way : ℕ) (old new : Parts) → Working page old new → IsVictimSlot page slot way old → HasProgrammed slot old new
    → Row page Stepped old new
programmed_row page slot way old new w v p =
    let programming = programming_of page slot way old new w v p in
    let edited = programming_edited slot p.page old new programming in
    let found : CacheSlot = cache_slot_at old.cache.slots slot in
    let frames : SameFrames old.cache new.cache = frames_by p.page.0 slot_flushing old.cache new.cache p.cache (λ s. refl) (λ s. refl) in
    let still : held new.cache.slots page ≡ None =
    none_of (held new.cache.slots page)
    (edited_resident p.page.0 found (slot_flushing found) old new edited page ∙ absent_no old page w.absent) in
    row_of page old new (edited_keeps p.page.0 found (slot_flushing found) old new edited refl)
    (programmed_falls old new page way p.page.0 found.bytes w.absent still v.idle v.full v.chosen (rw (sym v.slot_is) v.dirty) frames p.window p.pending
    (programmed_soon page slot way old new w v p))

pub flush_row : (page slot way : ℕ) (result : Work) (old new : Parts) → Working page old new → IsVictimSlot page slot way old
    → FlushRow slot result old new → Row page result old new
flush_row page slot way Stepped old new w v (inl p) = programmed_row page slot way old new w v p
flush_row page slot way Stepped old new w v (inr c) =
    row_of page old new (stopped_keeps old new c.same)
    (collected_falls old new page way w.absent v.idle v.full v.chosen (rw (sym v.slot_is) v.dirty) c.same.cache c.same.window c.pending c.fewer)
flush_row page slot way Failed old new w v f = failed_row page old new (stopped_keeps old new f.0)
flush_row page slot way Off old new w v f = off_row page old new (stopped_keeps old new f.0)
flush_row page slot way Ready old new w v f = absurd f
flush_row page slot way (Pinned other) old new w v f = absurd f

-- values were raised before the row
raised_row : (page slot : ℕ) (result : Work) (old mid new : Parts) → Raising page slot old mid → held old.cache.slots page ≡ None
    → old.store.pending ≡ None → is_full_set old.cache page ≡ true → Row page result mid new → Row page result old new
raised_row page slot result old mid new r absent idle full row =
    let is : mid ≡ with_values mid.cache.values old = r.raised.is in
    let steps : steps_to mid page ≡ steps_to old page =
    ap (λ (m : Parts). steps_to m page) is ∙ raising_steps page slot old mid r absent idle full in
    record {
      keeps = raised_keeps old mid new mid.cache.values is row.keeps;
      falls = λ e. let less = row.falls e in omega arith;
      busy = row.busy;
      free = row.free;
    }

-- what is known of a device with raised values
raised_working : (page slot : ℕ) (old mid new : Parts) → Working page old new → Raising page slot old mid → Working page mid new
raised_working page slot old mid new w r =
    let values : List (List ℕ) = mid.cache.values in
    let cache : IsCacheSound (record old.cache { values = values }) = raising_cache page slot old mid r in
    let known : Working page (with_values values old) new = record {
      sound = sound_values old values w.sound;
      cache = cache;
      store = w.store;
      in_range = w.in_range;
      absent = w.absent;
      on = w.on;
      after = w.after;
      same = w.same;
    } in
    rw r.raised.is known

raised_place : (page slot : ℕ) (old mid : Parts) → Raising page slot old mid → (cache_slot_at old.cache.slots slot).dirty ≡ false
    → old.store.pending ≡ None → IsPlace page slot mid
raised_place page slot old mid r clean idle =
    let in_set = raising_place page slot old mid r in
    let known : IsPlace page slot (with_values mid.cache.values old) = record {
      in_set = record { way = in_set.way; within = in_set.within };
      clean = clean;
      goes = raising_goes page slot old mid r;
      idle = idle;
    } in
    rw r.raised.is known

raised_victim : (page slot : ℕ) (old mid : Parts) → (r : Raising page slot old mid) → (cache_slot_at old.cache.slots slot).dirty ≡ true
    → old.store.pending ≡ None → is_full_set old.cache page ≡ true → IsVictimSlot page slot r.raised.chosen.way mid
raised_victim page slot old mid r dirty idle full =
    let known : IsVictimSlot page slot r.raised.chosen.way (with_values mid.cache.values old) = record {
      within = (raising_place page slot old mid r).within;
      dirty = dirty;
      slot_is = r.raised.chosen.slot_is;
      chosen = raising_after page slot old mid r;
      full = full;
      idle = idle;
    } in
    rw r.raised.is known

empty_unposted : (posts : List Post) (found : Option PageNo) → is_none found ≡ true → page_waits posts found ≡ false
empty_unposted posts None is = refl
empty_unposted posts (Some page) is = absurd (cc)

-- an empty way is clean and may give way
empty_place : (page slot : ℕ) (old : Parts) → IsCacheSound old.cache → old.store.pending ≡ None → IsEmptyWay old.cache page slot
    → IsPlace page slot old
empty_place page slot old cache idle e =
    let clean : (cache_slot_at old.cache.slots slot).dirty ≡ false = cache.slots.clean slot e.empty in
    let unpinned : (cache_slot_at old.cache.slots slot).pinned ≡ false = cache.slots.unpinned slot e.empty in
    let unposted = empty_unposted old.window.posts (cache_slot_at old.cache.slots slot).page e.empty in
    record { in_set = e.in_set; clean = clean; goes = rw (unpinned, unposted) refl; idle = idle }

pub works_row : (page : ℕ) (result : Work) (old new : Parts) → Working page old new → Row page result old new
    → Powers (stop_of_work result) old.store new.store → Works page result (lines_of old) (lines_of new)
works_row page Ready old new w row powers = absurd (row.busy refl)
works_row page Stepped old new w row powers =
    (absent_no old page w.absent, row.falls refl, record { was = w.on; on = powers.on ∙ w.on; faults = powers.faults })
works_row page (Pinned named) old new w row powers = absurd (row.free named refl)
works_row page Failed old new w row powers =
    (absent_no old page w.absent, record { was = powers.was; on = powers.on; faults = powers.faults; used = powers.used })
works_row page Off old new w row powers =
    record { on = powers.on; cut = λ was. (absent_no old page w.absent, powers.cut was) }

-- no way may give way
no_way_keeps : (page : ℕ) (result : Work) (old new : Parts) → NoWayRow page result old new → SameLimits old.store new.store
    → Powers (stop_of_work result) old.store new.store → KeepsLines (lines_of old) (lines_of new)
no_way_keeps page Stepped old new n same powers = drained_keeps old new n.drained
no_way_keeps page (Pinned named) old new n same powers = keeps_lines (Pinned named) old new (same_keeps old new n.1) same powers
no_way_keeps page Ready old new n same powers = absurd n
no_way_keeps page Failed old new n same powers = absurd n
no_way_keeps page Off old new n same powers = absurd n

first_holds : (cache : CacheView) (page : ℕ) (named : PageNo) → IsCacheSound cache → (way_at cache page 0).page ≡ Some named
    → held cache.slots named.0 ≡ Some (way_at cache page 0)
first_holds cache page named sound is =
    let k : ℕ = first_of cache page + 0 in
    let fits = set_fits (page % cache.sets) cache.sets cache.ways (mod-lt page sound.sizes.some_sets) in
    let size = sound.slots.size in
    let some = sound.sizes.some_ways in
    let within : k < length cache.slots = omega arith in
    (slot_of_page cache named.0 k sound within (rw is (eq-eqb named.0 named.0 refl))).held

no_way_works : (page : ℕ) (result : Work) (old new : Parts) → Working page old new → NoWayRow page result old new
    → old.store.pending ≡ None → is_full_set old.cache page ≡ true → chosen_way old page ≡ None
    → Powers (stop_of_work result) old.store new.store → Works page result (lines_of old) (lines_of new)
no_way_works page Stepped old new w n idle full none powers =
    let still : held new.cache.slots page ≡ None =
    none_of (held new.cache.slots page) (n.drained.residence.resident page ∙ absent_no old page w.absent) in (
      absent_no old page w.absent,
      drained_falls old new page w.cache w.absent still idle full none n.unpinned n.frames n.drained.lines.posts n.store,
      record { was = w.on; on = powers.on ∙ w.on; faults = powers.faults },
    )
no_way_works page (Pinned named) old new w n idle full none powers =
    let there = first_holds old.cache page named w.cache n.0.least in (
      absent_no old page w.absent,
      rw there refl,
      rw there (n.0.pinned 0 w.cache.sizes.some_ways),
      record { was = w.on; on = powers.on ∙ w.on; faults = powers.faults },
    )
no_way_works page Ready old new w n idle full none powers = absurd n
no_way_works page Failed old new w n idle full none powers = absurd n
no_way_works page Off old new w n idle full none powers = absurd n

-- what a step for a page promises
pub record Promised (page : ℕ) (result : Work) (old new : Parts) : Type 0 where
  pub works : Works page result (lines_of old) (lines_of new)
  pub keeps : KeepsLines (lines_of old) (lines_of new)

promised_row : (page : ℕ) (result : Work) (old new : Parts) → Working page old new → Row page result old new
    → Powers (stop_of_work result) old.store new.store → Promised page result old new
promised_row page result old new w row powers =
    record { works = works_row page result old new w row powers; keeps = keeps_lines result old new row.keeps w.same powers }

pub step_promised : (page : ℕ) (result : Work) (old new : Parts) → Working page old new → IsWorkStep page old result new
    → Powers (stop_of_work result) old.store new.store → Promised page result old new
step_promised page result old new w (seals waits row) powers = promised_row page result old new w (seal_row page result old new w row) powers
step_promised page result old new w (fills idle slot empty row) powers =
    promised_row page result old new w (fetch_row page slot result old new w (empty_place page slot old w.cache idle empty) row) powers
step_promised page result old new w (no_way idle full none row) powers = record {
  works = no_way_works page result old new w row idle full none powers;
  keeps = no_way_keeps page result old new row w.same powers;
}
step_promised page result old new w (replaces idle full slot mid raised clean row) powers =
    let r : Raising page slot old mid = record { sound = w.sound; cache = w.cache; raised = raised } in
    let there = fetch_row page slot result mid new (raised_working page slot old mid new w r) (raised_place page slot old mid r clean idle) row in
    promised_row page result old new w (raised_row page slot result old mid new r w.absent idle full there) powers
step_promised page result old new w (flushes idle full slot mid raised dirty row) powers =
    let r : Raising page slot old mid = record { sound = w.sound; cache = w.cache; raised = raised } in
    let there = flush_row page slot r.raised.chosen.way result mid new (raised_working page slot old mid new w r)
    (raised_victim page slot old mid r dirty idle full) row in
    promised_row page result old new w (raised_row page slot result old mid new r w.absent idle full there) powers

-- the first row: a flush waits, a way is empty, none may give way, or one was chosen
pub raised_step : (page slot : ℕ) (result : Work) (old mid new : Parts) → old.store.pending ≡ None → is_full_set old.cache page ≡ true
    → IsRaised page slot old mid
    → ((cache_slot_at mid.cache.slots slot).dirty ≡ true → FlushRow slot result mid new)
    → ((cache_slot_at mid.cache.slots slot).dirty ≡ false → FetchRow page slot result mid new)
    → IsWorkStep page old result new
raised_step page slot result old mid new idle full raised dirty clean =
    let same : cache_slot_at mid.cache.slots slot ≡ cache_slot_at old.cache.slots slot = ap (λ m. cache_slot_at m.cache.slots slot) raised.is in
    elim (cases_Bool (cache_slot_at old.cache.slots slot).dirty) [
      | inl is ↦ flushes idle full slot mid raised is (dirty (ap (λ (s : CacheSlot). s.dirty) same ∙ is))
      | inr is ↦ replaces idle full slot mid raised is (clean (ap (λ (s : CacheSlot). s.dirty) same ∙ is))
    ]

-- the chosen slot is one of the set, and may give way
pub chosen_place : (page slot : ℕ) (old mid : Parts) → IsDeviceSound old → IsCacheSound old.cache → IsRaised page slot old mid
    → IsInSet mid.cache page slot
chosen_place page slot old mid sound cache raised =
    let in_set = raising_place page slot old mid (record { sound = sound; cache = cache; raised = raised }) in
    rw raised.is (record { way = in_set.way; within = in_set.within })

pub chosen_goes : (page slot : ℕ) (old mid : Parts) → IsDeviceSound old → IsCacheSound old.cache → IsRaised page slot old mid
    → may_go mid.window.posts (cache_slot_at mid.cache.slots slot) ≡ true
chosen_goes page slot old mid sound cache raised =
    rw raised.is (raising_goes page slot old mid (record { sound = sound; cache = cache; raised = raised }))

pub empty_goes : (page slot : ℕ) (old : Parts) → IsCacheSound old.cache → old.store.pending ≡ None → IsEmptyWay old.cache page slot
    → ((cache_slot_at old.cache.slots slot).dirty ≡ false) × (may_go old.window.posts (cache_slot_at old.cache.slots slot) ≡ true)
empty_goes page slot old cache idle e = let p = empty_place page slot old cache idle e in (p.clean, p.goes)

-- a device whose values may have been raised, and whose cache is as before
pub unraised : (old mid : DeviceView) → mid ≡ record old { cache = record old.cache { values = mid.cache.values } }
    → mid.cache ≡ old.cache → mid ≡ old
unraised old mid same kept = same ∙ ap (λ (cache : CacheView). record old { cache = record old.cache { values = cache.values } }) kept

-- no flush waits
pub pending_none : (waits : Option PendingFlush) → is_some waits ≡ false → waits ≡ None
pending_none None is = refl
pending_none (Some flush) is = absurd (cc)

pub absent_of : (held : Option CacheSlot) → is_some held ≡ false → held ≡ None
absent_of None is = refl
absent_of (Some slot) is = absurd (cc)
