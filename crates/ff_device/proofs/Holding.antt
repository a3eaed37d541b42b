-- Which slot holds a page after one slot was changed, or filled with another page.
use Rattle.std.proofs.Common.{◌≡◌, ◌≢◌, ◌<◌, inl, inr, ℕ, true, false, List, length, set, sym, ap, ◌∙◌, arith, Some, None, length-set, get_or-set_same, get_or-set_other}
use Rattle.std.proofs.lemmas.Bool.{cases_eq, false_from_ne_true}
use Rattle.std.proofs.lemmas.List.Folds.{find_past}
use Rattle.ff_cache.specs.Cache.{CacheView, IsCacheSound}
use Rattle.ff_cache.specs.Slots.{empty_slot, held, holds, cache_slot_at}
use Rattle.ff_cache.specs.declared.slot.CacheSlot.{CacheSlot}
use Rattle.ff_cache.proofs.Held.{held_first, held_none, holds_one, none_holds}
use Rattle.ff_device.specs.Changes.{Changes}

-- the slot of a page was changed
pub record Changed (page : ℕ) (slot after : CacheSlot) (old new : List CacheSlot) : Type 0 where
  pub before : held old page ≡ Some slot
  pub here : held new page ≡ Some after
  pub others : (p : ℕ) → p ≢ page → held new p ≡ held old p

-- a slot of the cache was changed, and holds the same page
pub changed_at : (cache : CacheView) (page k : ℕ) (after : CacheSlot) → IsCacheSound cache → k < length cache.slots
    → holds (cache_slot_at cache.slots k) page ≡ true → holds after page ≡ true → held cache.slots page ≡ Some (cache_slot_at cache.slots k)
    → Changed page (cache_slot_at cache.slots k) after cache.slots (set cache.slots k after)
changed_at cache page k after sound within is also before =
    let slots : List CacheSlot = cache.slots in
    let same : cache_slot_at (set slots k after) k ≡ after = get_or-set_same slots k after empty_slot within in
    let size : length (set slots k after) ≡ length slots = length-set slots k after in
    let inside : k < length (set slots k after) = omega arith in
    let found : held (set slots k after) page ≡ Some (cache_slot_at (set slots k after) k) =
    held_first (set slots k after) page k inside (rw same also) (λ j below.
    let apart : j ≢ k = omega arith in
    rw (get_or-set_other slots k j after empty_slot apart) (false_from_ne_true (holds (cache_slot_at slots j) page) (λ twice.
    let one : j ≡ k = sound.slots.unique j k page (omega arith) within twice is in absurd (omega arith)))) in
    record {
      before = before;
      here = found ∙ ap (λ (slot : CacheSlot). Some slot) same;
      others = λ p apart. find_past (λ slot. holds slot p) slots k after empty_slot
          (holds_one (cache_slot_at slots k) page p is apart) (holds_one after page p also apart);
    }

-- the slot of a page was changed
pub changed_by : (page : ℕ) (change : CacheSlot → CacheSlot) (old new : CacheView) → IsCacheSound old → (changes : Changes page change old new)
    → (change (cache_slot_at old.slots changes.index)).page ≡ (cache_slot_at old.slots changes.index).page
    → Changed page (cache_slot_at old.slots changes.index) (change (cache_slot_at old.slots changes.index)) old.slots new.slots
changed_by page change old new sound changes same =
    rw changes.is (changed_at old page changes.index (change (cache_slot_at old.slots changes.index)) sound changes.within changes.holds
    (rw same changes.holds) changes.held)

-- a slot was filled with a page that was held nowhere
pub record Replaced (page : ℕ) (gone filled : CacheSlot) (old new : List CacheSlot) : Type 0 where
  pub absent : held old page ≡ None
  pub here : held new page ≡ Some filled
  pub was : (p : ℕ) → holds gone p ≡ true → held old p ≡ Some gone
  pub left : (p : ℕ) → holds gone p ≡ true → held new p ≡ None
  pub others : (p : ℕ) → p ≢ page → holds gone p ≡ false → held new p ≡ held old p

pub replaced_at : (cache : CacheView) (page k : ℕ) (filled : CacheSlot) → IsCacheSound cache → k < length cache.slots
    → held cache.slots page ≡ None → holds filled page ≡ true
    → Replaced page (cache_slot_at cache.slots k) filled cache.slots (set cache.slots k filled)
replaced_at cache page k filled sound within absent is =
    let slots : List CacheSlot = cache.slots in
    let same : cache_slot_at (set slots k filled) k ≡ filled = get_or-set_same slots k filled empty_slot within in
    let size : length (set slots k filled) ≡ length slots = length-set slots k filled in
    let inside : k < length (set slots k filled) = omega arith in
    let found : held (set slots k filled) page ≡ Some (cache_slot_at (set slots k filled) k) =
    held_first (set slots k filled) page k inside (rw same is) (λ j below.
    let apart : j ≢ k = omega arith in
    rw (get_or-set_other slots k j filled empty_slot apart) (none_holds slots page j absent (omega arith))) in
    record {
      absent = absent;
      here = found ∙ ap (λ (slot : CacheSlot). Some slot) same;
      was = λ p holds_it. held_first slots p k within holds_it (λ j below. false_from_ne_true (holds (cache_slot_at slots j) p) (λ twice.
          let one : j ≡ k = sound.slots.unique j k p (omega arith) within twice holds_it in absurd (omega arith)));
      left = λ p holds_it. held_none (set slots k filled) p (λ j below. elim (cases_eq j k) [
        | inl one ↦
            rw (one, same) (holds_one filled page p is (λ e.
            let nowhere : holds (cache_slot_at slots k) page ≡ false = none_holds slots page k absent within in
            let there : holds (cache_slot_at slots k) page ≡ true = rw (sym e) holds_it in absurd (cc)))
        | inr apart ↦
            rw (get_or-set_other slots k j filled empty_slot apart) (false_from_ne_true (holds (cache_slot_at slots j) p) (λ twice.
            apart (sound.slots.unique j k p (omega arith) within twice holds_it)))
      ]);
      others = λ p apart not_gone. find_past (λ slot. holds slot p) slots k filled empty_slot not_gone (holds_one filled page p is apart);
    }
