-- A cache of which a slot was filled with a page that was held nowhere.
use Rattle.std.proofs.Common.{◌≡◌, ◌≢◌, ◌<◌, inl, inr, ℕ, ◌/◌, ◌%◌, true, false, List, [], length, set, refl, sym, ◌∙◌, arith, None, length-set, get_or-set_same, get_or-set_other}
use Rattle.std.proofs.lemmas.Bool.{cases_eq, eqb-true}
use Rattle.ff_cache.specs.Cache.{CacheView, values_at, with_value, AreValues, IsCacheSound, IsInSet}
use Rattle.ff_cache.specs.Slots.{empty_slot, held, holds, cache_slot_at, slot_filled, ArePlaced, IsWayOf}
use Rattle.ff_cache.specs.declared.slot.CacheSlot.{CacheSlot}
use Rattle.ff_cache.proofs.Held.{none_holds}

-- one value of a set's was changed
pub values_kept : (sets ways at way value : ℕ) (values : List (List ℕ)) → AreValues sets ways values
    → AreValues sets ways (set values at (set (values_at values at) way value))
values_kept sets ways at way value values are =
    let row : List ℕ = set (values_at values at) way value in
    record {
      count = length-set values at row ∙ are.count;
      each = λ one within. elim (cases_eq one at) [
        | inl same ↦
            let inside : at < length values = omega (arith, are.count) in
            rw (same, get_or-set_same values at row [] inside)
            (length-set (values_at values at) way value ∙ are.each at (omega arith))
        | inr apart ↦ rw (get_or-set_other values at one row [] apart) (are.each one within)
      ];
    }

filled_holds : (page p : ℕ) (bytes : List ℕ) → holds (slot_filled page bytes) p ≡ true → p ≡ page
filled_holds page p bytes is = sym (eqb-true page p is)

pub filled_placed : (sets ways page k : ℕ) (bytes : List ℕ) (slots : List CacheSlot) → ArePlaced sets ways slots
    → k < length slots → IsWayOf sets ways page k → held slots page ≡ None
    → ArePlaced sets ways (set slots k (slot_filled page bytes))
filled_placed sets ways page k bytes slots are within way absent =
    let slot : CacheSlot = slot_filled page bytes in
    let here : cache_slot_at (set slots k slot) k ≡ slot = get_or-set_same slots k slot empty_slot within in
    let there = λ (j : ℕ) (apart : j ≢ k). get_or-set_other slots k j slot empty_slot apart in
    let size : length (set slots k slot) ≡ length slots = length-set slots k slot in
    record {
      size = size ∙ are.size;
      placed = λ j p below is. elim (cases_eq j k) [
        | inl same ↦
            let filled : holds slot p ≡ true = rw (same, here) at is in
            rw (filled_holds page p bytes filled, same) way
        | inr apart ↦ are.placed j p (omega arith) (rw (there j apart) at is)
      ];
      unique = λ j i p below under is also. elim (cases_eq j k) [
        | inl same ↦ elim (cases_eq i k) [
          | inl other ↦ same ∙ sym other
          | inr apart ↦
              let filled : holds slot p ≡ true = rw (same, here) at is in
              let held_there : holds (cache_slot_at slots i) page ≡ true =
              rw (sym (filled_holds page p bytes filled)) (rw (there i apart) at also) in
              let nowhere : holds (cache_slot_at slots i) page ≡ false = none_holds slots page i absent (omega arith) in
              absurd (cc)
        ]
        | inr apart ↦ elim (cases_eq i k) [
          | inl other ↦
              let filled : holds slot p ≡ true = rw (other, here) at also in
              let held_there : holds (cache_slot_at slots j) page ≡ true =
              rw (sym (filled_holds page p bytes filled)) (rw (there j apart) at is) in
              let nowhere : holds (cache_slot_at slots j) page ≡ false = none_holds slots page j absent (omega arith) in
              absurd (cc)
          | inr also_apart ↦
              are.unique j i p (omega arith) (omega arith) (rw (there j apart) at is) (rw (there i also_apart) at also)
        ]
      ];
      clean = λ j empty. elim (cases_eq j k) [
        | inl same ↦ rw (same, here) refl
        | inr apart ↦ rw (there j apart) (are.clean j (rw (there j apart) at empty))
      ];
      unpinned = λ j empty. elim (cases_eq j k) [
        | inl same ↦ rw (same, here) refl
        | inr apart ↦ rw (there j apart) (are.unpinned j (rw (there j apart) at empty))
      ];
    }

pub put_sound : (old : CacheView) (page slot : ℕ) (bytes : List ℕ) (value : ℕ) → IsCacheSound old → IsInSet old page slot
    → held old.slots page ≡ None
    → IsCacheSound (record old { slots = set old.slots slot (slot_filled page bytes); values = with_value old slot value })
put_sound old page slot bytes value sound in_set absent = record {
  sizes = sound.sizes;
  slots = filled_placed old.sets old.ways page slot bytes old.slots sound.slots in_set.within in_set.way absent;
  values = values_kept old.sets old.ways (slot / old.ways) (slot % old.ways) value old.values sound.values;
}
