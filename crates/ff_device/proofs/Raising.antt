-- A choice of the way that gives way raised values.
use Rattle.std.proofs.Common.{◌≡◌, ◌<◌, inl, inr, ℕ, suc, ◌+◌, ◌%◌, true, List, [], length, sym, ap, ◌∙◌, arith, Some, None, length-set, get_or-set_same, get_or-set_other}
use Rattle.std.proofs.Math.Nat.{mod-lt}
use Rattle.std.proofs.lemmas.Bool.{cases_eq}
use Rattle.ff_cache.specs.Cache.{is_full_set, values_of, way_at, AreValues, IsCacheSound, IsInSet}
use Rattle.ff_cache.specs.Slots.{held, cache_slot_at}
use Rattle.ff_cache.proofs.Sets.{set_fits}
use Rattle.ff_device.specs.Parts.{IsDeviceSound, Parts}
use Rattle.ff_device.specs.Steps.{chosen_way, may_go, steps_of_way, steps_to}
use Rattle.ff_device.specs.WorkRows.{IsRaised}
use Rattle.ff_device.proofs.Choices.{chosen_after, chosen_before, values_size}
use Rattle.ff_device.proofs.Falls.{steps_full, steps_idle}
use Rattle.ff_device.proofs.Oldest.{length-raised_from}
use Rattle.ff_device.proofs.Touching.{with_values}

pub record Raising (page slot : ℕ) (old mid : Parts) : Type 0 where
  pub sound : IsDeviceSound old
  pub cache : IsCacheSound old.cache
  pub raised : IsRaised page slot old mid

-- where the chosen way is
pub raising_within : (page slot : ℕ) (old mid : Parts) → (r : Raising page slot old mid) → r.raised.chosen.way < old.cache.ways
raising_within page slot old mid r =
    let size = values_size old.cache page r.cache in
    let inside = r.raised.chosen.victim.among.in_range in
    omega arith

pub raising_place : (page slot : ℕ) (old mid : Parts) → Raising page slot old mid → IsInSet old.cache page slot
raising_place page slot old mid r =
    let inside = raising_within page slot old mid r in
    let slot_is = r.raised.chosen.slot_is in
    let fits = set_fits (page % old.cache.sets) old.cache.sets old.cache.ways (mod-lt page r.cache.sizes.some_sets) in
    let size = r.cache.slots.size in
    record { way = record { from = omega arith; to = omega arith }; within = omega arith }

pub raising_way : (page slot : ℕ) (old mid : Parts) → (r : Raising page slot old mid)
    → way_at old.cache page r.raised.chosen.way ≡ cache_slot_at old.cache.slots slot
raising_way page slot old mid r = ap (λ (k : ℕ). cache_slot_at old.cache.slots k) (sym r.raised.chosen.slot_is)

pub raising_goes : (page slot : ℕ) (old mid : Parts) → Raising page slot old mid
    → may_go old.window.posts (cache_slot_at old.cache.slots slot) ≡ true
raising_goes page slot old mid r =
    rw (sym (raising_way page slot old mid r))
    (sym (r.raised.ways r.raised.chosen.way (raising_within page slot old mid r)) ∙ r.raised.chosen.victim.among.bit)

-- what holds of the device with the raised values
pub raising_values : (page slot : ℕ) (old mid : Parts) → Raising page slot old mid → AreValues old.cache.sets old.cache.ways mid.cache.values
raising_values page slot old mid r =
    let at : ℕ = page % old.cache.sets in
    let sets : mid.cache.sets ≡ old.cache.sets = ap (λ m. m.cache.sets) r.raised.is in
    let row : List ℕ = values_of mid.cache page in
    let same : length row ≡ length (values_of old.cache page) =
    ap length r.raised.chosen.victim.raises.1 ∙ length-raised_from 0 r.raised.allowed r.raised.chosen.victim.raises.0 (values_of old.cache page) in
    let count : length row ≡ old.cache.ways = same ∙ values_size old.cache page r.cache in
    rw r.raised.chosen.others (record {
      count = length-set old.cache.values at row ∙ r.cache.values.count;
      each = λ one within. elim (cases_eq one at) [
        | inl here ↦
            let inside : at < length old.cache.values = omega (arith, r.cache.values.count) in
            rw (here, get_or-set_same old.cache.values at row [] inside) count
        | inr apart ↦ rw (get_or-set_other old.cache.values at one row [] apart) (r.cache.values.each one within)
      ];
    })

pub raising_cache : (page slot : ℕ) (old mid : Parts) → Raising page slot old mid
    → IsCacheSound (record old.cache { values = mid.cache.values })
raising_cache page slot old mid r =
    record { sizes = r.cache.sizes; slots = r.cache.slots; values = raising_values page slot old mid r }

-- the same way is chosen, before and after
pub raising_before : (page slot : ℕ) (old mid : Parts) → (r : Raising page slot old mid) → chosen_way old page ≡ Some r.raised.chosen.way
raising_before page slot old mid r =
    chosen_before old page r.raised.allowed slot mid.cache r.cache r.raised.ways r.raised.chosen

pub raising_after : (page slot : ℕ) (old mid : Parts) → (r : Raising page slot old mid)
    → chosen_way (with_values mid.cache.values old) page ≡ Some r.raised.chosen.way
raising_after page slot old mid r =
    let sets : mid.cache.sets ≡ old.cache.sets = ap (λ m. m.cache.sets) r.raised.is in
    rw sets at (chosen_after old page r.raised.allowed slot mid.cache r.cache r.raised.ways r.raised.chosen)

-- so the steps stay
pub raising_steps : (page slot : ℕ) (old mid : Parts) → Raising page slot old mid → held old.cache.slots page ≡ None
    → old.store.pending ≡ None → is_full_set old.cache page ≡ true
    → steps_to (with_values mid.cache.values old) page ≡ steps_to old page
raising_steps page slot old mid r absent idle full =
    let way : ℕ = r.raised.chosen.way in
    let values : Parts = with_values mid.cache.values old in
    let before : steps_to old page ≡ suc (0 + steps_of_way old page (Some way)) =
    steps_idle old page absent idle ∙ ap (λ (n : ℕ). suc (0 + n)) (steps_full old page (Some way) full (raising_before page slot old mid r)) in
    let after : steps_to values page ≡ suc (0 + steps_of_way values page (Some way)) =
    steps_idle values page absent idle ∙ ap (λ (n : ℕ). suc (0 + n)) (steps_full values page (Some way) full (raising_after page slot old mid r)) in
    after ∙ sym before
