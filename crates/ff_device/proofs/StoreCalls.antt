-- What one call of the store makes of its power, its counts and its sizes.
use Rattle.std.proofs.Common.{◌≡◌, ◌+◌, Bool, true, false, length, Option, None, Some, inl, inr, refl, sym, ap, ◌∙◌, arith}
use Rattle.std.proofs.lemmas.Bool.{cases_Bool}
use Rattle.ff_flash.specs.FlashState.{FlashState, Operates}
use Rattle.ff_flash.specs.declared.flash.FlashStop.{FlashStop}
use Rattle.ff_flash.specs.declared.flash.FlashStop.TheVariants.{Failed, Off}
use Rattle.ff_gc.specs.Steps.{Takes, made, rested}
use Rattle.ff_store.specs.PageStore.{PageStoreView}
use Rattle.ff_device.specs.StoreState.{seen_of}
use Rattle.ff_device.specs.StoreSteps.{CallsOnce, Powers, SameLimits}

-- a store that stays as it is
pub still_calls : (s : PageStoreView) → CallsOnce s None s
still_calls s = record {
  with_power = λ on. record {
    same = record {
      blocks = refl;
      per_block = refl;
      pages = refl;
      plan = refl;
      making = refl;
      low = refl;
      opened = refl;
    };
    takes = rested refl refl refl;
  };
  without_power = λ down. refl;
}

on_after : (on : Bool) (stop : Option FlashStop) → (on ≡ false → stop ≡ Some Off) → (stop ≡ Some Off → ⊥) → on ≡ true
on_after true stop off not_off = refl
on_after false stop off not_off = absurd (not_off (off refl))

operated : (old new : FlashState) (stop : Option FlashStop) → old.on ≡ true → Operates old stop new
    → ((stop ≡ None) → (new.on ≡ true) × (new.faults ≡ old.faults)) × ((stop ≡ Some Failed) → (new.on ≡ true) × (new.faults ≡ old.faults + 1))
operated old new stop on o = (
  λ is. (on_after new.on stop (λ off. o.power.off.1 off) (λ off. (let both : None ≡ Some Off = sym is ∙ off in absurd (cc))), o.faults.worked is),
  λ is. (on_after new.on stop (λ off. o.power.off.1 off) (λ off. (let both : Some Failed ≡ Some Off = sym is ∙ off in absurd (cc))), o.faults.failed is),
)

took : (old new : PageStoreView) (stop : Option FlashStop) → old.world.flash.on ≡ true → Takes old.world stop new.world
    → Powers stop (seen_of old) (seen_of new)
took old new None on (made kind m) =
    let went = (operated old.world.flash new.world.flash None on m.flash).0 refl in
    let used = m.flash.power.counted on in
    record { on = went.0 ∙ sym on; faults = went.1; no_fall = omega arith; one_more = omega arith }
took old new (Some Failed) on (made kind m) =
    let went = (operated old.world.flash new.world.flash (Some Failed) on m.flash).1 refl in
    record { was = on; on = went.0; faults = went.1; used = m.flash.power.counted on }
took old new (Some Off) on (made kind m) =
    let used = m.flash.power.counted on in
    record { on = m.flash.power.off.0 refl; cut = λ _. used; no_fall = omega arith; one_more = omega arith }
took old new None on (rested flash counts none) = record {
  on = ap (λ (f : FlashState). f.on) flash;
  faults = ap (λ (f : FlashState). f.faults) flash;
  no_fall = rw flash (omega arith);
  one_more = rw flash (omega arith);
}
took old new (Some Failed) on (rested flash counts none) = absurd (cc)
took old new (Some Off) on (rested flash counts none) = absurd (cc)

pub powers_of : (old new : PageStoreView) (stop : Option FlashStop) → old.world.flash.on ≡ true → CallsOnce old stop new
    → Powers stop (seen_of old) (seen_of new)
powers_of old new stop on calls = took old new stop on (calls.with_power on).takes

pub limits_of : (old new : PageStoreView) (stop : Option FlashStop) → CallsOnce old stop new
    → SameLimits (seen_of old) (seen_of new)
limits_of old new stop calls = elim (cases_Bool old.world.flash.on) [
  | inl on ↦
      (let same = (calls.with_power on).same in
      record { most_left = rw same.per_block refl; capacity = rw (same.blocks, same.per_block) refl })
  | inr down ↦ rw (calls.without_power down) (record { most_left = refl; capacity = refl })
]

pub as_many_pages : (old new : PageStoreView) (stop : Option FlashStop) → CallsOnce old stop new
    → length new.world.places.pages ≡ length old.world.places.pages
as_many_pages old new stop calls = elim (cases_Bool old.world.flash.on) [
  | inl on ↦ (calls.with_power on).same.pages
  | inr down ↦ rw (calls.without_power down) refl
]
