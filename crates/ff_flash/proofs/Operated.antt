-- What an operation makes of a flash's power, its count of operations, and what it keeps.
use Rattle.std.proofs.Common.{◌≡◌, ◌≢◌, ◌≤◌, ◌+◌, inl, inr, true, false, length, Option, Some, refl, sym, ap, ◌∙◌, arith}
use Rattle.std.specs.Prelude.{not}
use Rattle.std.proofs.lemmas.Bool.{cases_Bool}
use Rattle.ff_flash.specs.FlashState.{FlashState, IsFlashSound, Operates}
use Rattle.ff_flash.specs.declared.flash.FlashStop.{FlashStop}
use Rattle.ff_flash.specs.declared.flash.FlashStop.TheVariants.{Off}

-- the power was on before an operation that leaves it on
pub was_on : (before after : FlashState) (stop : Option FlashStop) → Operates before stop after → after.on ≡ true
    → before.on ≡ true
was_on before after stop operates on = elim (cases_Bool before.on) [
  | inl was ↦ was
  | inr off ↦
      let same : after.on ≡ before.on = ap (λ (flash : FlashState). flash.on) (operates.power.unpowered off) in
      let e : true ≡ false = sym on ∙ same ∙ off in cc
]

-- the power is off after an operation that was cut
pub off_after : (before after : FlashState) → Operates before (Some Off) after → after.on ≡ false
off_after before after operates = operates.power.off.0 refl

-- the power is on after an operation that stopped otherwise, or did not stop
pub on_after : (before after : FlashState) (stop : Option FlashStop) → Operates before stop after → stop ≢ Some Off
    → after.on ≡ true
on_after before after stop operates otherwise = elim (cases_Bool after.on) [
  | inl on ↦ on
  | inr off ↦ absurd (otherwise (operates.power.off.1 off))
]

-- the count of operations rises by at most one
pub operations_rise : (before after : FlashState) (stop : Option FlashStop) → Operates before stop after
    → before.operations ≤ after.operations
operations_rise before after stop operates = elim (cases_Bool before.on) [
  | inl on ↦ let counted = operates.power.counted on in omega arith
  | inr off ↦
      let same = ap (λ (flash : FlashState). flash.operations) (operates.power.unpowered off) in omega arith
]

pub operations_within : (before after : FlashState) (stop : Option FlashStop) → Operates before stop after
    → after.operations ≤ before.operations + 1
operations_within before after stop operates = elim (cases_Bool before.on) [
  | inl on ↦ let counted = operates.power.counted on in omega arith
  | inr off ↦
      let same = ap (λ (flash : FlashState). flash.operations) (operates.power.unpowered off) in omega arith
]

-- what every flash keeps holds on over an operation
pub sound_operated : (before after : FlashState) (stop : Option FlashStop) → IsFlashSound before
    → Operates before stop after → length after.cells ≡ length before.cells → IsFlashSound after
sound_operated before after stop sound operates size = record {
  size = rw (operates.same.blocks, operates.same.per_block) (size ∙ sound.size);
  faults = operates.faults.within;
  power = λ on. operates.power.cut (was_on before after stop operates on) ∙ ap not on;
}
