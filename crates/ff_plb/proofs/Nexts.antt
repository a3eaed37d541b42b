-- The first slot that has an entry with a next step.
use Rattle.std.proofs.Common.{◌≡◌, ℕ, ◌<◌, List, length, Option, None, Some, refl, inl, inr}
use Rattle.std.proofs.lemmas.Bool.{cases_lt}
use Rattle.ff_plb.specs.NextStep.{HasNext, IsLeastNext, IsNextIn, IsNoneNext}
use Rattle.ff_plb.specs.Plb.{slot_at}
use Rattle.ff_plb.specs.declared.slot.NextStep.{NextStep}
use Rattle.ff_plb.specs.declared.slot.Slot.{Slot}
use Rattle.ff_plb.specs.declared.slot.Way.{Way}

-- a slot that has one
pub next-of : (slots : List (Option Slot)) (way : Way) (step : NextStep) (at : ℕ) → HasNext slots way step at
    → IsNextIn (slot_at slots at) way step
next-of slots way step at is = rw is.has.there (is.way_is, is.next)

entry-in : (slot : Option Slot) (way : Way) (step : NextStep) → IsNextIn slot way step
    → (entry : Slot) × (slot ≡ Some entry) × IsNextIn (Some entry) way step
entry-in None way step is = absurd is
entry-in (Some entry) way step is = (entry, refl, is)

has-next : (slots : List (Option Slot)) (way : Way) (step : NextStep) (at : ℕ) → at < length slots
    → IsNextIn (slot_at slots at) way step → HasNext slots way step at
has-next slots way step at within is =
    let found = entry-in (slot_at slots at) way step is in
    record {
      entry = found.0;
      has = record { in_range = within; there = found.1 };
      way_is = found.2.0;
      next = found.2.1;
    }

pub least-next : (slots : List (Option Slot)) (way : Way) (step : NextStep) (at : ℕ) → at < length slots
    → ((k : ℕ) → k < at → IsNextIn (slot_at slots k) way step → ⊥) → IsNextIn (slot_at slots at) way step
    → IsLeastNext slots way step at
least-next slots way step at within before is = record {
  has = has-next slots way step at within is;
  least = λ other has. elim (cases_lt other at) [
    | inl earlier ↦ absurd (before other earlier (next-of slots way step other has))
    | inr later ↦ later
  ];
}

pub none-next : (slots : List (Option Slot)) (way : Way) (step : NextStep)
    → ((k : ℕ) → k < length slots → IsNextIn (slot_at slots k) way step → ⊥) → IsNoneNext slots way step
none-next slots way step none slot has = none slot has.has.in_range (next-of slots way step slot has)
