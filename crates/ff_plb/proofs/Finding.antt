-- The first slot with an entry of a page.
use Rattle.std.specs.Prelude.{IsSome}
use Rattle.std.proofs.Common.{◌≡◌, ℕ, zero, suc, ◌<◌, List, [], ◌∷◌, length, Option, None, Some, refl, arith}
use Rattle.std.proofs.lemmas.Option.{none-some}
use Rattle.ff_plb.specs.Plb.{IsFound, entry_if, entry_of, slot_at}
use Rattle.ff_plb.specs.declared.slot.Slot.{Slot}
use Rattle.ff_plb.proofs.Entries.{entry_if-page}

-- no slot has an entry of the page
pub none-found : (slots : List (Option Slot)) (page : ℕ)
    → ((k : ℕ) → k < length slots → entry_if (slot_at slots k) page ≡ None) → entry_of slots page ≡ None
none-found [] page none = refl
none-found (first ∷ later) page none =
    let here : entry_if first page ≡ None = none zero (omega arith) in
    rw here (none-found later page (λ k within. none (suc k) (omega arith)))

-- the entry of the first slot that has one of the page
pub entry_of-first : (slots : List (Option Slot)) (at page : ℕ) (entry : Slot)
    → ((k : ℕ) → k < at → entry_if (slot_at slots k) page ≡ None) → entry_if (slot_at slots at) page ≡ Some entry
    → entry_of slots page ≡ Some entry
entry_of-first [] at page entry none found = absurd (none-some entry found)
entry_of-first (first ∷ later) zero page entry none found = rw found refl
entry_of-first (first ∷ later) (suc at) page entry none found =
    let here : entry_if first page ≡ None = none zero (omega arith) in
    rw here (entry_of-first later at page entry (λ k below. none (suc k) (omega arith)) found)

some_is : (found : Option Slot) → IsSome found → (entry : Slot) × (found ≡ Some entry)
some_is None some = absurd (cc)
some_is (Some entry) some = (entry, refl)

pub found-here : (slots : List (Option Slot)) (at page : ℕ) → at < length slots
    → ((k : ℕ) → k < at → entry_if (slot_at slots k) page ≡ None) → IsSome (entry_if (slot_at slots at) page)
    → IsFound slots page at
found-here slots at page within none some =
    let found = some_is (entry_if (slot_at slots at) page) some in
    let there = entry_if-page (slot_at slots at) page found.0 found.1 in
    record {
      entry = found.0;
      has = record { in_range = within; there = there.0 };
      page_is = there.1;
      of_page = entry_of-first slots at page found.0 none found.1;
    }
