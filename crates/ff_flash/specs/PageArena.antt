-- Pages one behind another in one list of bytes, and the slot in it that each place has.
use Rattle.std.specs.Prelude.{ℕ, ◌*◌, ◌+◌, ◌<◌, ◌≡◌, List, [], Option, Some, None, is_some, not, take, drop, map, count_by, length, slice_index_or}
use Rattle.ff_base.specs.declared.numbers.TheConstants.{PAGE_BYTES}

-- the page of a slot
abbrev pub page_in : List ℕ → ℕ → List ℕ
page_in bytes slot = take PAGE_BYTES (drop (PAGE_BYTES * slot) bytes)

-- the page of a place that has this slot, or none
abbrev pub slot_page : List ℕ → Option ℕ → List ℕ
slot_page bytes None = []
slot_page bytes (Some slot) = page_in bytes slot

-- the pages of all places
abbrev pub slot_pages : List ℕ → List (Option ℕ) → List (List ℕ)
slot_pages bytes slots = map (λ slot. slot_page bytes slot) slots

-- how many places have no slot
abbrev pub slotless_count : List (Option ℕ) → ℕ
slotless_count slots = count_by (λ slot. not (is_some slot)) slots

-- the place has this slot
abbrev pub HasSlot : List (Option ℕ) → ℕ → ℕ → Type 0
HasSlot slots place slot = slice_index_or slots place None ≡ Some slot

-- each slot in use is of one place, and there is room for one for each place that has none
pub record AreSlots (slots : List (Option ℕ)) (used : ℕ) : Type 0 where
  pub free : slotless_count slots + used ≡ length slots
  pub each : (place slot : ℕ) → HasSlot slots place slot → slot < used
  pub apart : (first second slot : ℕ)
      → HasSlot slots first slot → HasSlot slots second slot → first ≡ second
