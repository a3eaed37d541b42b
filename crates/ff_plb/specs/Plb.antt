-- The slots of the buffer, and what they keep.
use Rattle.std.specs.Prelude.{ℕ, ◌≡◌, ◌≢◌, ◌==◌, ◌<◌, ◌^◌, List, [], ◌∷◌, length, Option, Some, None, slice_index_or, slice_set, if◌then◌else◌}
use Rattle.std.specs.Option.{option_or}
use Rattle.ff_plb.specs.Slot.{IsFlying}
use Rattle.ff_plb.specs.declared.slot.Slot.{Slot}

-- the entry in a slot; there is none past the end
abbrev pub slot_at : List (Option Slot) → ℕ → Option Slot
slot_at slots slot = slice_index_or slots slot None

-- the slots with one changed
abbrev pub with_slot : List (Option Slot) → ℕ → Option Slot → List (Option Slot)
with_slot slots slot entry = slice_set slots slot entry

-- the entry in a slot, where it is of this page
abbrev pub entry_if : Option Slot → ℕ → Option Slot
entry_if None page = None
entry_if (Some entry) page = if entry.page.0 == page then Some entry else None

-- the entry of a page
abbrev pub entry_of : List (Option Slot) → ℕ → Option Slot
entry_of [] page = None
entry_of (slot ∷ later) page = option_or (entry_if slot page) (entry_of later page)

-- what a buffer keeps: no page has two entries
pub record ArePagesApart (slots : List (Option Slot)) : Type 0 where
  pub apart : (i j : ℕ) (one other : Slot) → slot_at slots i ≡ Some one
      → slot_at slots j ≡ Some other → one.page.0 ≡ other.page.0 → i ≡ j
  pub few : length slots < 2 ^ 32

-- the slot has this entry
pub record HasEntry (slots : List (Option Slot)) (slot : ℕ) (entry : Slot) : Type 0 where
  pub in_range : slot < length slots
  pub there : slot_at slots slot ≡ Some entry

-- the slot has an entry
pub record IsInUse (slots : List (Option Slot)) (slot : ℕ) : Type 0 where
  pub entry : Slot
  pub has : HasEntry slots slot entry

-- the slot has an entry with a line under way
pub record HasFlight (slots : List (Option Slot)) (slot : ℕ) : Type 0 where
  pub entry : Slot
  pub has : HasEntry slots slot entry
  pub flies : IsFlying entry

-- the slot has the entry of the page
pub record IsFound (slots : List (Option Slot)) (page slot : ℕ) : Type 0 where
  pub entry : Slot
  pub has : HasEntry slots slot entry
  pub page_is : entry.page.0 ≡ page
  pub of_page : entry_of slots page ≡ Some entry

-- the slot is empty
pub record IsEmpty (slots : List (Option Slot)) (slot : ℕ) : Type 0 where
  pub in_range : slot < length slots
  pub empty : slot_at slots slot ≡ None

-- the slot is empty, and none before it is
pub record IsLeastEmpty (slots : List (Option Slot)) (slot : ℕ) : Type 0 where
  pub has : IsEmpty slots slot
  pub least : (other : ℕ) → other < slot → slot_at slots other ≢ None

-- no slot is empty
abbrev pub IsNoneEmpty : List (Option Slot) → Type 0
IsNoneEmpty slots = (slot : ℕ) → IsEmpty slots slot → ⊥
