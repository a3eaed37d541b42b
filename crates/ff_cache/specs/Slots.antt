-- Slots of a cache, and what each update makes of one.
use Rattle.std.specs.Prelude.{ℕ, ◌+◌, ◌*◌, ◌<◌, ◌≤◌, ◌≡◌, ◌%◌, ◌==◌, Bool, true, false, List, length, find, Option, Some, None, slice_index_or}
use Rattle.std.specs.Option.{is_none}
use Rattle.ff_base.specs.Page.{blank_page}
use Rattle.ff_base.specs.declared.numbers.PageNo.{PageNo}
use Rattle.ff_lines.specs.Overlay.{page_overlaid}
use Rattle.ff_cache.specs.declared.slot.CacheSlot.{CacheSlot}

-- a slot that holds no page; its bytes say nothing
abbrev pub empty_slot : CacheSlot
empty_slot = record {
  page =
      None;
  dirty = false;
  touched = false;
  pinned = false;
  bytes = blank_page;
}

-- the slot of a number; past the last it is empty
abbrev pub cache_slot_at : List CacheSlot → ℕ → CacheSlot
cache_slot_at slots k = slice_index_or slots k empty_slot

-- the page is this one
abbrev pub is_page : Option PageNo → ℕ → Bool
is_page None page = false
is_page (Some found) page = found.0 == page

-- the slot holds the page
abbrev pub holds : CacheSlot → ℕ → Bool
holds slot page = is_page slot.page page

-- the slot holds no page
abbrev pub is_empty : CacheSlot → Bool
is_empty slot = is_none slot.page

-- the slot that holds the page, if one does
abbrev pub held : List CacheSlot → ℕ → Option CacheSlot
held slots page = find (λ slot. holds slot page) slots

-- a slot over whose bytes a piece was laid
abbrev pub slot_written : CacheSlot → ℕ → ℕ → List ℕ → CacheSlot
slot_written slot line from piece =
    record slot { dirty = true; touched = true; bytes = page_overlaid slot.bytes line from piece }

-- a slot that was filled with a page from below
abbrev pub slot_filled : ℕ → List ℕ → CacheSlot
slot_filled page bytes =
    record {
      page = Some
          (record { 0 = page });
      dirty = false;
      touched = false;
      pinned = false;
      bytes = bytes;
    }

-- a slot whose bytes were programmed
abbrev pub slot_flushing : CacheSlot → CacheSlot
slot_flushing slot = record slot { touched = false }

-- a slot whose programmed bytes were sealed: it stays dirty where it was touched since
abbrev pub slot_flushed : CacheSlot → CacheSlot
slot_flushed slot = record slot { dirty = slot.touched }

abbrev pub slot_pinned : Bool → CacheSlot → CacheSlot
slot_pinned on slot = record slot { pinned = on }

-- the slot is the first of those from one on, and before another, that pass a test
pub record IsFirstThat (test : CacheSlot → Bool) (slots : List CacheSlot) (from to k : ℕ) : Type 0 where
  pub after : from ≤ k
  pub before : k < to
  pub passes : test (cache_slot_at slots k) ≡ true
  pub least : (j : ℕ) → from ≤ j → j < k → test (cache_slot_at slots j) ≡ false

-- none of those slots passes it
abbrev pub NonePasses : (CacheSlot → Bool) → List CacheSlot → ℕ → ℕ → Type 0
NonePasses test slots from to = (k : ℕ) → from ≤ k → k < to → test (cache_slot_at slots k) ≡ false

-- the slot is one of the ways of the page's set
pub record IsWayOf (sets ways page k : ℕ) : Type 0 where
  pub from : page % sets * ways ≤ k
  pub to : k < page % sets * ways + ways

-- each page has one slot at most, in its set, and an empty slot is clean and not pinned
pub record ArePlaced (sets ways : ℕ) (slots : List CacheSlot) : Type 0 where
  pub size : length slots ≡ sets * ways
  pub placed : (k page : ℕ) → k < length slots → holds (cache_slot_at slots k) page ≡ true
      → IsWayOf sets ways page k
  pub unique : (k j page : ℕ) → k < length slots → j < length slots
      → holds (cache_slot_at slots k) page ≡ true → holds (cache_slot_at slots j) page ≡ true
      → k ≡ j
  pub clean : (k : ℕ) → is_empty (cache_slot_at slots k) ≡ true
      → (cache_slot_at slots k).dirty ≡ false
  pub unpinned : (k : ℕ) → is_empty (cache_slot_at slots k) ≡ true
      → (cache_slot_at slots k).pinned ≡ false
