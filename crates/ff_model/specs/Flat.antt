-- The flat byte array: what the stores of a history leave at each address.
use Rattle.std.specs.Prelude.{ℕ, ◌≡◌, ◌<◌, ◌*◌, ◌-◌, ◌/◌, ◌==◌, ◌&&◌, ◌||◌, nat_le, Bool, true, false, if◌then◌else◌, List, [], ◌∷◌, Option, None, is_some, unwrap_or, slice_get, count_by}
use Rattle.std.specs.Option.{option_or}
use Rattle.std.specs.List.{list_any, range_with_len}
use Rattle.ff_base.specs.declared.numbers.TheConstants.{PAGE_BYTES}
use Rattle.ff_model.specs.Image.{Content, byte_at, held_page}
use Rattle.ff_model.specs.declared.history.Entry.{Entry}
use Rattle.ff_model.specs.declared.op.Op.{Op}
use Rattle.ff_model.specs.declared.op.Op.TheVariants.{Load, Store, Verify, Mark, Release}
use Rattle.ff_model.specs.declared.op.Reply.{Reply}
use Rattle.ff_model.specs.declared.op.Reply.TheVariants.{Bytes, Done, Range, Spent, Full, Fault}

-- what the last entry that says anything says
abbrev pub latest : {A : Type 0} → (Entry → Option A) → List Entry → Option A
latest says [] = None
latest says (entry ∷ later) = option_or (latest says later) (says entry)

-- the call was answered Done
abbrev pub is_done : Reply → Bool
is_done Done = true
is_done (Bytes bytes) = false
is_done Range = false
is_done Spent = false
is_done Full = false
is_done Fault = false

-- the byte that a call stores at an address, where it is a store that covers the address
abbrev pub covering_byte : ℕ → Op → Option ℕ
covering_byte address (Store at bytes) = if nat_le at address then slice_get bytes (address - at) else None
covering_byte address (Load at len) = None
covering_byte address Verify = None
covering_byte address (Mark page from count) = None
covering_byte address (Release page from count) = None

-- the byte that an answered call stores at an address: it is answered Done and stores it
abbrev pub answered_byte : ℕ → Op → Reply → Option ℕ
answered_byte address op reply = if is_done reply then covering_byte address op else None

-- the byte that an answered call leaves at an address, over the one that was there
abbrev pub byte_after : ℕ → Op → Reply → ℕ → ℕ
byte_after address op reply before = unwrap_or (answered_byte address op reply) before

-- the byte that an entry stores at an address
abbrev pub stored_byte : ℕ → Entry → Option ℕ
stored_byte address entry = answered_byte address entry.op entry.reply

-- the byte of the latest store that covers the address, else that of the image at the start
abbrev pub flat_byte_of : Content → List Entry → ℕ → ℕ
flat_byte_of base entries address = unwrap_or (latest (stored_byte address) entries) (byte_at base address)

-- the bytes of so many pages are the flat ones
abbrev pub IsFlat : Content → List Entry → ℕ → (ℕ → ℕ) → Type 0
IsFlat base entries pages byte =
    (address : ℕ) → address < PAGE_BYTES * pages → byte address ≡ flat_byte_of base entries address

-- the call is a store to this page
abbrev pub stores_to : ℕ → Op → Bool
stores_to page (Store at bytes) = at / PAGE_BYTES == page
stores_to page (Load at len) = false
stores_to page Verify = false
stores_to page (Mark marked from count) = false
stores_to page (Release released from count) = false

-- an entry is a store to the page that was answered Done
abbrev pub bears : ℕ → Entry → Bool
bears page entry = is_done entry.reply && stores_to page entry.op

-- a page is born where the image at the start holds it, or a store to it was answered Done
abbrev pub is_born : Content → List Entry → ℕ → Bool
is_born base entries page = is_some (held_page base page) || list_any (bears page) entries

-- how many of the pages are born
abbrev pub born_count : Content → List Entry → ℕ → ℕ
born_count base entries pages = count_by (is_born base entries) (range_with_len 0 pages)
