-- How a page arena's fields show, and what they keep.
use Rattle.std.specs.Prelude.{ℕ, ◌*◌, ◌<◌, ◌≤◌, ◌≡◌, ◌^◌, List, vec_len, vec_capacity}
use Rattle.ff_base.specs.declared.numbers.TheConstants.{PAGE_BYTES}
use Rattle.ff_flash.specs.declared.page_arena.PageArena.TheInside.{Inside}
use Rattle.ff_flash.specs.PageArena.{AreSlots, slot_pages}

-- the bytes of each place
abbrev pub view_of : Inside → List (List ℕ)
view_of a = slot_pages a.bytes.items a.slots.items

-- the pages in use are behind one another, and the room for the rest is reserved
pub record IsKept (a : Inside) : Type 0 where
  pub slots : AreSlots a.slots.items a.used
  pub count : vec_len a.slots < 2 ^ 32
  pub used : vec_len a.bytes ≡ PAGE_BYTES * a.used
  pub room : PAGE_BYTES * vec_len a.slots ≤ vec_capacity a.bytes
