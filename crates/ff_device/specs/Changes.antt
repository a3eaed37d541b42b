-- What is done to the slot of one page.
use Rattle.std.specs.Prelude.{ℕ, ◌<◌, ◌≡◌, true, List, length, Option, Some, slice_set}
use Rattle.ff_base.specs.declared.numbers.PageNo.{PageNo}
use Rattle.ff_cache.specs.Cache.{CacheView}
use Rattle.ff_cache.specs.Slots.{held, holds, cache_slot_at, slot_written}
use Rattle.ff_cache.specs.declared.slot.CacheSlot.{CacheSlot}
use Rattle.ff_lines.specs.declared.post.Post.{Post}

-- the slot of a page was changed
pub record Changes (page : ℕ) (change : CacheSlot → CacheSlot) (old new : CacheView) : Type 0 where
  pub index : ℕ
  pub within : index < length old.slots
  pub holds : holds (cache_slot_at old.slots index) page ≡ true
  pub held : held old.slots page ≡ Some (cache_slot_at old.slots index)
  pub is : new
      ≡ record old { slots = slice_set old.slots index (change (cache_slot_at old.slots index)) }

-- the slot with a post laid over its page
abbrev pub slot_after : Post → CacheSlot → CacheSlot
slot_after post slot = slot_written slot post.line post.from post.bytes

-- a post of a piece
abbrev pub post_of : PageNo → ℕ → ℕ → List ℕ → Option ℕ → Post
post_of page line from bytes position =
    record { page = page; line = line; from = from; bytes = bytes; position = position }
