-- One block of the table: what its state means, and what a call makes of it.
use Rattle.std.specs.Prelude.{ℕ, ◌+◌, ◌-◌, ◌<◌, ◌≤◌, ◌≡◌, ◌==◌, Bool, true, false, if◌then◌else◌, ◌&&◌, nat_lt}
use Rattle.ff_space.specs.declared.block.BlockEntry.{BlockEntry}
use Rattle.ff_space.specs.declared.block.BlockState.{BlockState}
use Rattle.ff_space.specs.declared.block.BlockState.TheVariants.{Erased, Open, Full, Held, Waiting}

-- the write place and the count of mapped pages that a block of this state may have
abbrev pub StateFits : ℕ → BlockState → ℕ → ℕ → Type 0
StateFits per_block Erased next mapped = next ≡ 0
StateFits per_block Open next mapped = next < per_block
StateFits per_block Full next mapped = next ≡ per_block
StateFits per_block Held next mapped = Unit {0}
StateFits per_block Waiting next mapped = mapped ≡ 0

-- a block has no more mapped pages than programmed ones, and its state fits its write place
pub record IsBlockSound (per_block : ℕ) (block : BlockEntry) : Type 0 where
  pub mapped : block.mapped ≤ block.next
  pub next : block.next ≤ per_block
  pub fits : StateFits per_block block.state block.next block.mapped

-- a block every page of which is erased
abbrev pub erased_block : BlockEntry
erased_block = record { state = Erased; next = 0; mapped = 0 }

-- a block that was just taken
abbrev pub taken_block : BlockEntry
taken_block = record { state = Open; next = 0; mapped = 0 }

-- whether a block in this state is erased
abbrev pub is_erased : BlockState → Bool
is_erased Erased = true
is_erased Open = false
is_erased Full = false
is_erased Held = false
is_erased Waiting = false

-- whether a block in this state is full
abbrev pub is_full : BlockState → Bool
is_full Erased = false
is_full Open = false
is_full Full = true
is_full Held = false
is_full Waiting = false

-- whether a block is full and not all of its pages are mapped
abbrev pub is_collectable : ℕ → BlockEntry → Bool
is_collectable per_block block = is_full block.state && nat_lt block.mapped per_block

-- the state of a block by its write place alone, where it is neither held nor waiting
abbrev pub state_by_next : ℕ → ℕ → BlockState
state_by_next per_block next =
    if next == 0 then Erased else (if next == per_block then Full else Open)

-- the state of a block after its write place was raised to this one: an open block may become full
abbrev pub raised_state : ℕ → BlockState → ℕ → BlockState
raised_state per_block Open next = if next == per_block then Full else Open
raised_state per_block Erased next = Erased
raised_state per_block Full next = Full
raised_state per_block Held next = Held
raised_state per_block Waiting next = Waiting

-- the block after one more of its pages was programmed
abbrev pub advanced : ℕ → BlockEntry → BlockEntry
advanced per_block block = record block {
  state = raised_state per_block block.state (block.next + 1);
  next = block.next + 1;
}

-- the block as the destination of a collection, or no longer so
abbrev pub after_hold : ℕ → Bool → BlockEntry → BlockEntry
after_hold per_block true block = record block { state = Held }
after_hold per_block false block = record block { state = state_by_next per_block block.next }

-- the block with one more mapped page
abbrev pub mapped_more : BlockEntry → BlockEntry
mapped_more block = record block { mapped = block.mapped + 1 }

-- the block with one mapped page fewer
abbrev pub mapped_less : BlockEntry → BlockEntry
mapped_less block = record block { mapped = block.mapped - 1 }

-- the block that waits to be erased
abbrev pub waiting : BlockEntry → BlockEntry
waiting block = record block { state = Waiting }

-- the destination of a collection that ends: held no more, with so many more mapped pages
abbrev pub filled : ℕ → ℕ → BlockEntry → BlockEntry
filled per_block more block = record {
  state = state_by_next per_block block.next;
  next = block.next;
  mapped = block.mapped + more;
}

-- the victim of a collection that ends: it waits to be erased, and none of its pages is mapped
abbrev pub emptied : BlockEntry → BlockEntry
emptied block = record { state = Waiting; next = block.next; mapped = 0 }

-- a block found with this write place, and nothing mapped
abbrev pub block_placed : ℕ → ℕ → BlockEntry
block_placed per_block next =
    record { state = state_by_next per_block next; next = next; mapped = 0 }

-- a block in this state is programmed: it is open or held
abbrev pub IsWritable : BlockState → Type 0
IsWritable Open = Unit {0}
IsWritable Held = Unit {0}
IsWritable Erased = ⊥
IsWritable Full = ⊥
IsWritable Waiting = ⊥

-- one more page of the block may be programmed: it is open or held, and has one left
abbrev pub CanAdvance : ℕ → BlockEntry → Type 0
CanAdvance per_block block = (block.next < per_block) × IsWritable block.state
