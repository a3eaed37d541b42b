-- The table where a page is programmed.
use Rattle.std.proofs.Common.{◌≡◌, ◌<◌, ◌*◌, ℕ, List, length, set, inr, refl, sym, ap, subst, ◌∙◌, arith}
use Rattle.std.proofs.lemmas.List.{set-set}
use Rattle.ff_space.proofs.Changed.{block_at-changed_at}
use Rattle.ff_space.specs.Blocks.{CanAdvance, IsWritable, StateFits, advanced, taken_block}
use Rattle.ff_space.specs.BlockTable.{IsBlockTableSound, BlockTableView, block_at, changed_at}
use Rattle.ff_space.specs.Choices.{IsBlockToTake}
use Rattle.ff_space.specs.declared.block.BlockEntry.{BlockEntry}
use Rattle.ff_space.specs.declared.block.BlockState.{BlockState}
use Rattle.ff_space.specs.declared.block.BlockState.TheVariants.{Erased, Open}
use Rattle.ff_gc.proofs.Begun.{erased_next}
use Rattle.ff_store.specs.Calls.{IsWritePlace, opened_block}

-- an erased block's write place is its first page
pub erased_place : (table : BlockTableView) (block : ℕ) → IsBlockTableSound table → IsBlockToTake table block
    → IsWritePlace table block (block * table.per_block)
erased_place table block sound take =
    let has = take.least.has in
    let next = erased_next table.per_block (block_at table block) (sound.each block has.in_range) has.state in
    record { chosen = inr take; at_is = omega arith }

open_is : (entry : BlockEntry) → entry.state ≡ Open → entry ≡ opened_block entry
open_is entry is = ap (λ (s : BlockState). let e : BlockEntry = record entry { state = s } in e) is

pub used_open : (table : BlockTableView) (block : ℕ) → (block_at table block).state ≡ Open
    → changed_at table block (advanced table.per_block)
    ≡ changed_at table block (λ entry. advanced table.per_block (opened_block entry))
used_open table block is =
    ap (λ (e : BlockEntry). let t : BlockTableView = record table { blocks = set table.blocks block (advanced table.per_block e) } in t)
    (open_is (block_at table block) is)

open_writable : (state : BlockState) → state ≡ Open → IsWritable state
open_writable state is = subst (λ s. IsWritable s) (sym is) tt

pub can_advance : (table : BlockTableView) (block : ℕ) → IsBlockTableSound table → block < length table.blocks
    → (block_at table block).state ≡ Open → CanAdvance table.per_block (block_at table block)
can_advance table block sound within is = (
  subst (λ s. StateFits table.per_block s (block_at table block).next (block_at table block).mapped) is
      (sound.each block within).fits,
  open_writable (block_at table block).state is,
)

taken_is : (entry : BlockEntry) → entry.next ≡ 0 → entry.mapped ≡ 0 → taken_block ≡ opened_block entry
taken_is entry next mapped = rw (next, mapped) refl

pub used_erased : (table : BlockTableView) (block : ℕ) → IsBlockTableSound table → block < length table.blocks
    → (block_at table block).state ≡ Erased
    → changed_at (changed_at table block (λ _. taken_block)) block (advanced table.per_block)
    ≡ changed_at table block (λ entry. advanced table.per_block (opened_block entry))
used_erased table block sound within is =
    let entry = block_at table block in
    let next = erased_next table.per_block entry (sound.each block within) is in
    let few = (sound.each block within).mapped in
    let none : entry.mapped ≡ 0 = omega arith in
    let taken = block_at-changed_at table block (λ _. taken_block) within in
    ap (λ (e : BlockEntry).
    let t : BlockTableView = record table { blocks = set (set table.blocks block taken_block) block (advanced table.per_block e) } in t)
    taken
    ∙ ap (λ (bs : List BlockEntry). let t : BlockTableView = record table { blocks = bs } in t)
    (set-set table.blocks block taken_block (advanced table.per_block taken_block))
    ∙ ap (λ (e : BlockEntry). let t : BlockTableView = record table { blocks = set table.blocks block (advanced table.per_block e) } in t)
    (taken_is entry next none)

pub can_advance_taken : (table : BlockTableView) (block : ℕ) → IsBlockTableSound table → block < length table.blocks
    → CanAdvance table.per_block (block_at (changed_at table block (λ _. taken_block)) block)
can_advance_taken table block sound within =
    subst (λ e. CanAdvance table.per_block e) (sym (block_at-changed_at table block (λ _. taken_block) within))
    ((let low = sound.per_block.low in omega arith), tt)
