-- How many blocks can be collected.
use Rattle.std.proofs.Common.{◌≡◌, ◌<◌, ℕ, suc, Bool, true, ltb, List, [], ◌∷◌, length, inl, inr, refl, ap, arith}
use Rattle.std.specs.Prelude.{count_by}
use Rattle.std.proofs.lemmas.Bool.{cases_Bool, cases_lt, and_parts, lt-ltb, ltb-true}
use Rattle.ff_space.proofs.Changed.{count_by-some}
use Rattle.ff_space.specs.Blocks.{is_collectable, is_full}
use Rattle.ff_space.specs.BlockTable.{IsBlockTableSound, BlockTableView, block_at, collectable_count, block_in}
use Rattle.ff_space.specs.Choices.{IsAllMapped}
use Rattle.ff_space.specs.declared.block.BlockEntry.{BlockEntry}
use Rattle.ff_space.specs.declared.block.BlockState.{BlockState}
use Rattle.ff_space.specs.declared.block.BlockState.TheVariants.{Erased, Open, Full, Held, Waiting}

-- a block that passes a test, of those that are counted
record Counted (p : BlockEntry → Bool) (blocks : List BlockEntry) : Type 0 where
  pub block : ℕ
  pub within : block < length blocks
  pub passes : p (block_in blocks block) ≡ true

counted : (p : BlockEntry → Bool) (blocks : List BlockEntry) → 0 < count_by p blocks → Counted p blocks
counted p [] some = absurd (omega arith)
counted p (first ∷ later) some = elim (cases_Bool (p first)) [
  | inl hit ↦ record { block = 0; within = omega arith; passes = hit }
  | inr miss ↦
      let rest : 0 < count_by p later = rw miss at some in
      let found = counted p later rest in
      record { block = suc found.block; within = omega (arith, found.within); passes = found.passes }
]

full_of : (state : BlockState) → is_full state ≡ true → state ≡ Full
full_of Erased full = cc
full_of Open full = cc
full_of Full full = refl
full_of Held full = cc
full_of Waiting full = cc

-- where none is counted, every full block has all its pages mapped
pub none_counted : (table : BlockTableView) → IsBlockTableSound table
    → collectable_count table.per_block table.blocks ≡ 0 → IsAllMapped table
none_counted table sound none block is = elim (cases_lt (block_at table block).mapped table.per_block) [
  | inl fewer ↦
      let full : is_full (block_at table block).state ≡ true = ap is_full is.state in
      let less : ltb (block_at table block).mapped table.per_block ≡ true =
      lt-ltb (block_at table block).mapped table.per_block fewer in
      let passes : is_collectable table.per_block (block_at table block) ≡ true = rw (full, less) refl in
      absurd (omega (arith, count_by-some (is_collectable table.per_block) table.blocks block is.in_range passes))
  | inr whole ↦ (let entry = sound.each block is.in_range in omega (arith, entry.mapped, entry.next))
]

-- where one is counted, not all full blocks have
pub some_counted : (table : BlockTableView) → 0 < collectable_count table.per_block table.blocks
    → IsAllMapped table → ⊥
some_counted table some all =
    let found = counted (is_collectable table.per_block) table.blocks some in
    let parts = and_parts (is_full (block_at table found.block).state)
    (ltb (block_at table found.block).mapped table.per_block) found.passes in
    let full = full_of (block_at table found.block).state parts.0 in
    let less = ltb-true (block_at table found.block).mapped table.per_block parts.1 in
    let whole = all found.block (record { in_range = found.within; state = full }) in
    omega arith
