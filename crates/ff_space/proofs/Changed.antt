-- What is read of a table after one of its blocks was changed, and after a collection.
use Rattle.std.proofs.Common.{
  ◌≡◌,
  ◌≢◌,
  ℕ,
  ◌+◌,
  ◌<◌,
  ◌≤◌,
  Bool,
  true,
  List,
  length,
  inl,
  inr,
  sym,
  ap,
  ◌∙◌,
  cond,
  arith,
  length-set,
}
use Rattle.std.specs.Prelude.{count_by}
use Rattle.std.proofs.lemmas.Bool.{cases_eq}
use Rattle.std.proofs.lemmas.List.{get_or-set_same, get_or-set_other}
use Rattle.std.proofs.lemmas.List.Sums.{get_or-le-sum_by, sum_by-set}
use Rattle.ff_space.specs.BlockTable.{
  CanEnd,
  IsInRange,
  IsBlockTableSound,
  BlockTableView,
  after_collection,
  block_at,
  changed_at,
  block_in,
}
use Rattle.ff_space.specs.Blocks.{IsBlockSound, emptied, erased_block, filled, waiting}
use Rattle.ff_space.specs.declared.block.BlockEntry.{BlockEntry}
use Rattle.ff_space.specs.declared.block.BlockState.TheVariants.{Full, Held}

-- the changed block
pub block_at-changed_at : (table : BlockTableView) (block : ℕ) (change : BlockEntry → BlockEntry)
    → IsInRange table block
    → block_at (changed_at table block change) block ≡ change (block_at table block)
block_at-changed_at table block change within =
    get_or-set_same table.blocks block (change (block_at table block)) (waiting erased_block) within

-- another block
pub block_at-changed_at_other : (table : BlockTableView) (block : ℕ) (change : BlockEntry → BlockEntry)
    (other : ℕ) → other ≢ block
    → block_at (changed_at table block change) other ≡ block_at table other
block_at-changed_at_other table block change other apart =
    get_or-set_other table.blocks block other (change (block_at table block)) (waiting erased_block)
    apart

-- a change adds no block
pub length-changed_at : (table : BlockTableView) (block : ℕ) (change : BlockEntry → BlockEntry)
    → length (changed_at table block change).blocks ≡ length table.blocks
length-changed_at table block change = length-set table.blocks block (change (block_at table block))

-- what holds of the changed block and of every other one holds of each block
pub each-changed_at : (P : ℕ → BlockEntry → Type 0) (table : BlockTableView) (block : ℕ)
    (change : BlockEntry → BlockEntry) → IsInRange table block
    → P block (change (block_at table block))
    → ((other : ℕ) → other ≢ block → P other (block_at table other))
    → (each : ℕ) → P each (block_at (changed_at table block change) each)
each-changed_at P table block change within here there each = elim (cases_eq each block) [
  | inl same ↦
      let entry : BlockEntry = block_at (changed_at table block change) each in
      let is : entry ≡ change (block_at table block) =
      ap (λ (n : ℕ). block_at (changed_at table block change) n) same
      ∙ block_at-changed_at table block change within in
      rw (is, same) here
  | inr apart ↦ rw (block_at-changed_at_other table block change each apart) (there each apart)
]

-- a table stays sound where the changed block is
pub sound-changed_at : (table : BlockTableView) (block : ℕ) (change : BlockEntry → BlockEntry)
    → IsBlockTableSound table → IsInRange table block
    → IsBlockSound table.per_block (change (block_at table block))
    → IsBlockTableSound (changed_at table block change)
sound-changed_at table block change sound within new = record {
  per_block = sound.per_block;
  count = rw (length-changed_at table block change) sound.count;
  each = λ each inside.
      each-changed_at (λ n entry. n < length table.blocks → IsBlockSound table.per_block entry)
      table block change within (λ here. new)
      (λ other apart there. sound.each other there) each
      (omega (arith, inside, length-changed_at table block change));
}

-- one block is changed: how many blocks pass a test
pub count_by-changed_at : (p : BlockEntry → Bool) (table : BlockTableView) (block : ℕ)
    (change : BlockEntry → BlockEntry) → IsInRange table block
    → count_by p (changed_at table block change).blocks + cond (p (block_at table block)) 1 0
    ≡ count_by p table.blocks + cond (p (change (block_at table block))) 1 0
count_by-changed_at p table block change within =
    sum_by-set (λ (x : BlockEntry). cond (p x) 1 0) table.blocks block
    (change (block_at table block)) (waiting erased_block) within

-- a block that passes a test is counted
pub count_by-some : (p : BlockEntry → Bool) (blocks : List BlockEntry) (block : ℕ)
    → block < length blocks → p (block_in blocks block) ≡ true → 0 < count_by p blocks
count_by-some p blocks block within passes =
    let at_least : cond (p (block_in blocks block)) 1 0 ≤ count_by p blocks =
    get_or-le-sum_by (λ (x : BlockEntry). cond (p x) 1 0) blocks block (waiting erased_block) within in
    let one : 1 ≤ count_by p blocks = rw passes at at_least in
    omega arith

-- the two blocks of a collection are two
pub apart_by_state : (table : BlockTableView) (victim into : ℕ) → CanEnd table victim into
    → victim ≢ into
apart_by_state table victim into can same =
    let states : Full ≡ Held =
    sym can.full.state ∙ ap (λ (n : ℕ). (block_at table n).state) same ∙ can.held.state in
    absurd (cc)

-- the victim after a collection
pub block_at-after_victim : (table : BlockTableView) (victim into : ℕ) → CanEnd table victim into
    → block_at (after_collection table victim into) victim ≡ emptied (block_at table victim)
block_at-after_victim table victim into can =
    let change = filled table.per_block (block_at table victim).mapped in
    let within : victim < length (changed_at table into change).blocks =
    omega (arith, length-changed_at table into change, can.full.in_range) in
    block_at-changed_at (changed_at table into change) victim emptied within
    ∙ ap emptied
    (block_at-changed_at_other table into change victim (apart_by_state table victim into can))

-- the destination after a collection
pub block_at-after_into : (table : BlockTableView) (victim into : ℕ) → CanEnd table victim into
    → block_at (after_collection table victim into) into
    ≡ filled table.per_block (block_at table victim).mapped (block_at table into)
block_at-after_into table victim into can =
    let change = filled table.per_block (block_at table victim).mapped in
    block_at-changed_at_other (changed_at table into change) victim emptied into
    (λ same. apart_by_state table victim into can (sym same))
    ∙ block_at-changed_at table into change can.held.in_range

-- another block after a collection
pub block_at-after_other : (table : BlockTableView) (victim into other : ℕ) → other ≢ victim
    → other ≢ into → block_at (after_collection table victim into) other ≡ block_at table other
block_at-after_other table victim into other not_victim not_into =
    let change = filled table.per_block (block_at table victim).mapped in
    block_at-changed_at_other (changed_at table into change) victim emptied other not_victim
    ∙ block_at-changed_at_other table into change other not_into

-- a collection adds no block
pub length-after_collection : (table : BlockTableView) (victim into : ℕ)
    → length (after_collection table victim into).blocks ≡ length table.blocks
length-after_collection table victim into =
    let change = filled table.per_block (block_at table victim).mapped in
    length-changed_at (changed_at table into change) victim emptied
    ∙ length-changed_at table into change
