-- What holds of a block table after one of its blocks was changed.
use Rattle.std.proofs.Common.{◌≡◌, ◌≢◌, ◌<◌, ◌≤◌, ◌+◌, ◌/◌, ◌%◌, ℕ, List, length, inl, inr, sym, ap, subst, ◌∙◌, arith}
use Rattle.std.proofs.lemmas.Bool.{cases_eq}
use Rattle.ff_flash.specs.Cells.{Cell, cell_at, erased}
use Rattle.ff_space.proofs.Changed.{
  block_at-changed_at,
  block_at-changed_at_other,
  each-changed_at,
  length-changed_at,
}
use Rattle.ff_space.specs.BlockTable.{IsInState, BlockTableView, block_at, changed_at}
use Rattle.ff_space.specs.Choices.{NoBlock}
use Rattle.ff_space.specs.declared.block.BlockEntry.{BlockEntry}
use Rattle.ff_space.specs.declared.block.BlockState.{BlockState}
use Rattle.ff_space.specs.declared.block.BlockState.TheVariants.{Waiting}
use Rattle.ff_map.specs.PageMap.{PageMapView}
use Rattle.ff_gc.specs.Running.{IsOnlyBlock, IsTabled}
use Rattle.ff_map.specs.MappedPages.{mapped_in}

pub within_of : (table : BlockTableView) (block : ℕ) (change : BlockEntry → BlockEntry) (other : ℕ)
    → other < length (changed_at table block change).blocks → other < length table.blocks
within_of table block change other within = omega (arith, length-changed_at table block change)

pub within_to : (table : BlockTableView) (block : ℕ) (change : BlockEntry → BlockEntry) (other : ℕ)
    → other < length table.blocks → other < length (changed_at table block change).blocks
within_to table block change other within = omega (arith, length-changed_at table block change)

-- another block is in its state, before and after
pub state_before : (table : BlockTableView) (block : ℕ) (change : BlockEntry → BlockEntry)
    (state : BlockState) (other : ℕ) → other ≢ block
    → IsInState (changed_at table block change).blocks state other
    → IsInState table.blocks state other
state_before table block change state other apart is = record {
  in_range = within_of table block change other is.in_range;
  state = ap (λ (e : BlockEntry). e.state) (sym (block_at-changed_at_other table block change other apart)) ∙ is.state;
}

pub state_after : (table : BlockTableView) (block : ℕ) (change : BlockEntry → BlockEntry)
    (state : BlockState) (other : ℕ) → other ≢ block → IsInState table.blocks state other
    → IsInState (changed_at table block change).blocks state other
state_after table block change state other apart is = record {
  in_range = within_to table block change other is.in_range;
  state = ap (λ (e : BlockEntry). e.state) (block_at-changed_at_other table block change other apart) ∙ is.state;
}

-- the changed block
pub state_of_changed : (table : BlockTableView) (block : ℕ) (change : BlockEntry → BlockEntry)
    (state : BlockState) → IsInState (changed_at table block change).blocks state block
    → (change (block_at table block)).state ≡ state
state_of_changed table block change state is =
    ap (λ (e : BlockEntry). e.state)
    (sym (block_at-changed_at table block change (within_of table block change block is.in_range)))
    ∙ is.state

pub changed_in_state : (table : BlockTableView) (block : ℕ) (change : BlockEntry → BlockEntry)
    (state : BlockState) → block < length table.blocks
    → (change (block_at table block)).state ≡ state
    → IsInState (changed_at table block change).blocks state block
changed_in_state table block change state within is = record {
  in_range = within_to table block change block within;
  state = ap (λ (e : BlockEntry). e.state) (block_at-changed_at table block change within) ∙ is;
}

-- no block is in a state, still
pub none_after : (table : BlockTableView) (block : ℕ) (change : BlockEntry → BlockEntry)
    (state : BlockState) → NoBlock (IsInState table.blocks state)
    → (change (block_at table block)).state ≢ state
    → NoBlock (IsInState (changed_at table block change).blocks state)
none_after table block change state none other each is = elim (cases_eq each block) [
  | inl same ↦
      let here : IsInState (changed_at table block change).blocks state block =
      subst (λ n. IsInState (changed_at table block change).blocks state n) same is in
      other (state_of_changed table block change state here)
  | inr apart ↦ none each (state_before table block change state each apart is)
]

-- no block is in a state any more
pub none_left : (table : BlockTableView) (block : ℕ) (change : BlockEntry → BlockEntry)
    (state : BlockState) → IsOnlyBlock table state block
    → (change (block_at table block)).state ≢ state
    → NoBlock (IsInState (changed_at table block change).blocks state)
none_left table block change state only other each is = elim (cases_eq each block) [
  | inl same ↦
      let here : IsInState (changed_at table block change).blocks state block =
      subst (λ n. IsInState (changed_at table block change).blocks state n) same is in
      other (state_of_changed table block change state here)
  | inr apart ↦ absurd (apart (only.only each (state_before table block change state each apart is)))
]

-- the block alone is in a state, still
pub only_stays : (table : BlockTableView) (block : ℕ) (change : BlockEntry → BlockEntry)
    (state : BlockState) (one : ℕ) → one ≢ block → IsOnlyBlock table state one
    → (change (block_at table block)).state ≢ state
    → IsOnlyBlock (changed_at table block change) state one
only_stays table block change state one apart only other = record {
  is = state_after table block change state one apart only.is;
  only = λ each is. elim (cases_eq each block) [
    | inl same ↦
        let here : IsInState (changed_at table block change).blocks state block =
        subst (λ n. IsInState (changed_at table block change).blocks state n) same is in
        absurd (other (state_of_changed table block change state here))
    | inr elsewhere ↦ only.only each (state_before table block change state each elsewhere is)
  ];
}

-- the changed block alone is in a state
pub only_changed : (table : BlockTableView) (block : ℕ) (change : BlockEntry → BlockEntry)
    (state : BlockState) → block < length table.blocks
    → (change (block_at table block)).state ≡ state
    → ((other : ℕ) → IsInState table.blocks state other → other ≡ block)
    → IsOnlyBlock (changed_at table block change) state block
only_changed table block change state within is alone = record {
  is = changed_in_state table block change state within is;
  only = λ each there. elim (cases_eq each block) [
    | inl same ↦ same
    | inr elsewhere ↦ alone each (state_before table block change state each elsewhere there)
  ];
}

-- what a change of a block must keep so that the table still fits the map and the cells
pub record KeepsPages (old new : BlockEntry) : Type 0 where
  pub mapped : new.mapped ≡ old.mapped
  pub was : new.state ≢ Waiting → old.state ≢ Waiting
  pub next : new.state ≢ Waiting → old.next ≤ new.next

-- a page from the write place on
pub record IsBlank (table : BlockTableView) (block rest : ℕ) : Type 0 where
  pub state : (block_at table block).state ≢ Waiting
  pub next : (block_at table block).next ≤ rest

pub tabled_changed : (per : ℕ) (table : BlockTableView) (block : ℕ) (change : BlockEntry → BlockEntry)
    (cells : List Cell) (places : PageMapView) → block < length table.blocks
    → KeepsPages (block_at table block) (change (block_at table block))
    → IsTabled per table cells places → IsTabled per (changed_at table block change) cells places
tabled_changed per table block change cells places within keeps t = record {
  counted = λ each lies.
      each-changed_at (λ b e. b < length table.blocks → e.mapped ≡ mapped_in per places b) table block
      change within (λ below. keeps.mapped ∙ t.counted block below) (λ other apart below. t.counted other below)
      each (within_of table block change each lies);
  blank = λ a lies state next.
      (let before : IsBlank table (a / per) (a % per) =
      each-changed_at (λ b e. e.state ≢ Waiting → e.next ≤ a % per → IsBlank table b (a % per)) table block
      change within
      (λ s n. record { state = keeps.was s; next = (let more = keeps.next s in omega arith) })
      (λ other apart s n. record { state = s; next = n }) (a / per) state next in
      t.blank a lies before.state before.next);
}

-- cells change elsewhere than in the blank pages
pub tabled_cells : (per : ℕ) (table : BlockTableView) (cells new : List Cell) (places : PageMapView)
    → length new ≡ length cells
    → ((a : ℕ) → cell_at cells a ≡ erased → cell_at new a ≡ erased)
    → IsTabled per table cells places → IsTabled per table new places
tabled_cells per table cells new places size kept t = record {
  counted = t.counted;
  blank = λ a lies state next. kept a (t.blank a (omega arith) state next);
}

-- a page was programmed at the write place of a block, whatever became of it
pub tabled_programmed : (per : ℕ) (table : BlockTableView) (block : ℕ)
    (change : BlockEntry → BlockEntry) (cells new : List Cell) (places : PageMapView) (at : ℕ)
    → block < length table.blocks
    → KeepsPages (block_at table block) (change (block_at table block))
    → (change (block_at table block)).next ≡ (block_at table block).next + 1
    → at / per ≡ block → at % per ≡ (block_at table block).next → length new ≡ length cells
    → ((a : ℕ) → a ≢ at → cell_at new a ≡ cell_at cells a)
    → IsTabled per table cells places → IsTabled per (changed_at table block change) new places
tabled_programmed per table block change cells new places at within keeps more lies rest size elsewhere t =
    let changed = tabled_changed per table block change cells places within keeps t in record {
      counted = changed.counted;
      blank = λ a below state next. elim (cases_eq a at) [
        | inl same ↦
            let here : a / per ≡ block = ap (λ k. k / per) same ∙ lies in
            let entry : block_at (changed_at table block change) (a / per) ≡ change (block_at table block) =
            ap (λ b. block_at (changed_at table block change) b) here ∙ block_at-changed_at table block change within in
            let place : (block_at (changed_at table block change) (a / per)).next ≡ (block_at table block).next + 1 =
            ap (λ (e : BlockEntry). e.next) entry ∙ more in
            let own : a % per ≡ (block_at table block).next = ap (λ k. k % per) same ∙ rest in
            absurd (omega arith)
        | inr apart ↦ elsewhere a apart ∙ changed.blank a (omega arith) state next
      ];
    }
