-- The write places, and the block table that they make.
use Rattle.std.proofs.Common.{◌≡◌, ◌≢◌, ◌<◌, ◌+◌, ◌-◌, ◌*◌, ℕ, Bool, true, false, eqb, List, length, inl, inr, refl, sym, ap, subst, ◌∙◌, arith}
use Rattle.std.proofs.lemmas.Bool.{cases_eq, cases_lt, eq-eqb, ne_eqb}
use Rattle.std.proofs.lemmas.List.{get_or-replicate, get_or-set_other, get_or-set_same, length-replicate, length-set, set-set}
use Rattle.ff_base.specs.declared.geometry.Geometry.{Geometry}
use Rattle.ff_flash.specs.declared.flash.Probe.{Probe}
use Rattle.ff_flash.specs.declared.flash.Probe.TheVariants.{Erased}
use Rattle.ff_space.specs.Blocks.{block_placed, erased_block, waiting}
use Rattle.ff_space.specs.BlockTable.{BlockTableView, block_at, changed_at, new_table}
use Rattle.ff_space.specs.declared.block.BlockEntry.{BlockEntry}
use Rattle.ff_scan.specs.Found.{IsFoundBlock, IsUsed}
use Rattle.ff_scan.specs.Placed.{AreBlocksPlaced, found_entry}
use Rattle.ff_scan.specs.Probes.{probe_at}

-- one more page of a block, which is erased
pub used_kept : (per : ℕ) (probes : List Probe) (block page next : ℕ) → IsUsed per probes block page next
    → probe_at probes (block * per + page) ≡ Erased → IsUsed per probes block (page + 1) next
used_kept per probes block page next used is = record {
  within = (let within = used.within in omega arith);
  blank = λ i from below. elim (cases_lt i page) [
    | inl lower ↦ used.blank i from lower
    | inr last ↦
        (let same : i ≡ page = omega arith in
        subst (λ (n : ℕ). probe_at probes (block * per + n) ≡ Erased) (sym same) is)
  ];
  last = used.last;
}

-- and one that isn't
pub used_here : (per : ℕ) (probes : List Probe) (block page next : ℕ) → IsUsed per probes block page next
    → probe_at probes (block * per + page) ≢ Erased → IsUsed per probes block (page + 1) (page + 1)
used_here per probes block page next used other = record {
  within = omega arith;
  blank = λ i from below. absurd (omega arith);
  last = λ some.
      (let same : page ≡ page + 1 - 1 = omega arith in
      subst (λ (n : ℕ). probe_at probes (block * per + n) ≢ Erased) same other);
}

pub used_none : (per : ℕ) (probes : List Probe) (block : ℕ) → IsUsed per probes block 0 0
used_none per probes block = record {
  within = omega arith;
  blank = λ i from below. absurd (omega arith);
  last = λ some. absurd (omega arith);
}

found_next : (per : ℕ) (probes : List Probe) (spare block next : ℕ) (is_spare : Bool) (entry : BlockEntry)
    → eqb spare block ≡ is_spare → IsUsed per probes block per next → entry ≡ found_entry per is_spare next
    → IsFoundBlock per probes spare block entry
found_next per probes spare block next is_spare entry test used is =
    subst (λ (e : BlockEntry). IsFoundBlock per probes spare block e) (sym is)
    (record { next = used; state = rw test refl })

entry_here : (table : BlockTableView) (block : ℕ) (entry : BlockEntry) → block < length table.blocks
    → block_at (changed_at table block (λ _. entry)) block ≡ entry
entry_here table block entry within = get_or-set_same table.blocks block entry (waiting erased_block) within

entry_other : (table : BlockTableView) (block other : ℕ) (entry : BlockEntry) → other ≢ block
    → block_at (changed_at table block (λ _. entry)) other ≡ block_at table other
entry_other table block other entry apart =
    get_or-set_other table.blocks block other entry (waiting erased_block) apart

-- the write place of one more block
placed_next : (g : Geometry) (probes : List Probe) (spare block next : ℕ) (is_spare : Bool) (table : BlockTableView)
    → eqb spare block ≡ is_spare → block < g.blocks → AreBlocksPlaced g probes spare block table
    → IsUsed g.per_block probes block g.per_block next
    → AreBlocksPlaced g probes spare (block + 1) (changed_at table block (λ _. found_entry table.per_block is_spare next))
placed_next g probes spare block next is_spare table test below are used =
    let entry : BlockEntry = found_entry table.per_block is_spare next in
    let size = are.block_count in
    let here : block_at (changed_at table block (λ _. entry)) block ≡ found_entry g.per_block is_spare next =
    entry_here table block entry (omega arith) ∙ ap (λ (n : ℕ). found_entry n is_spare next) are.per_block in
    record {
      per_block = are.per_block;
      block_count = length-set table.blocks block entry ∙ are.block_count;
      placed = λ b lower. elim (cases_eq b block) [
        | inl same ↦
            subst (λ (n : ℕ). IsFoundBlock g.per_block probes spare n (block_at (changed_at table block (λ _. entry)) n)) (sym same)
            (found_next g.per_block probes spare block next is_spare _ test used here)
        | inr other ↦
            subst (λ (e : BlockEntry). IsFoundBlock g.per_block probes spare b e) (sym (entry_other table block b entry other))
            (are.placed b (omega arith))
      ];
      unmapped = λ b lower. elim (cases_eq b block) [
        | inl same ↦
            ap (λ (n : ℕ). (block_at (changed_at table block (λ _. entry)) n).mapped) same
            ∙ ap (λ (e : BlockEntry). e.mapped) here
        | inr other ↦ ap (λ (e : BlockEntry). e.mapped) (entry_other table block b entry other) ∙ are.unmapped b (omega arith)
      ];
      rest = λ b from lower.
          (let other : b ≢ block = omega arith in
          entry_other table block b entry other ∙ are.rest b (omega arith) lower);
    }

pub placed_spare : (g : Geometry) (probes : List Probe) (spare block next : ℕ) (table new : BlockTableView)
    → block < g.blocks → AreBlocksPlaced g probes spare block table → IsUsed g.per_block probes block g.per_block next
    → block ≡ spare → new ≡ changed_at table block (λ _. found_entry table.per_block true next)
    → AreBlocksPlaced g probes spare (block + 1) new
placed_spare g probes spare block next table new below are used same is =
    subst (λ (t : BlockTableView). AreBlocksPlaced g probes spare (block + 1) t) (sym is)
    (placed_next g probes spare block next true table (eq-eqb spare block (sym same)) below are used)

pub placed_other : (g : Geometry) (probes : List Probe) (spare block next : ℕ) (table new : BlockTableView)
    → block < g.blocks → AreBlocksPlaced g probes spare block table → IsUsed g.per_block probes block g.per_block next
    → block ≢ spare → new ≡ changed_at table block (λ _. block_placed table.per_block next)
    → AreBlocksPlaced g probes spare (block + 1) new
placed_other g probes spare block next table new below are used other is =
    subst (λ (t : BlockTableView). AreBlocksPlaced g probes spare (block + 1) t) (sym is)
    (placed_next g probes spare block next false table (ne_eqb spare block (λ same. other (sym same))) below are used)

-- a new table
pub placed_none : (g : Geometry) (probes : List Probe) (spare : ℕ) (table : BlockTableView) → table ≡ new_table g
    → AreBlocksPlaced g probes spare 0 table
placed_none g probes spare table is =
    subst (λ (t : BlockTableView). AreBlocksPlaced g probes spare 0 t) (sym is) (record {
      per_block = refl;
      block_count = length-replicate g.blocks erased_block;
      placed = λ b below. absurd (omega arith);
      unmapped = λ b below. absurd (omega arith);
      rest = λ b from below. get_or-replicate g.blocks b erased_block (waiting erased_block) below;
    })

-- a block is changed twice
pub changed_twice : (table : BlockTableView) (block : ℕ) (one : BlockEntry) (change : BlockEntry → BlockEntry)
    → block < length table.blocks
    → changed_at (changed_at table block (λ _. one)) block change ≡ changed_at table block (λ _. change one)
changed_twice table block one change within =
    ap (λ (e : BlockEntry). changed_at (changed_at table block (λ _. one)) block (λ _. change e)) (entry_here table block one within)
    ∙ ap (λ (xs : List BlockEntry). let t : BlockTableView = record { per_block = table.per_block; blocks = xs } in t)
    (set-set table.blocks block one (change one))

-- a spare block with programmed pages waits
pub spare_entry : (per next : ℕ) → 0 < next → waiting (block_placed per next) ≡ found_entry per true next
spare_entry per next some =
    let test : eqb next 0 ≡ false = ne_eqb next 0 (λ none. (let e = none in omega arith)) in rw test refl
