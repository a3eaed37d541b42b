-- A flush is sealed.
use Rattle.std.proofs.Common.{◌≡◌, ◌≢◌, ◌<◌, ◌≤◌, ◌+◌, ◌-◌, ◌/◌, ℕ, Bool, true, false, cond, eqb, List, length, set, Option, None, Some, inl, inr, refl, sym, ap, subst, ◌∙◌, arith}
use Rattle.std.specs.Prelude.{◌⊎◌, is_some, if◌then◌else◌}
use Rattle.std.proofs.lemmas.Bool.{cases_Bool, cases_eq, eq-eqb, ne_eqb}
use Rattle.std.proofs.lemmas.Option.{same_Some}
use Rattle.ff_base.specs.declared.numbers.PageNo.{PageNo}
use Rattle.ff_flash.proofs.SealedCells.{closed_within, sealed_within}
use Rattle.ff_flash.specs.Cells.{Cell, cell_at, cell_bytes, closed, sealed}
use Rattle.ff_flash.specs.declared.spare.Spare.{Spare}
use Rattle.ff_space.proofs.Changed.{block_at-changed_at, block_at-changed_at_other, length-changed_at}
use Rattle.ff_space.specs.Blocks.{mapped_less, mapped_more}
use Rattle.ff_space.specs.BlockTable.{BlockTableView, block_at, changed_at}
use Rattle.ff_space.specs.declared.block.BlockEntry.{BlockEntry}
use Rattle.ff_space.specs.declared.block.BlockState.{BlockState}
use Rattle.ff_space.specs.declared.block.BlockState.TheVariants.{Full, Open}
use Rattle.ff_map.proofs.Lookups.{mapping_of-with_mapping, mapping_of-with_mapping_other, mapped_page_within}
use Rattle.ff_map.specs.PageMap.{PageMapView, mapping_of, with_mapping}
use Rattle.ff_map.specs.declared.places.Mapping.{Mapping}
use Rattle.ff_gc.proofs.Counting.{count_set, count_some}
use Rattle.ff_gc.proofs.Numbers.{block_within}
use Rattle.ff_gc.proofs.PageCopies.{same_page}
use Rattle.ff_gc.proofs.Retaining.{cell_at-set, cell_at-set_other}
use Rattle.ff_gc.specs.Cells.{AreMapped, AreSealed}
use Rattle.ff_map.specs.MappedPages.{is_in, mapped_in}
use Rattle.ff_gc.specs.World.{IsCollectorReady, World}
use Rattle.ff_store.proofs.Basics.{waiting_some}
use Rattle.ff_store.specs.Calls.{dropped, new_mapping, placed_table}
use Rattle.ff_store.specs.PageStore.{IsPending, IsStoreSound, PageStoreView, spare_of}
use Rattle.ff_store.specs.Pages.{is_mapped, mapped_count, mapped_with}
use Rattle.ff_store.specs.declared.pending.Pending.{Pending}

pub pending_in : (s : PageStoreView) (p : Pending) → IsStoreSound s → s.world.flash.on ≡ true → s.waits ≡ Some p
    → IsPending s p
pending_in s p sound on waits = waiting_some s s.waits p waits (sound.running on).waiting

-- the block of a mapped page is one of the table's, and the page is counted there
pub mapped_block : (w : World) (page : PageNo) (m : Mapping) → IsCollectorReady w → mapping_of w.places page ≡ Some m
    → m.at.0 / w.gc.per_block < length w.table.blocks
mapped_block w page m ready is =
    let placed = ready.safe.mapped.placed page m is in
    let within = sealed_within w.flash.cells m.at.0 _ _ placed in
    let cells = ready.fits.cells in
    block_within w.gc.per_block m.at.0 (length w.table.blocks) ready.fits.some (omega arith)

pub counted_there : (per : ℕ) (places : PageMapView) (page : PageNo) (m : Mapping) → mapping_of places page ≡ Some m
    → 0 < mapped_in per places (m.at.0 / per)
counted_there per places page m is =
    let within = mapped_page_within places page m is in
    count_some (λ (x : Option Mapping). is_in per (m.at.0 / per) x) places.pages page.0 None within
    (ap (λ (x : Option Mapping). is_in per (m.at.0 / per) x) is ∙ eq-eqb (m.at.0 / per) (m.at.0 / per) refl)

-- only counts change in the table after a page was mapped anew
pub record IsCounted (table table2 : BlockTableView) : Type 0 where
  pub size : length table2.blocks ≡ length table.blocks
  pub per : table2.per_block ≡ table.per_block
  pub state : (b : ℕ) → (block_at table2 b).state ≡ (block_at table b).state
  pub next : (b : ℕ) → (block_at table2 b).next ≡ (block_at table b).next

counted_one : (table : BlockTableView) (block : ℕ) (change : BlockEntry → BlockEntry) → block < length table.blocks
    → (change (block_at table block)).state ≡ (block_at table block).state
    → (change (block_at table block)).next ≡ (block_at table block).next → IsCounted table (changed_at table block change)
counted_one table block change within state next = record {
  size = length-changed_at table block change;
  per = refl;
  state = λ b. elim (cases_eq b block) [
    | inl same ↦
        ap (λ n. (block_at (changed_at table block change) n).state) same
        ∙ ap (λ (e : BlockEntry). e.state) (block_at-changed_at table block change within)
        ∙ state
        ∙ ap (λ n. (block_at table n).state) (sym same)
    | inr apart ↦ ap (λ (e : BlockEntry). e.state) (block_at-changed_at_other table block change b apart)
  ];
  next = λ b. elim (cases_eq b block) [
    | inl same ↦
        ap (λ n. (block_at (changed_at table block change) n).next) same
        ∙ ap (λ (e : BlockEntry). e.next) (block_at-changed_at table block change within)
        ∙ next
        ∙ ap (λ n. (block_at table n).next) (sym same)
    | inr apart ↦ ap (λ (e : BlockEntry). e.next) (block_at-changed_at_other table block change b apart)
  ];
}

pub dropped_counted : (per : ℕ) (table : BlockTableView) (o : Option Mapping)
    → ((m : Mapping) → o ≡ Some m → m.at.0 / per < length table.blocks) → IsCounted table (dropped per table o)
dropped_counted per table None within =
    record { size = refl; per = refl; state = λ b. refl; next = λ b. refl }
dropped_counted per table (Some m) within =
    counted_one table (m.at.0 / per) mapped_less (within m refl) refl refl

pub placed_counted : (per : ℕ) (table : BlockTableView) (o : Option Mapping) (block : ℕ)
    → ((m : Mapping) → o ≡ Some m → m.at.0 / per < length table.blocks) → block < length table.blocks
    → IsCounted table (placed_table per table o block)
placed_counted per table o block within lies =
    let first = dropped_counted per table o within in
    let size = first.size in
    let second = counted_one (dropped per table o) block mapped_more (omega arith) refl refl in
    record {
      size = second.size ∙ first.size;
      per = second.per ∙ first.per;
      state = λ b. second.state b ∙ first.state b;
      next = λ b. second.next b ∙ first.next b;
    }

abbrev pub one_if : Bool → ℕ
one_if b = cond b 1 0

-- how many pages of a block are mapped after the old mapping is counted no more
dropped_mapped : (per : ℕ) (table : BlockTableView) (o : Option Mapping) (b : ℕ)
    → ((m : Mapping) → o ≡ Some m → m.at.0 / per < length table.blocks)
    → ((m : Mapping) → o ≡ Some m → 0 < (block_at table (m.at.0 / per)).mapped)
    → (block_at (dropped per table o) b).mapped + one_if (is_in per b o) ≡ (block_at table b).mapped
dropped_mapped per table None b within some = omega arith
dropped_mapped per table (Some m) b within some = elim (cases_eq (m.at.0 / per) b) [
  | inl here ↦
      let hit : is_in per b (Some m) ≡ true = eq-eqb (m.at.0 / per) b here in
      let entry : (block_at (dropped per table (Some m)) b).mapped ≡ (block_at table b).mapped - 1 =
      ap (λ n. (block_at (dropped per table (Some m)) n).mapped) (sym here)
      ∙ ap (λ (e : BlockEntry). e.mapped) (block_at-changed_at table (m.at.0 / per) mapped_less (within m refl))
      ∙ ap (λ n. (block_at table n).mapped - 1) here in
      let least : 0 < (block_at table b).mapped = subst (λ n. 0 < (block_at table n).mapped) here (some m refl) in
      let one : one_if (is_in per b (Some m)) ≡ 1 = ap one_if hit in
      omega arith
  | inr apart ↦
      let miss : is_in per b (Some m) ≡ false = ne_eqb (m.at.0 / per) b apart in
      let entry : (block_at (dropped per table (Some m)) b).mapped ≡ (block_at table b).mapped =
      ap (λ (e : BlockEntry). e.mapped)
      (block_at-changed_at_other table (m.at.0 / per) mapped_less b (λ same. apart (sym same))) in
      let none : one_if (is_in per b (Some m)) ≡ 0 = ap one_if miss in
      omega arith
]

pub placed_mapped : (per : ℕ) (table : BlockTableView) (o : Option Mapping) (block b : ℕ)
    → ((m : Mapping) → o ≡ Some m → m.at.0 / per < length table.blocks)
    → ((m : Mapping) → o ≡ Some m → 0 < (block_at table (m.at.0 / per)).mapped) → block < length table.blocks
    → (block_at (placed_table per table o block) b).mapped + one_if (is_in per b o)
    ≡ (block_at table b).mapped + one_if (eqb block b)
placed_mapped per table o block b within some lies =
    let first = dropped_mapped per table o b within some in
    let size = (dropped_counted per table o within).size in
    elim (cases_eq block b) [
      | inl here ↦
          let hit : one_if (eqb block b) ≡ 1 = ap one_if (eq-eqb block b here) in
          let entry : (block_at (placed_table per table o block) b).mapped ≡ (block_at (dropped per table o) b).mapped + 1 =
          ap (λ n. (block_at (placed_table per table o block) n).mapped) (sym here)
          ∙ ap (λ (e : BlockEntry). e.mapped) (block_at-changed_at (dropped per table o) block mapped_more (omega arith))
          ∙ ap (λ n. (block_at (dropped per table o) n).mapped + 1) here in
          omega arith
      | inr apart ↦
          let miss : one_if (eqb block b) ≡ 0 = ap one_if (ne_eqb block b apart) in
          let entry : (block_at (placed_table per table o block) b).mapped ≡ (block_at (dropped per table o) b).mapped =
          ap (λ (e : BlockEntry). e.mapped)
          (block_at-changed_at_other (dropped per table o) block mapped_more b (λ same. apart (sym same))) in
          omega arith
    ]

-- how many are mapped in a block after a page was mapped anew
pub mapped_in_with : (per : ℕ) (places : PageMapView) (page : PageNo) (m : Mapping) (b : ℕ) → page.0 < length places.pages
    → mapped_in per (with_mapping places page m) b + one_if (is_in per b (mapping_of places page))
    ≡ mapped_in per places b + one_if (eqb (m.at.0 / per) b)
mapped_in_with per places page m b within =
    count_set (λ (x : Option Mapping). is_in per b x) places.pages page.0 (Some m) None within

-- how many are mapped at all
pub mapped_count_with : (places : PageMapView) (page : PageNo) (m : Mapping) → page.0 < length places.pages
    → mapped_count (with_mapping places page m) ≡ mapped_with places page
mapped_count_with places page m within =
    let change = count_set (λ (x : Option Mapping). is_some x) places.pages page.0 (Some m) None within in
    elim (cases_Bool (is_some (mapping_of places page))) [
      | inl hit ↦
          let one : one_if (is_some (mapping_of places page)) ≡ 1 = ap one_if hit in
          let none : ◌≡◌ {A = ℕ} (if is_mapped places page then 0 else 1) 0 = rw hit refl in
          omega arith
      | inr miss ↦
          let zero_one : one_if (is_some (mapping_of places page)) ≡ 0 = ap one_if miss in
          let one : ◌≡◌ {A = ℕ} (if is_mapped places page then 0 else 1) 1 = rw miss refl in
          omega arith
    ]

-- the cells after the page was sealed
abbrev pub sealed_cells_of : PageStoreView → Pending → List ℕ → List Cell
sealed_cells_of s p bytes = set s.world.flash.cells p.at.0 (sealed bytes (spare_of p))

spare_eq : (x y : List ℕ) (one other : Spare) → sealed x one ≡ sealed y other → one ≡ other
spare_eq x y one other same = cc

bytes_eq : (x y : List ℕ) (one other : Spare) → sealed x one ≡ sealed y other → x ≡ y
bytes_eq x y one other same = cc

-- a sealed cell is the new one, or was sealed before
pub record IsNewOrOld (s : PageStoreView) (p : Pending) (bytes : List ℕ) (a : ℕ) (x : List ℕ) (spare : Spare) : Type 0 where
  pub either : ((a ≡ p.at.0) × (x ≡ bytes) × (spare ≡ spare_of p)) ⊎ (cell_at s.world.flash.cells a ≡ sealed x spare)

pub new_or_old : (s : PageStoreView) (p : Pending) (bytes : List ℕ)
    → cell_at s.world.flash.cells p.at.0 ≡ closed bytes (spare_of p) → (a : ℕ) (x : List ℕ) (spare : Spare)
    → cell_at (sealed_cells_of s p bytes) a ≡ sealed x spare → IsNewOrOld s p bytes a x spare
new_or_old s p bytes closed_at a x spare is = elim (cases_eq a p.at.0) [
  | inl same ↦
      let within = closed_within s.world.flash.cells p.at.0 bytes (spare_of p) closed_at in
      let now : sealed bytes (spare_of p) ≡ sealed x spare =
      sym (cell_at-set s.world.flash.cells p.at.0 (sealed bytes (spare_of p)) within)
      ∙ ap (λ k. cell_at (sealed_cells_of s p bytes) k) (sym same) ∙ is in
      record { either = inl (same, sym (bytes_eq _ _ _ _ now), sym (spare_eq _ _ _ _ now)) }
  | inr apart ↦
      record {
        either = inr (sym (cell_at-set_other s.world.flash.cells p.at.0 (sealed bytes (spare_of p)) a apart) ∙ is);
      }
]

-- all sealed cells, with the new one
pub sealed_all : (s : PageStoreView) (p : Pending) (later : ℕ) (w : IsPending s p)
    → AreSealed (length s.world.places.pages) s.world.flash.operations s.world.flash.cells
    → p.page.0 < length s.world.places.pages → s.world.flash.operations ≤ later → p.version ≤ later
    → AreSealed (length s.world.places.pages) later (sealed_cells_of s p w.bytes)
sealed_all s p later w old page more version = record {
  same = λ a b x y spare one other.
      elim (new_or_old s p w.bytes w.cell a x spare one).either [
        | inl first ↦ elim (new_or_old s p w.bytes w.cell b y spare other).either [
          | inl second ↦ first.1 ∙ sym second.1
          | inr was ↦
              let below = w.newest b y spare was in
              let is = ap (λ (sp : Spare). sp.version) first.2 in absurd (omega arith)
        ]
        | inr was ↦ elim (new_or_old s p w.bytes w.cell b y spare other).either [
          | inl second ↦
              let below = w.newest a x spare was in
              let is = ap (λ (sp : Spare). sp.version) second.2 in absurd (omega arith)
          | inr also ↦ old.same a b x y spare was also
        ]
      ];
  page = λ a x spare is. elim (new_or_old s p w.bytes w.cell a x spare is).either [
    | inl new ↦ subst (λ (sp : Spare). sp.page.0 < length s.world.places.pages) (sym new.2) page
    | inr was ↦ old.page a x spare was
  ];
  least = λ a x spare is. elim (new_or_old s p w.bytes w.cell a x spare is).either [
    | inl new ↦ subst (λ (sp : Spare). 1 ≤ sp.version) (sym new.2) w.least
    | inr was ↦ old.least a x spare was
  ];
  most = λ a x spare is. elim (new_or_old s p w.bytes w.cell a x spare is).either [
    | inl new ↦ subst (λ (sp : Spare). sp.version ≤ later) (sym new.2) version
    | inr was ↦ (let made_by = old.most a x spare was in omega arith)
  ];
  full = λ a x spare is. elim (new_or_old s p w.bytes w.cell a x spare is).either [
    | inl new ↦ ap (λ (bs : List ℕ). length bs) new.1 ∙ w.size
    | inr was ↦ old.full a x spare was
  ];
}

-- a mapped page is at another place than the one that waits
pub mapped_not_waiting : (s : PageStoreView) (p : Pending) (w : IsPending s p) → AreMapped None s.world.flash.cells s.world.places
    → (page : PageNo) (m : Mapping) → mapping_of s.world.places page ≡ Some m
    → cell_at (sealed_cells_of s p w.bytes) m.at.0 ≡ cell_at s.world.flash.cells m.at.0
mapped_not_waiting s p w mapped page m is =
    cell_at-set_other s.world.flash.cells p.at.0 (sealed w.bytes (spare_of p)) m.at.0
    (λ same.
    (let e : closed w.bytes (spare_of p) ≡ sealed (cell_bytes (cell_at s.world.flash.cells m.at.0))
    (record { page = page; version = m.version }) =
    sym w.cell ∙ ap (λ a. cell_at s.world.flash.cells a) (sym same) ∙ mapped.placed page m is in cc))

-- the map with the new mapping
pub mapped_all : (s : PageStoreView) (p : Pending) (w : IsPending s p) → AreMapped None s.world.flash.cells s.world.places
    → p.page.0 < length s.world.places.pages
    → AreMapped None (sealed_cells_of s p w.bytes) (with_mapping s.world.places p.page (new_mapping p))
mapped_all s p w old page_within =
    let places = s.world.places in
    let cells = s.world.flash.cells in
    let own = mapping_of-with_mapping places p.page (new_mapping p) page_within in
    let within = closed_within cells p.at.0 w.bytes (spare_of p) w.cell in
    let new_cell : cell_at (sealed_cells_of s p w.bytes) p.at.0 ≡ sealed w.bytes (spare_of p) =
    cell_at-set cells p.at.0 (sealed w.bytes (spare_of p)) within in
    record {
      placed = λ page m is. elim (cases_eq page.0 p.page.0) [
        | inl same ↦
            let pages : page ≡ p.page = same_page page p.page same in
            let mappings : new_mapping p ≡ m =
            same_Some (new_mapping p) m
            (sym own ∙ ap (λ q. mapping_of (with_mapping places p.page (new_mapping p)) q) (sym pages) ∙ is) in
            let at : cell_at (sealed_cells_of s p w.bytes) m.at.0 ≡ sealed w.bytes (spare_of p) =
            ap (λ (x : Mapping). cell_at (sealed_cells_of s p w.bytes) x.at.0) (sym mappings) ∙ new_cell in
            let bytes : cell_bytes (cell_at (sealed_cells_of s p w.bytes) m.at.0) ≡ w.bytes = ap cell_bytes at in
            at
            ∙ ap (λ (bs : List ℕ). sealed bs (spare_of p)) (sym bytes)
            ∙ ap (λ (x : Mapping). sealed (cell_bytes (cell_at (sealed_cells_of s p w.bytes) m.at.0)) (record { page = p.page; version = x.version })) mappings
            ∙ ap (λ q. sealed (cell_bytes (cell_at (sealed_cells_of s p w.bytes) m.at.0)) (record { page = q; version = m.version })) (sym pages)
        | inr apart ↦
            let was : mapping_of places page ≡ Some m =
            sym (mapping_of-with_mapping_other places p.page (new_mapping p) page apart) ∙ is in
            let at = mapped_not_waiting s p w old page m was in
            rw at (old.placed page m was)
      ];
      known = λ a x spare is. elim (new_or_old s p w.bytes w.cell a x spare is).either [
        | inl new ↦
            let e : spare ≡ spare_of p = new.2 in
            inl record {
              mapping = new_mapping p;
              is = ap (λ (sp : Spare). mapping_of (with_mapping places p.page (new_mapping p)) sp.page) e ∙ own;
              newer = (let v = ap (λ (sp : Spare). sp.version) e in omega arith);
            }
        | inr was ↦ elim (old.known a x spare was) [
          | inl newer ↦ elim (cases_eq spare.page.0 p.page.0) [
            | inl same ↦ inl record {
              mapping = new_mapping p;
              is = ap (λ q. mapping_of (with_mapping places p.page (new_mapping p)) q) (same_page spare.page p.page same) ∙ own;
              newer = (let below = w.newest a x spare was in omega arith);
            }
            | inr apart ↦ inl record {
              mapping = newer.mapping;
              is = mapping_of-with_mapping_other places p.page (new_mapping p) spare.page apart ∙ newer.is;
              newer = newer.newer;
            }
          ]
          | inr none ↦ absurd none
        ]
      ];
      next = λ a x spare is. elim (new_or_old s p w.bytes w.cell a x spare is).either [
        | inl new ↦ subst (λ (sp : Spare). sp.version < places.next_version) (sym new.2) w.drawn
        | inr was ↦ old.next a x spare was
      ];
    }

pub usable_not : (state other : BlockState) → (state ≡ Open) ⊎ (state ≡ Full) → Open ≢ other → Full ≢ other → state ≢ other
usable_not state other (inl is) not_open not_full same = not_open (sym is ∙ same)
usable_not state other (inr is) not_open not_full same = not_full (sym is ∙ same)
