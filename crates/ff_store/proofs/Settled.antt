-- The store after a seal.
use Rattle.std.proofs.Common.{◌≡◌, ◌≢◌, ◌<◌, ◌≤◌, ◌/◌, ℕ, true, eqb, List, length, Option, None, Some, inl, inr, sym, ap, subst, ◌∙◌, arith}
use Rattle.std.specs.Prelude.{Ok, Err}
use Rattle.std.proofs.lemmas.Bool.{cases_eq, ne_eqb}
use Rattle.std.proofs.lemmas.List.{length-set}
use Rattle.std.proofs.lemmas.Option.{none-some, same_Some}
use Rattle.ff_base.specs.declared.numbers.PageNo.{PageNo}
use Rattle.ff_flash.proofs.OperationCells.{seal_either, seal_failed, seal_length, seal_worked}
use Rattle.ff_flash.proofs.SealedCells.{closed_unsealed, sealed_stays}
use Rattle.ff_flash.specs.Cells.{Cell, Seals, cell_at, sealed}
use Rattle.ff_flash.specs.FlashState.{FlashState}
use Rattle.ff_flash.specs.declared.flash.FlashStop.TheVariants.{Failed, Off}
use Rattle.ff_flash.specs.declared.spare.Spare.{Spare}
use Rattle.ff_space.specs.BlockTable.{BlockTableView, block_at}
use Rattle.ff_space.specs.declared.block.BlockState.TheVariants.{Held, Waiting}
use Rattle.ff_map.proofs.Lookups.{mapping_of-with_mapping, mapping_of-with_mapping_other}
use Rattle.ff_map.specs.PageMap.{PageMapView, mapping_of, with_mapping}
use Rattle.ff_map.specs.declared.places.Mapping.{Mapping}
use Rattle.ff_gc.proofs.Keeping.{not_off}
use Rattle.ff_gc.proofs.PageCopies.{same_page}
use Rattle.ff_gc.proofs.PageSeals.{tabled_sealed}
use Rattle.ff_gc.proofs.Retaining.{cell_at-set_other}
use Rattle.ff_gc.specs.Cells.{AreMapped, AreSealed}
use Rattle.ff_gc.specs.Running.{IsAt, IsLive}
use Rattle.ff_gc.specs.Steps.{Makes}
use Rattle.ff_gc.specs.declared.counts.FlashCounts.{FlashCounts}
use Rattle.ff_gc.specs.declared.counts.OperationKind.TheVariants.{Seal}
use Rattle.ff_store.proofs.Settling.{counted_there, mapped_all, mapped_block, mapped_count_with, mapped_in_with, mapped_not_waiting, new_or_old, one_if, pending_in, placed_counted, placed_mapped, sealed_all, sealed_cells_of, usable_not}
use Rattle.ff_store.proofs.Around.{IsAside, at_aside}
use Rattle.ff_store.proofs.Basics.{counted_after, fits_operated, ready_in, sealed_later, with_flash}
use Rattle.ff_store.specs.Calls.{new_mapping, placed_table}
use Rattle.ff_store.specs.PageStore.{IsElsewhere, IsPending, IsStoreSound, PageStoreView, spare_of, unmapped_of}
use Rattle.ff_store.specs.Pages.{page_capacity, mapped_count}
use Rattle.ff_store.specs.declared.pending.Pending.{Pending}

elsewhere_some : (waits : Option Pending) (p : Pending) (per block : ℕ) → waits ≡ Some p → IsElsewhere per waits block
    → p.at.0 / per ≢ block
elsewhere_some waits p per block is elsewhere = subst (λ w. IsElsewhere per w block) is elsewhere

-- the old mapping of the page that is sealed
pub old_within : (s : PageStoreView) (p : Pending) → IsStoreSound s → s.world.flash.on ≡ true → (m : Mapping)
    → mapping_of s.world.places p.page ≡ Some m → m.at.0 / s.world.gc.per_block < length s.world.table.blocks
old_within s p sound on m is = mapped_block s.world p.page m (ready_in s sound on) is

pub old_counted : (s : PageStoreView) (p : Pending) → IsStoreSound s → s.world.flash.on ≡ true → (m : Mapping)
    → mapping_of s.world.places p.page ≡ Some m → 0 < (block_at s.world.table (m.at.0 / s.world.gc.per_block)).mapped
old_counted s p sound on m is =
    let some = counted_there s.world.gc.per_block s.world.places p.page m is in
    let within = old_within s p sound on m is in
    let counted = (sound.running on).live.tabled.counted (m.at.0 / s.world.gc.per_block) within in
    omega arith

abbrev pub settled_table : PageStoreView → Pending → BlockTableView
settled_table s p =
    placed_table s.world.gc.per_block s.world.table (mapping_of s.world.places p.page) (p.at.0 / s.world.gc.per_block)

abbrev pub settled_map : PageStoreView → Pending → PageMapView
settled_map s p = with_mapping s.world.places p.page (new_mapping p)

-- the mappings in other blocks were there before
settled_back : (s : PageStoreView) (p : Pending) → p.page.0 < length s.world.places.pages → (page : PageNo) (m : Mapping)
    → mapping_of (settled_map s p) page ≡ Some m → m.at.0 / s.world.gc.per_block ≢ p.at.0 / s.world.gc.per_block
    → mapping_of s.world.places page ≡ Some m
settled_back s p within page m is apart = elim (cases_eq page.0 p.page.0) [
  | inl same ↦
      let own = mapping_of-with_mapping s.world.places p.page (new_mapping p) within in
      let mappings : new_mapping p ≡ m =
      same_Some (new_mapping p) m
      (sym own ∙ ap (λ q. mapping_of (settled_map s p) q) (sym (same_page page p.page same)) ∙ is) in
      absurd (apart (ap (λ (x : Mapping). x.at.0 / s.world.gc.per_block) (sym mappings)))
  | inr other ↦ sym (mapping_of-with_mapping_other s.world.places p.page (new_mapping p) page other) ∙ is
]

settled_live : (s : PageStoreView) (p : Pending) (w : IsPending s p) → IsStoreSound s → s.world.flash.on ≡ true
    → p.page.0 < length s.world.places.pages
    → IsLive s.world.gc (sealed_cells_of s p w.bytes) (settled_table s p) (settled_map s p)
settled_live s p w sound on page =
    let per = s.world.gc.per_block in
    let table = s.world.table in
    let places = s.world.places in
    let cells = s.world.flash.cells in
    let block = p.at.0 / per in
    let old = mapping_of places p.page in
    let live = (sound.running on).live in
    let counted = placed_counted per table old block (old_within s p sound on) w.block in
    let unsealed = closed_unsealed (cell_at cells p.at.0) w.bytes (spare_of p) w.cell in
    let tabled = tabled_sealed per table cells places p.at.0 w.bytes (spare_of p) (sealed w.bytes (spare_of p)) w.cell
    (length-set cells p.at.0 (sealed w.bytes (spare_of p))) live.tabled in
    let more = λ (b : ℕ). placed_mapped per table old block b (old_within s p sound on) (old_counted s p sound on) w.block in
    let size = counted.size in
    let aside : IsAside per block table (settled_table s p) cells (sealed_cells_of s p w.bytes) places (settled_map s p) =
    record {
      some = sound.fits.some;
      size = counted.size;
      state = λ b apart. counted.state b;
      next = λ b apart. counted.next b;
      fewer = λ b apart.
          (let change = more b in
          let none : one_if (eqb block b) ≡ 0 = ap one_if (ne_eqb block b (λ same. apart (sym same))) in omega arith);
      not_held = usable_not _ Held w.usable (λ e. cc) (λ e. cc);
      not_waiting = usable_not _ Waiting w.usable (λ e. cc) (λ e. cc);
      new_held = λ is. usable_not _ Held w.usable (λ e. cc) (λ e. cc) (sym (counted.state block) ∙ is);
      new_waiting = λ is. usable_not _ Waiting w.usable (λ e. cc) (λ e. cc) (sym (counted.state block) ∙ is);
      kept = λ a x spare is. sealed_stays cells p.at.0 (sealed w.bytes (spare_of p)) a x spare unsealed is;
      closed_kept = λ a x spare apart is.
          cell_at-set_other cells p.at.0 (sealed w.bytes (spare_of p)) a (λ same. apart (ap (λ n. n / per) same)) ∙ is;
      mapped = λ q m is apart. settled_back s p page q m is apart;
    } in
    record {
      tabled = record {
        counted = λ b within.
            (let change = more b in
            let maps = mapped_in_with per places p.page (new_mapping p) b page in
            let before = live.tabled.counted b (omega arith) in omega arith);
        blank = λ a lies state next.
            tabled.blank a lies (λ is. state (counted.state (a / per) ∙ is))
            (let same = counted.next (a / per) in omega arith);
      };
      phase = at_aside s.world.gc block table (settled_table s p) cells (sealed_cells_of s p w.bytes) places (settled_map s p)
          s.world.gc.phase aside w.apart
          (λ idle.
          (let at_idle = subst (λ q. IsAt s.world.gc cells table places q) idle live.phase in record {
            block = at_idle.spare.block;
            is = record {
              in_range = (let within = at_idle.spare.is.in_range in omega arith);
              state = counted.state at_idle.spare.block ∙ at_idle.spare.is.state;
            };
          }))
          live.phase;
    }

version_made : (s : PageStoreView) (p : Pending) → IsStoreSound s → IsPending s p → p.version ≤ s.world.flash.operations
version_made s p sound w = let drawn = w.drawn in let most = sound.always.safe.drawn in omega arith

-- the store after a seal that worked
pub settled_ok : (s : PageStoreView) (flash : FlashState) (counts : FlashCounts) (p : Pending) → IsStoreSound s
    → s.world.flash.on ≡ true → s.waits ≡ Some p → Makes Seal s.world None (record s.world { flash = flash; counts = counts })
    → Seals s.world.flash.cells p.at.0 (Ok tt) flash.cells
    → IsStoreSound (record s {
      world = record s.world {
        flash = flash;
        counts = counts;
        table = settled_table s p;
        places = settled_map s p;
      };
      waits = None;
    })
settled_ok s flash counts p sound on waits m seals =
    let w = pending_in s p sound on waits in
    let world = s.world in
    let page = sound.always.in_range p waits in
    let cells : flash.cells ≡ sealed_cells_of s p w.bytes =
    seal_worked world.flash.cells p.at.0 w.bytes (spare_of p) flash.cells w.cell seals in
    let counted = placed_counted world.gc.per_block world.table (mapping_of world.places p.page) (p.at.0 / world.gc.per_block)
    (old_within s p sound on) w.block in
    let size = counted.size in
    let pages = length-set world.places.pages p.page.0 (Some (new_mapping p)) in
    let rise = m.flash.power.counted on in
    let made_by = version_made s p sound w in
    let drawn = sound.always.safe.drawn in
    let elsewhere = elsewhere_some s.waits p world.gc.per_block sound.always.safe.spare.block waits sound.always.elsewhere in
    let room = rw waits at sound.always.room in
    let count = mapped_count_with world.places p.page (new_mapping p) page in
    let mapped = mapped_all s p w (sound.running on).mapped page in
    let all = sealed_all s p flash.operations w sound.always.safe.sealed_cells page (omega arith) (omega arith) in
    let capacity : mapped_count (settled_map s p) ≤ page_capacity world = omega arith in
    record {
      fits = record {
        per_block = m.flash.same.per_block ∙ sound.fits.per_block;
        blocks = m.flash.same.blocks ∙ sound.fits.blocks ∙ sym size;
        table = counted.per ∙ sound.fits.table;
        cells = rw size (seal_length world.flash.cells p.at.0 (Ok tt) flash.cells seals ∙ sound.fits.cells);
        places = rw size sound.fits.places;
        some = sound.fits.some;
        small = rw size sound.fits.small;
      };
      always = record {
        safe = record {
          sealed_cells = rw (pages, cells) all;
          mapped = rw cells mapped;
          first = sound.always.safe.first;
          drawn = omega arith;
          spare = record {
            block = sound.always.safe.spare.block;
            in_range = (let within = sound.always.safe.spare.in_range in omega arith);
            unmapped = λ q x is lies.
                sound.always.safe.spare.unmapped q x
                (settled_back s p page q x is (λ same. elsewhere (sym same ∙ lies))) lies;
          };
        };
        elsewhere = tt;
        room = rw size capacity;
        in_range = λ q is. absurd (none-some q is);
      };
      running = λ now. record {
        mapped = rw cells mapped;
        live = rw cells (settled_live s p w sound on page);
        waiting = tt;
      };
      owed = sound.owed;
      counted = counted_after s (record world { flash = flash; counts = counts }) Seal None sound on m;
    }

-- the store after a seal that failed
pub settled_failed : (s : PageStoreView) (flash : FlashState) (counts : FlashCounts) (p : Pending) → IsStoreSound s
    → s.world.flash.on ≡ true → s.waits ≡ Some p
    → Makes Seal s.world (Some Failed) (record s.world { flash = flash; counts = counts })
    → Seals s.world.flash.cells p.at.0 (Err Failed) flash.cells
    → IsStoreSound (record (with_flash s flash counts) { waits = None })
settled_failed s flash counts p sound on waits m seals =
    let world = s.world in
    let cells = seal_failed world.flash.cells p.at.0 flash.cells seals in
    let rise = m.flash.power.counted on in
    let drawn = sound.always.safe.drawn in
    let running = sound.running on in
    let room = rw waits at sound.always.room in
    record {
      fits = fits_operated world flash counts (Some Failed) sound.fits m.flash (ap (λ (c : List Cell). length c) cells);
      always = record {
        safe = record {
          sealed_cells = rw cells
              (sealed_later (length world.places.pages) world.flash.operations flash.operations world.flash.cells (omega arith)
              sound.always.safe.sealed_cells);
          mapped = rw cells running.mapped;
          first = sound.always.safe.first;
          drawn = omega arith;
          spare = sound.always.safe.spare;
        };
        elsewhere = tt;
        room = omega arith;
        in_range = λ q is. absurd (none-some q is);
      };
      running = λ now. record { mapped = rw cells running.mapped; live = rw cells running.live; waiting = tt };
      owed = sound.owed;
      counted = counted_after s (record world { flash = flash; counts = counts }) Seal (Some Failed) sound on m;
    }

-- the map, which may not know the page that was sealed in a cut
cut_mapped : (s : PageStoreView) (p : Pending) (w : IsPending s p) → s.waits ≡ Some p
    → AreMapped None s.world.flash.cells s.world.places
    → AreMapped (unmapped_of s.waits) (sealed_cells_of s p w.bytes) s.world.places
cut_mapped s p w waits old = record {
  placed = λ page m is. (let at = mapped_not_waiting s p w old page m is in rw at (old.placed page m is));
  known = λ a x spare is. elim (new_or_old s p w.bytes w.cell a x spare is).either [
    | inl new ↦ inr (rw waits (new.0, new.2))
    | inr was ↦ elim (old.known a x spare was) [ inl newer ↦ inl newer | inr none ↦ absurd none ]
  ];
  next = λ a x spare is. elim (new_or_old s p w.bytes w.cell a x spare is).either [
    | inl new ↦ subst (λ (sp : Spare). sp.version < s.world.places.next_version) (sym new.2) w.drawn
    | inr was ↦ old.next a x spare was
  ];
}

-- the store after a seal that was cut
pub settled_off : (s : PageStoreView) (flash : FlashState) (counts : FlashCounts) (p : Pending) → IsStoreSound s
    → s.world.flash.on ≡ true → s.waits ≡ Some p
    → Makes Seal s.world (Some Off) (record s.world { flash = flash; counts = counts })
    → Seals s.world.flash.cells p.at.0 (Err Off) flash.cells → IsStoreSound (with_flash s flash counts)
settled_off s flash counts p sound on waits m seals =
    let w = pending_in s p sound on waits in
    let world = s.world in
    let page = sound.always.in_range p waits in
    let rise = m.flash.power.counted on in
    let made_by = version_made s p sound w in
    let drawn = sound.always.safe.drawn in
    let either = seal_either world.flash.cells p.at.0 w.bytes (spare_of p) (Err Off) flash.cells w.cell seals in
    let all : AreSealed (length world.places.pages) flash.operations flash.cells = elim either [
      | inl cells ↦
          rw cells (sealed_all s p flash.operations w sound.always.safe.sealed_cells page (omega arith) (omega arith))
      | inr cells ↦
          rw cells
          (sealed_later (length world.places.pages) world.flash.operations flash.operations world.flash.cells (omega arith)
          sound.always.safe.sealed_cells)
    ] in
    let mapped : AreMapped (unmapped_of s.waits) flash.cells world.places = elim either [
      | inl cells ↦ rw cells (cut_mapped s p w waits (sound.running on).mapped)
      | inr cells ↦ rw cells sound.always.safe.mapped
    ] in
    record {
      fits = fits_operated world flash counts (Some Off) sound.fits m.flash
          (seal_length world.flash.cells p.at.0 (Err Off) flash.cells seals);
      always = record {
        safe = record {
          sealed_cells = all;
          mapped = mapped;
          first = sound.always.safe.first;
          drawn = omega arith;
          spare = sound.always.safe.spare;
        };
        elsewhere = sound.always.elsewhere;
        room = sound.always.room;
        in_range = sound.always.in_range;
      };
      running = λ now. absurd (not_off world.flash flash m.flash now);
      owed = sound.owed;
      counted = counted_after s (record world { flash = flash; counts = counts }) Seal (Some Off) sound on m;
    }
