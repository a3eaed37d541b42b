-- A page is programmed.
use Rattle.std.proofs.Common.{◌≡◌, ◌≢◌, ◌<◌, ◌≤◌, ◌+◌, ◌/◌, ℕ, true, eqb, List, length, Option, None, Some, inl, inr, refl, sym, ap, subst, ◌∙◌, arith}
use Rattle.std.specs.Prelude.{◌⊎◌, Result, Ok, Err}
use Rattle.std.proofs.lemmas.Bool.{cases_Bool}
use Rattle.std.proofs.lemmas.Option.{none-some, same_Some}
use Rattle.ff_base.specs.declared.numbers.PageNo.{PageNo}
use Rattle.ff_base.specs.declared.numbers.Ppn.{Ppn}
use Rattle.ff_base.specs.declared.numbers.TheConstants.{PAGE_BYTES}
use Rattle.ff_flash.proofs.OperationCells.{
  program_elsewhere,
  program_keeps_sealed,
  program_length,
  program_seals_none,
  program_worked,
}
use Rattle.ff_flash.proofs.SealedCells.{erased_unsealed}
use Rattle.ff_flash.specs.Cells.{Cell, Programs, cell_at}
use Rattle.ff_flash.specs.FlashState.{FlashState, Operates}
use Rattle.ff_flash.specs.declared.flash.FlashStop.{FlashStop}
use Rattle.ff_flash.specs.declared.flash.FlashStop.TheVariants.{Failed, Off}
use Rattle.ff_flash.specs.declared.spare.Spare.{Spare}
use Rattle.ff_space.proofs.Changed.{block_at-changed_at, block_at-changed_at_other, length-changed_at}
use Rattle.ff_space.specs.Blocks.{advanced, raised_state}
use Rattle.ff_space.specs.BlockTable.{IsBlockTableSound, BlockTableView, block_at, changed_at}
use Rattle.ff_space.specs.declared.block.BlockEntry.{BlockEntry}
use Rattle.ff_space.specs.declared.block.BlockState.{BlockState}
use Rattle.ff_space.specs.declared.block.BlockState.TheVariants.{Erased, Full, Held, Open, Waiting}
use Rattle.ff_map.specs.PageMap.{PageMapView, drawn_map}
use Rattle.ff_gc.proofs.Keeping.{not_off}
use Rattle.ff_gc.proofs.Retaining.{retains_programmed, safe_retained}
use Rattle.ff_gc.proofs.Tables.{KeepsPages, state_after, tabled_programmed}
use Rattle.ff_gc.specs.Cells.{IsSafe}
use Rattle.ff_gc.specs.Running.{IsLive}
use Rattle.ff_gc.specs.Steps.{Makes}
use Rattle.ff_gc.specs.World.{Fits, IsCollectorReady, World}
use Rattle.ff_gc.specs.declared.counts.FlashCounts.{FlashCounts}
use Rattle.ff_gc.specs.declared.counts.OperationKind.TheVariants.{Program}
use Rattle.ff_store.proofs.Around.{IsAside, at_aside, not_victim}
use Rattle.ff_store.proofs.Basics.{counted_after, elsewhere_none, ready_in, waiting_none}
use Rattle.ff_store.specs.Calls.{IsWritePlace, opened_block, pending_at}
use Rattle.ff_store.specs.PageStore.{IsPending, IsStoreSound, PageStoreView, spare_of}
use Rattle.ff_store.specs.Pages.{page_capacity, mapped_count, mapped_with}
use Rattle.ff_store.specs.declared.pending.Pending.{Pending}
use Rattle.ff_store.proofs.Targets.{IsTarget, free_beside, target_of}

-- a block after a page was programmed
abbrev pub flushed_block : ℕ → BlockEntry → BlockEntry
flushed_block per entry = advanced per (opened_block entry)

raised_open : (per next : ℕ) → (raised_state per Open next ≡ Open) ⊎ (raised_state per Open next ≡ Full)
raised_open per next = elim (cases_Bool (eqb next per)) [
  | inl last ↦ inr (rw last refl)
  | inr between ↦ inl (rw between refl)
]

raised_not : (per next : ℕ) (state : BlockState) → Open ≢ state → Full ≢ state → raised_state per Open next ≢ state
raised_not per next state not_open not_full is = elim (raised_open per next) [
  | inl one ↦ not_open (sym one ∙ is)
  | inr other ↦ not_full (sym other ∙ is)
]

abbrev pub flushed_table : World → ℕ → BlockTableView
flushed_table w block = changed_at w.table block (λ entry. advanced w.table.per_block (opened_block entry))

flushed_keeps : (per : ℕ) (entry : BlockEntry) → entry.state ≢ Waiting → KeepsPages entry (flushed_block per entry)
flushed_keeps per entry not_waiting = record {
  mapped = refl;
  was = λ _. not_waiting;
  next = λ _. omega arith;
}

-- what holds with the power on, after a program
flushed_live : (w : World) (cells : List Cell) (block at : ℕ) (bytes : List ℕ) (spare : Spare)
    (result : Result (Unit {0}) FlashStop) → IsCollectorReady w → IsTarget w block at → Programs w.flash.cells at bytes spare result cells
    → IsLive w.gc cells (flushed_table w block) (drawn_map w.places)
flushed_live w cells block at bytes spare result ready t programs =
    let per = w.gc.per_block in
    let change : BlockEntry → BlockEntry = λ entry. advanced w.table.per_block (opened_block entry) in
    let entry = block_at w.table block in
    let tabled = tabled_programmed per w.table block change w.flash.cells cells w.places at t.in_range
    (flushed_keeps w.table.per_block entry t.not_waiting) refl t.lies t.rest
    (program_length w.flash.cells at bytes spare result cells programs)
    (λ a apart. program_elsewhere w.flash.cells at bytes spare result cells a programs apart) ready.live.tabled in
    let here : block_at (changed_at w.table block change) block ≡ change entry = block_at-changed_at w.table block change t.in_range in
    let aside : IsAside per block w.table (changed_at w.table block change) w.flash.cells cells w.places (drawn_map w.places) =
    record {
      some = ready.fits.some;
      size = length-changed_at w.table block change;
      state = λ b apart. ap (λ (e : BlockEntry). e.state) (block_at-changed_at_other w.table block change b apart);
      next = λ b apart. ap (λ (e : BlockEntry). e.next) (block_at-changed_at_other w.table block change b apart);
      fewer = λ b apart.
          (let same = ap (λ (e : BlockEntry). e.mapped) (block_at-changed_at_other w.table block change b apart) in omega arith);
      not_held = t.not_held;
      not_waiting = t.not_waiting;
      new_held = λ is.
          raised_not w.table.per_block (entry.next + 1) Held (λ e. cc) (λ e. cc)
          (sym (ap (λ (e : BlockEntry). e.state) here) ∙ is);
      new_waiting = λ is.
          raised_not w.table.per_block (entry.next + 1) Waiting (λ e. cc) (λ e. cc)
          (sym (ap (λ (e : BlockEntry). e.state) here) ∙ is);
      kept = λ a x own is.
          program_keeps_sealed w.flash.cells at bytes spare result cells a x own
          (erased_unsealed (cell_at w.flash.cells at) t.blank) programs is;
      closed_kept = λ a x own apart is.
          program_elsewhere w.flash.cells at bytes spare result cells a programs
          (λ same. apart (ap (λ n. n / per) same ∙ t.lies))
          ∙ is;
      mapped = λ page m is apart. is;
    } in
    record {
      tabled = record { counted = tabled.counted; blank = tabled.blank };
      phase = at_aside w.gc block w.table (changed_at w.table block change) w.flash.cells cells w.places (drawn_map w.places)
          w.gc.phase aside (not_victim w.gc w.table w.flash.cells w.places w.gc.phase block t.not_full ready.live.phase)
          (λ idle. (let one = t.other idle in record {
            block = one.other;
            is = state_after w.table block change Erased one.other one.apart one.is;
          }))
          ready.live.phase;
    }

-- what holds always, after a program
flushed_safe : (w : World) (flash : FlashState) (counts : FlashCounts) (block at : ℕ) (bytes : List ℕ) (spare : Spare)
    (result : Result (Unit {0}) FlashStop) (stop : Option FlashStop) → IsCollectorReady w → IsTarget w block at
    → Makes Program w stop (record w { flash = flash; counts = counts })
    → Programs w.flash.cells at bytes spare result flash.cells
    → IsSafe None (length w.table.blocks) w.gc.per_block flash.operations flash.cells (drawn_map w.places)
flushed_safe w flash counts block at bytes spare result stop ready t m programs =
    let rise = m.flash.power.counted ready.on in
    let r = retains_programmed w.flash.cells flash.cells at bytes spare result w.places t.blank ready.safe.mapped programs in
    let safe = safe_retained (length w.table.blocks) w.gc.per_block w.flash.operations flash.operations w.places w.flash.cells
    flash.cells r (omega arith) ready.safe in
    let drawn = ready.safe.drawn in
    record {
      sealed_cells = safe.sealed_cells;
      mapped = record {
        placed = safe.mapped.placed;
        known = λ a x own is. elim (safe.mapped.known a x own is) [
          | inl newer ↦ inl record { mapping = newer.mapping; is = newer.is; newer = newer.newer }
          | inr none ↦ absurd none
        ];
        next = λ a x own is. (let below = safe.mapped.next a x own is in omega arith);
      };
      first = omega arith;
      drawn = omega arith;
      spare = record {
        block = ready.safe.spare.block;
        in_range = ready.safe.spare.in_range;
        unmapped = ready.safe.spare.unmapped;
      };
    }

flushed_fits : (w : World) (flash : FlashState) (counts : FlashCounts) (table : BlockTableView) (stop : Option FlashStop) → Fits w
    → Operates w.flash stop flash → length flash.cells ≡ length w.flash.cells
    → length table.blocks ≡ length w.table.blocks → table.per_block ≡ w.table.per_block
    → Fits (record w { flash = flash; counts = counts; table = table; places = drawn_map w.places })
flushed_fits w flash counts table stop fits operates size blocks per = record {
  per_block = operates.same.per_block ∙ fits.per_block;
  blocks = operates.same.blocks ∙ fits.blocks ∙ sym blocks;
  table = per ∙ fits.table;
  cells = rw blocks (size ∙ fits.cells);
  places = rw blocks fits.places;
  some = fits.some;
  small = rw blocks fits.small;
}

-- the store after a program that worked
abbrev pub flushed_store : PageStoreView → FlashState → FlashCounts → ℕ → Option Pending → PageStoreView
flushed_store s flash counts block waits = record s {
  world = record s.world {
    flash = flash;
    counts = counts;
    table = flushed_table s.world block;
    places = drawn_map s.world.places;
  };
  waits = waits;
}

flushed_pending : (s : PageStoreView) (flash : FlashState) (counts : FlashCounts) (page : PageNo) (bytes : List ℕ) (block : ℕ)
    (at : Ppn) → IsCollectorReady s.world → IsTarget s.world block at.0 → length bytes ≡ PAGE_BYTES
    → Programs s.world.flash.cells at.0 bytes (spare_of (pending_at page at s.world.places)) (Ok tt) flash.cells
    → IsPending (flushed_store s flash counts block (Some (pending_at page at s.world.places))) (pending_at page at s.world.places)
flushed_pending s flash counts page bytes block at ready t size programs =
    let w = s.world in
    let p = pending_at page at w.places in
    let change : BlockEntry → BlockEntry = λ entry. advanced w.table.per_block (opened_block entry) in
    let entry : block_at (flushed_table w block) (at.0 / w.gc.per_block) ≡ change (block_at w.table block) =
    ap (λ n. block_at (flushed_table w block) n) t.lies ∙ block_at-changed_at w.table block change t.in_range in
    let next = ap (λ (e : BlockEntry). e.next) entry in
    let mapped = ap (λ (e : BlockEntry). e.mapped) entry in
    let state = ap (λ (e : BlockEntry). e.state) entry in
    let few = t.few in
    let rest = t.rest in
    let blocks = length-changed_at w.table block change in
    let in_range = t.in_range in
    let lies = t.lies in
    let within = t.within in
    let cells = ready.fits.cells in
    let places = ready.fits.places in
    let first = ready.safe.first in
    record {
      bytes = bytes;
      cell = program_worked w.flash.cells at.0 bytes (spare_of p) flash.cells t.within programs;
      size = size;
      newest = λ a x own is.
          ready.safe.mapped.next a x own
          (program_seals_none w.flash.cells at.0 bytes (spare_of p) (Ok tt) flash.cells a x own
          (erased_unsealed (cell_at w.flash.cells at.0) t.blank) programs is);
      least = first;
      drawn = omega arith;
      block = omega arith;
      place = omega arith;
      used = omega arith;
      apart = rw lies (not_victim w.gc w.table w.flash.cells w.places w.gc.phase block t.not_full ready.live.phase);
      mapped = omega arith;
      usable = elim (raised_open w.table.per_block ((block_at w.table block).next + 1)) [
        | inl one ↦ inl (state ∙ one)
        | inr other ↦ inr (state ∙ other)
      ];
    }

pub flushed_ok : (s : PageStoreView) (flash : FlashState) (counts : FlashCounts) (page : PageNo) (bytes : List ℕ) (block : ℕ)
    (at : Ppn) → IsStoreSound s → s.world.flash.on ≡ true → IsBlockTableSound s.world.table
    → page.0 < length s.world.places.pages → mapped_with s.world.places page ≤ page_capacity s.world
    → length bytes ≡ PAGE_BYTES → IsWritePlace s.world.table block at.0
    → Makes Program s.world None (record s.world { flash = flash; counts = counts })
    → Programs s.world.flash.cells at.0 bytes (spare_of (pending_at page at s.world.places)) (Ok tt) flash.cells
    → IsStoreSound (flushed_store s flash counts block (Some (pending_at page at s.world.places)))
flushed_ok s flash counts page bytes block at sound on table in_range room size place m programs =
    let w = s.world in
    let ready = ready_in s sound on in
    let t = target_of w block at.0 table ready place in
    let p = pending_at page at w.places in
    let change : BlockEntry → BlockEntry = λ entry. advanced w.table.per_block (opened_block entry) in
    let blocks = length-changed_at w.table block change in
    let safe = flushed_safe w flash counts block at.0 bytes (spare_of p) (Ok tt) None ready t m programs in
    let free = free_beside w.gc w.table w.flash.cells w.places block w.gc.phase table ready.live.tabled t.not_held
    t.not_waiting t.other ready.live.phase in
    record {
      fits = flushed_fits w flash counts (flushed_table w block) None sound.fits m.flash
          (program_length w.flash.cells at.0 bytes (spare_of p) (Ok tt) flash.cells programs) blocks refl;
      always = record {
        safe = record {
          sealed_cells = safe.sealed_cells;
          mapped = record {
            placed = safe.mapped.placed;
            known = λ a x own is. elim (safe.mapped.known a x own is) [ inl newer ↦ inl newer | inr none ↦ absurd none ];
            next = safe.mapped.next;
          };
          first = safe.first;
          drawn = safe.drawn;
          spare = record {
            block = free.free;
            in_range = (let lies = free.in_range in omega arith);
            unmapped = free.unmapped;
          };
        };
        elsewhere = λ same. free.apart (sym same ∙ t.lies);
        room = rw blocks room;
        in_range = λ q is. (let pages = same_Some p q is in subst (λ (x : Pending). x.page.0 < length w.places.pages) pages in_range);
      };
      running = λ now. record {
        mapped = safe.mapped;
        live = flushed_live w flash.cells block at.0 bytes (spare_of p) (Ok tt) ready t programs;
        waiting = flushed_pending s flash counts page bytes block at ready t size programs;
      };
      owed = sound.owed;
      counted = counted_after s (record w { flash = flash; counts = counts }) Program None sound on m;
    }

with_count : (places : PageMapView) (page : PageNo) → mapped_count places ≤ mapped_with places page
with_count places page = omega arith

pub flushed_failed : (s : PageStoreView) (flash : FlashState) (counts : FlashCounts) (page : PageNo) (bytes : List ℕ) (block : ℕ)
    (at : Ppn) → IsStoreSound s → s.world.flash.on ≡ true → s.waits ≡ None → IsBlockTableSound s.world.table
    → mapped_with s.world.places page ≤ page_capacity s.world → IsWritePlace s.world.table block at.0
    → Makes Program s.world (Some Failed) (record s.world { flash = flash; counts = counts })
    → Programs s.world.flash.cells at.0 bytes (spare_of (pending_at page at s.world.places)) (Err Failed) flash.cells
    → IsStoreSound (flushed_store s flash counts block s.waits)
flushed_failed s flash counts page bytes block at sound on none table room place m programs =
    let w = s.world in
    let ready = ready_in s sound on in
    let t = target_of w block at.0 table ready place in
    let p = pending_at page at w.places in
    let change : BlockEntry → BlockEntry = λ entry. advanced w.table.per_block (opened_block entry) in
    let blocks = length-changed_at w.table block change in
    let safe = flushed_safe w flash counts block at.0 bytes (spare_of p) (Err Failed) (Some Failed) ready t m programs in
    let few = with_count w.places page in
    let enough : mapped_count w.places ≤ page_capacity w = omega arith in
    record {
      fits = flushed_fits w flash counts (flushed_table w block) (Some Failed) sound.fits m.flash
          (program_length w.flash.cells at.0 bytes (spare_of p) (Err Failed) flash.cells programs) blocks refl;
      always = record {
        safe = rw (none, blocks) safe;
        elsewhere = elsewhere_none s.waits w.gc.per_block _ none;
        room = rw (none, blocks) enough;
        in_range = λ q is. absurd (none-some q (sym none ∙ is));
      };
      running = λ now. record {
        mapped = safe.mapped;
        live = flushed_live w flash.cells block at.0 bytes (spare_of p) (Err Failed) ready t programs;
        waiting = waiting_none _ s.waits none;
      };
      owed = sound.owed;
      counted = counted_after s (record w { flash = flash; counts = counts }) Program (Some Failed) sound on m;
    }

pub flushed_off : (s : PageStoreView) (flash : FlashState) (counts : FlashCounts) (page : PageNo) (bytes : List ℕ) (block : ℕ)
    (at : Ppn) → IsStoreSound s → s.world.flash.on ≡ true → s.waits ≡ None → IsBlockTableSound s.world.table
    → mapped_with s.world.places page ≤ page_capacity s.world → IsWritePlace s.world.table block at.0
    → Makes Program s.world (Some Off) (record s.world { flash = flash; counts = counts })
    → Programs s.world.flash.cells at.0 bytes (spare_of (pending_at page at s.world.places)) (Err Off) flash.cells
    → IsStoreSound (record s { world = record s.world { flash = flash; counts = counts; places = drawn_map s.world.places } })
flushed_off s flash counts page bytes block at sound on none table room place m programs =
    let w = s.world in
    let ready = ready_in s sound on in
    let t = target_of w block at.0 table ready place in
    let p = pending_at page at w.places in
    let safe = flushed_safe w flash counts block at.0 bytes (spare_of p) (Err Off) (Some Off) ready t m programs in
    let few = with_count w.places page in
    let enough : mapped_count w.places ≤ page_capacity w = omega arith in
    record {
      fits = flushed_fits w flash counts w.table (Some Off) sound.fits m.flash
          (program_length w.flash.cells at.0 bytes (spare_of p) (Err Off) flash.cells programs) refl refl;
      always = record {
        safe = rw none safe;
        elsewhere = elsewhere_none s.waits w.gc.per_block _ none;
        room = rw none enough;
        in_range = λ q is. absurd (none-some q (sym none ∙ is));
      };
      running = λ now. absurd (not_off w.flash flash m.flash now);
      owed = sound.owed;
      counted = counted_after s (record w { flash = flash; counts = counts }) Program (Some Off) sound on m;
    }
