-- What every call's proof needs of a store.
use Rattle.std.proofs.Common.{◌≡◌, ◌≤◌, ◌+◌, ℕ, Bool, true, false, cond, List, length, get_or, Option, None, Some, refl, sym, ap, subst, ◌∙◌, arith}
use Rattle.std.specs.Prelude.{◌&&◌, Err, Ok, Result, is_some, option_map}
use Rattle.std.proofs.lemmas.Bool.{and_parts}
use Rattle.std.proofs.lemmas.Option.{none-some}
use Rattle.ff_flash.proofs.Operated.{operations_rise}
use Rattle.ff_flash.specs.Cells.{Cell, ReadsBytes, cell_at}
use Rattle.ff_flash.specs.FlashState.{FlashState, Operates, powered_off}
use Rattle.ff_flash.specs.Injected.{stop_of}
use Rattle.ff_flash.specs.declared.flash.FlashStop.{FlashStop}
use Rattle.ff_space.specs.BlockTable.{IsBlockTableSound}
use Rattle.ff_map.specs.declared.places.Mapping.{Mapping}
use Rattle.ff_gc.proofs.Counting.{count_alike}
use Rattle.ff_gc.proofs.Stepping.{steps_kept}
use Rattle.ff_gc.proofs.Takings.{takes_of, total_begun}
use Rattle.ff_gc.specs.Cells.{AreSealed, IsSafe}
use Rattle.ff_gc.specs.Collector.{is_busy}
use Rattle.ff_gc.specs.FlashCounts.{total_of}
use Rattle.ff_gc.specs.Steps.{IsStep, Makes, Takes, made, rested}
use Rattle.ff_gc.specs.World.{Fits, IsCollectorReady, Keeps, World}
use Rattle.ff_gc.specs.declared.collector.GcStep.{GcStep}
use Rattle.ff_gc.specs.declared.counts.FlashCounts.{FlashCounts}
use Rattle.ff_gc.specs.declared.counts.OperationKind.{OperationKind}
use Rattle.ff_store.specs.Calls.{Collects, IsCall, SameBytes}
use Rattle.ff_store.specs.PageStore.{IsElsewhere, IsPending, IsRunning, IsStoreSound, IsWaiting, PageStoreView}
use Rattle.ff_store.specs.Pages.{page_capacity, mapped_count}
use Rattle.ff_store.specs.declared.pending.Pending.{Pending}

-- with the power on the map knows all that is sealed
pub safe_running : (s : PageStoreView) → IsStoreSound s → IsRunning s
    → IsSafe None (length s.world.table.blocks) s.world.gc.per_block s.world.flash.operations s.world.flash.cells s.world.places
safe_running s sound running = record {
  sealed_cells = sound.always.safe.sealed_cells;
  mapped = running.mapped;
  first = sound.always.safe.first;
  drawn = sound.always.safe.drawn;
  spare = sound.always.safe.spare;
}

-- the collector can make a step
pub ready_in : (s : PageStoreView) → IsStoreSound s → s.world.flash.on ≡ true → IsCollectorReady s.world
ready_in s sound on = record {
  on = on;
  fits = sound.fits;
  safe = safe_running s sound (sound.running on);
  live = (sound.running on).live;
}

-- there is no limit for the counts
pub counts_small : (s : PageStoreView) → IsStoreSound s → total_of s.world.counts ≤ s.world.flash.operations
counts_small s sound = let counted = sound.counted in omega arith

pub elsewhere_none : (waits : Option Pending) (per block : ℕ) → waits ≡ None → IsElsewhere per waits block
elsewhere_none None per block is = tt
elsewhere_none (Some p) per block is = absurd (none-some p (sym is))

pub waiting_none : (s : PageStoreView) (waits : Option Pending) → waits ≡ None → IsWaiting s waits
waiting_none s None is = tt
waiting_none s (Some p) is = absurd (none-some p (sym is))

pub waiting_some : (s : PageStoreView) (waits : Option Pending) (p : Pending) → waits ≡ Some p → IsWaiting s waits
    → IsPending s p
waiting_some s waits p is waiting = subst (λ w. IsWaiting s w) is waiting

-- operations are counted
counted_more : (s : PageStoreView) (flash : FlashState) (counts : FlashCounts) (stop : Option FlashStop) → IsStoreSound s
    → s.world.flash.on ≡ true → Operates s.world.flash stop flash → total_of counts ≡ total_of s.world.counts + 1
    → s.opened + total_of counts ≡ flash.operations
counted_more s flash counts stop sound on operates more =
    let rise = operates.power.counted on in let counted = sound.counted in omega arith

pub counted_after : (s : PageStoreView) (new : World) (kind : OperationKind) (stop : Option FlashStop) → IsStoreSound s
    → s.world.flash.on ≡ true → Makes kind s.world stop new
    → s.opened + total_of new.counts ≡ new.flash.operations
counted_after s new kind stop sound on m =
    counted_more s new.flash new.counts stop sound on m.flash
    (ap (λ (c : FlashCounts). total_of c) m.counts ∙ total_begun kind s.world.counts)

counted_takes : (s : PageStoreView) (new : World) (stop : Option FlashStop) → IsStoreSound s
    → s.world.flash.on ≡ true → Takes s.world stop new → s.opened + total_of new.counts ≡ new.flash.operations
counted_takes s new stop sound on (made kind m) = counted_after s new kind stop sound on m
counted_takes s new stop sound on (rested flash counts none) =
    let same = ap (λ (c : FlashCounts). total_of c) counts in
    let operations = ap (λ (f : FlashState). f.operations) flash in
    let counted = sound.counted in
    omega arith

plan_takes : (old new : World) (stop : Option FlashStop) → Takes old stop new → new.flash.plan ≡ old.flash.plan
plan_takes old new stop (made kind m) = m.flash.same.plan
plan_takes old new stop (rested flash counts none) = ap (λ (f : FlashState). f.plan) flash

making_takes : (old new : World) (stop : Option FlashStop) → Takes old stop new → new.flash.making ≡ old.flash.making
making_takes old new stop (made kind m) = m.flash.same.making
making_takes old new stop (rested flash counts none) = ap (λ (f : FlashState). f.making) flash

some_version : (o : Option Mapping) → is_some o ≡ is_some (option_map (λ (m : Mapping). m.version) o)
some_version None = refl
some_version (Some m) = refl

-- as many pages are mapped
count_kept : (old new : World) → Keeps old new → mapped_count new.places ≡ mapped_count old.places
count_kept old new keeps =
    count_alike (λ (m : Option Mapping). is_some m) (λ (m : Option Mapping). is_some m) new.places.pages old.places.pages
    None keeps.same.pages
    (λ i.
    some_version (get_or new.places.pages i None)
    ∙ ap (λ (v : Option ℕ). is_some v) (keeps.same.versions (record { 0 = i }))
    ∙ sym (some_version (get_or old.places.pages i None)))

-- a step of the collector
pub collected_sound : (s : PageStoreView) (new : World) (owed : Bool) (step : Result GcStep FlashStop)
    → IsStoreSound s → s.world.flash.on ≡ true → s.waits ≡ None → Keeps s.world new → IsStep s.world step new
    → IsStoreSound (record s { world = new; owed = owed && is_busy new.gc.phase })
collected_sound s new owed step sound on none keeps r =
    let takes = takes_of s.world new step r in
    let room = sound.always.room in
    let room2 = rw none at room in
    let count : mapped_count new.places ≡ mapped_count s.world.places = count_kept s.world new keeps in
    let capacity : page_capacity new ≡ page_capacity s.world =
    rw (keeps.same.blocks, keeps.same.per_block) refl in
    record {
      fits = keeps.fits;
      always = record {
        safe = rw none keeps.safe;
        elsewhere = elsewhere_none s.waits new.gc.per_block _ none;
        room = rw none (omega arith);
        in_range = λ p is. absurd (none-some p (sym none ∙ is));
      };
      running = λ now. record {
        mapped = keeps.safe.mapped;
        live = keeps.live now;
        waiting = waiting_none _ s.waits none;
      };
      owed = λ is. (and_parts owed (is_busy new.gc.phase) is).1;
      counted = counted_takes s new (stop_of step) sound on takes;
    }

-- what a step of the collector leaves of the sizes, the pages and the counts
pub collected_call : (s new : PageStoreView) (owed : Bool) (step : Result GcStep FlashStop) → IsStoreSound s
    → s.world.flash.on ≡ true → IsBlockTableSound s.world.table → Collects owed s step new → IsCall s (stop_of step) new
collected_call s new owed step sound on table r =
    let keeps = steps_kept s.world new.world step table (ready_in s sound on) r.world in
    let takes = takes_of s.world new.world step r.world in
    record {
      same = record {
        blocks = keeps.same.blocks;
        per_block = keeps.same.per_block;
        pages = keeps.same.pages;
        plan = plan_takes s.world new.world (stop_of step) takes;
        making = making_takes s.world new.world (stop_of step) takes;
        low = ap (λ (x : PageStoreView). x.low) r.store;
        opened = ap (λ (x : PageStoreView). x.opened) r.store;
      };
      takes = takes;
    }

pub collected_same : (s new : PageStoreView) (owed : Bool) (step : Result GcStep FlashStop) → IsStoreSound s
    → s.world.flash.on ≡ true → IsBlockTableSound s.world.table → Collects owed s step new → SameBytes s new
collected_same s new owed step sound on table r =
    let keeps = steps_kept s.world new.world step table (ready_in s sound on) r.world in
    record { bytes = keeps.same.bytes; versions = keeps.same.versions }

-- sealed cells of so many operations are those of more
pub sealed_later : (pages ops later : ℕ) (cells : List Cell) → ops ≤ later → AreSealed pages ops cells
    → AreSealed pages later cells
sealed_later pages ops later cells more s = record {
  same = s.same;
  page = s.page;
  least = s.least;
  most = λ a x spare p. (let made_by = s.most a x spare p in omega arith);
  full = s.full;
}

-- a flash operation that changes no cell, as the fields of a world
abbrev pub with_flash : PageStoreView → FlashState → FlashCounts → PageStoreView
with_flash s flash counts = record s { world = record s.world { flash = flash; counts = counts } }

pub fits_operated : (w : World) (flash : FlashState) (counts : FlashCounts) (stop : Option FlashStop) → Fits w
    → Operates w.flash stop flash → length flash.cells ≡ length w.flash.cells
    → Fits (record w { flash = flash; counts = counts })
fits_operated w flash counts stop fits operates size = record {
  per_block = operates.same.per_block ∙ fits.per_block;
  blocks = operates.same.blocks ∙ fits.blocks;
  table = fits.table;
  cells = size ∙ fits.cells;
  places = fits.places;
  some = fits.some;
  small = fits.small;
}

pending_same : (s : PageStoreView) (flash : FlashState) (counts : FlashCounts) (waits : Option Pending)
    → flash.cells ≡ s.world.flash.cells → IsWaiting s waits → IsWaiting (with_flash s flash counts) waits
pending_same s flash counts None cells waiting = tt
pending_same s flash counts (Some p) cells waiting = record {
  bytes = waiting.bytes;
  cell = ap (λ (c : List Cell). cell_at c p.at.0) cells ∙ waiting.cell;
  size = waiting.size;
  newest = λ a x spare is. waiting.newest a x spare (sym (ap (λ (c : List Cell). cell_at c a) cells) ∙ is);
  least = waiting.least;
  drawn = waiting.drawn;
  block = waiting.block;
  place = waiting.place;
  used = waiting.used;
  apart = waiting.apart;
  mapped = waiting.mapped;
  usable = waiting.usable;
}

-- a page is read
pub read_sound : (s : PageStoreView) (flash : FlashState) (counts : FlashCounts) (stop : Option FlashStop)
    → IsStoreSound s → s.world.flash.on ≡ true → flash.cells ≡ s.world.flash.cells
    → Operates s.world.flash stop flash → total_of counts ≡ total_of s.world.counts + 1
    → IsStoreSound (with_flash s flash counts)
read_sound s flash counts stop sound on cells operates more =
    let rise = operations_rise s.world.flash flash stop operates in
    let drawn = sound.always.safe.drawn in
    record {
      fits = fits_operated s.world flash counts stop sound.fits operates (ap (λ (c : List Cell). length c) cells);
      always = record {
        safe = record {
          sealed_cells = rw cells
              (sealed_later (length s.world.places.pages) s.world.flash.operations flash.operations s.world.flash.cells rise
              sound.always.safe.sealed_cells);
          mapped = rw cells sound.always.safe.mapped;
          first = sound.always.safe.first;
          drawn = omega arith;
          spare = sound.always.safe.spare;
        };
        elsewhere = sound.always.elsewhere;
        room = sound.always.room;
        in_range = sound.always.in_range;
      };
      running = λ now.
          (let running = sound.running on in record {
            mapped = rw cells running.mapped;
            live = rw cells running.live;
            waiting = pending_same s flash counts s.waits cells running.waiting;
          });
      owed = sound.owed;
      counted = counted_more s flash counts stop sound on operates more;
    }

-- the power is turned off
off_on_by : (flash : FlashState) (was : Bool) → flash.on ≡ was
    → (cond was (record flash { on = false; cut = false }) flash).on ≡ true → ⊥
off_on_by flash true is on = cc
off_on_by flash false is on = cc

off_on : (flash : FlashState) → (powered_off flash).on ≡ true → ⊥
off_on flash on = off_on_by flash flash.on refl on

off_same_by : {X : Type 0} (field : FlashState → X) (flash : FlashState) (was : Bool)
    → field (record flash { on = false; cut = false }) ≡ field flash
    → field (cond was (record flash { on = false; cut = false }) flash) ≡ field flash
off_same_by field flash true same = same
off_same_by field flash false same = refl

off_same : {X : Type 0} (field : FlashState → X) (flash : FlashState)
    → field (record flash { on = false; cut = false }) ≡ field flash → field (powered_off flash) ≡ field flash
off_same field flash same = off_same_by field flash flash.on same

pub off_sound : (s : PageStoreView) → IsStoreSound s
    → IsStoreSound (record s { world = record s.world { flash = powered_off s.world.flash } })
off_sound s sound =
    let cells = off_same (λ (f : FlashState). f.cells) s.world.flash refl in
    let operations = off_same (λ (f : FlashState). f.operations) s.world.flash refl in
    record {
      fits = record {
        per_block = off_same (λ (f : FlashState). f.per_block) s.world.flash refl ∙ sound.fits.per_block;
        blocks = off_same (λ (f : FlashState). f.blocks) s.world.flash refl ∙ sound.fits.blocks;
        table = sound.fits.table;
        cells = ap (λ (c : List Cell). length c) cells ∙ sound.fits.cells;
        places = sound.fits.places;
        some = sound.fits.some;
        small = sound.fits.small;
      };
      always = record {
        safe = record {
          sealed_cells = rw (cells, operations) sound.always.safe.sealed_cells;
          mapped = rw cells sound.always.safe.mapped;
          first = sound.always.safe.first;
          drawn = rw operations sound.always.safe.drawn;
          spare = sound.always.safe.spare;
        };
        elsewhere = sound.always.elsewhere;
        room = sound.always.room;
        in_range = sound.always.in_range;
      };
      running = λ on. absurd (off_on s.world.flash on);
      owed = sound.owed;
      counted = sound.counted ∙ sym operations;
    }

-- a read changes no cell
pub reads_same : (cells : List Cell) (at : ℕ) (before : List ℕ) (result : Result (Unit {0}) FlashStop) (after : List ℕ)
    (new : List Cell) → ReadsBytes cells at before result after new → new ≡ cells
reads_same cells at before (Ok _) after new r = r.1
reads_same cells at before (Err stop) after new r = r.1
