-- What a step keeps, put together.
use Rattle.std.proofs.Common.{◌≡◌, ℕ, true, length, Option, Some, refl, sym, ap, ◌∙◌}
use Rattle.ff_flash.proofs.Operated.{off_after, operations_rise}
use Rattle.ff_flash.specs.FlashState.{FlashState, Operates}
use Rattle.ff_flash.specs.declared.flash.FlashStop.{FlashStop}
use Rattle.ff_flash.specs.declared.flash.FlashStop.TheVariants.{Off}
use Rattle.ff_space.proofs.Changed.{length-changed_at}
use Rattle.ff_space.specs.BlockTable.{changed_at}
use Rattle.ff_space.specs.declared.block.BlockEntry.{BlockEntry}
use Rattle.ff_map.specs.PageMap.{PageMapView, mapping_of, version_of}
use Rattle.ff_gc.proofs.Retaining.{Retains, bytes_retained, safe_retained}
use Rattle.ff_gc.specs.Collector.{CollectorView}
use Rattle.ff_gc.specs.Running.{IsLive}
use Rattle.ff_gc.specs.Steps.{Makes}
use Rattle.ff_gc.specs.World.{IsCollectorReady, Keeps, SamePages, World, mapped_bytes}
use Rattle.ff_gc.specs.declared.counts.OperationKind.{OperationKind}

-- an operation of the flash that seals nothing but copies and loses no mapped page
pub operated : (old new : World) (kind : OperationKind) (stop : Option FlashStop) → IsCollectorReady old
    → Retains old.places old.flash.cells new.flash.cells → Makes kind old stop new
    → new.gc.per_block ≡ old.gc.per_block → length new.table.blocks ≡ length old.table.blocks
    → new.table.per_block ≡ old.table.per_block → new.places ≡ old.places
    → (new.flash.on ≡ true → IsLive new.gc new.flash.cells new.table old.places) → Keeps old new
operated old new kind stop ready r made per blocks table places live = record {
  same = record {
    bytes = λ page.
        ap (λ (p : PageMapView). mapped_bytes new.flash.cells (mapping_of p page)) places
        ∙ bytes_retained old.places old.flash.cells new.flash.cells r page (mapping_of old.places page) refl;
    versions = λ page. ap (λ (p : PageMapView). version_of p page) places;
    next = ap (λ (p : PageMapView). p.next_version) places;
    pages = ap (λ (p : PageMapView). length p.pages) places;
    blocks = blocks;
    per_block = per;
  };
  fits = record {
    per_block = made.flash.same.per_block ∙ ready.fits.per_block ∙ sym per;
    blocks = made.flash.same.blocks ∙ ready.fits.blocks ∙ sym blocks;
    table = table ∙ ready.fits.table ∙ sym per;
    cells = rw (blocks, per) (r.size ∙ ready.fits.cells);
    places = rw (blocks, per, places) ready.fits.places;
    some = rw per ready.fits.some;
    small = rw (blocks, per) ready.fits.small;
  };
  safe = rw (blocks, per, places)
      (safe_retained (length old.table.blocks) old.gc.per_block old.flash.operations new.flash.operations old.places
      old.flash.cells new.flash.cells r (operations_rise old.flash new.flash stop made.flash) ready.safe);
  live = λ on. rw places (live on);
}

-- an operation that was cut leaves the power off
pub not_off : (before after : FlashState) → Operates before (Some Off) after → after.on ≡ true → ⊥
not_off before after made on = (let off = off_after before after made in cc)

-- the collector and one block change, without an operation
abbrev pub changed_world : World → CollectorView → ℕ → (BlockEntry → BlockEntry) → World
changed_world w gc block change = record w { gc = gc; table = changed_at w.table block change }

pub same_changed : (w : World) (gc : CollectorView) (block : ℕ) (change : BlockEntry → BlockEntry)
    → gc.per_block ≡ w.gc.per_block → SamePages w (changed_world w gc block change)
same_changed w gc block change per = record {
  bytes = λ page. refl;
  versions = λ page. refl;
  next = refl;
  pages = refl;
  blocks = length-changed_at w.table block change;
  per_block = per;
}

pub ready_changed : (w : World) (gc : CollectorView) (block : ℕ) (change : BlockEntry → BlockEntry)
    → gc.per_block ≡ w.gc.per_block → IsCollectorReady w
    → IsLive gc w.flash.cells (changed_at w.table block change) w.places
    → IsCollectorReady (changed_world w gc block change)
ready_changed w gc block change per ready live =
    let blocks : length (changed_at w.table block change).blocks ≡ length w.table.blocks =
    length-changed_at w.table block change in
    record {
      on = ready.on;
      fits = record {
        per_block = ready.fits.per_block ∙ sym per;
        blocks = ready.fits.blocks ∙ sym blocks;
        table = ready.fits.table ∙ sym per;
        cells = rw (blocks, per) ready.fits.cells;
        places = rw (blocks, per) ready.fits.places;
        some = rw per ready.fits.some;
        small = rw (blocks, per) ready.fits.small;
      };
      safe = rw (blocks, per) ready.safe;
      live = live;
    }

pub same_then : (one two three : World) → SamePages one two → SamePages two three
    → SamePages one three
same_then one two three first second = record {
  bytes = λ page. second.bytes page ∙ first.bytes page;
  versions = λ page. second.versions page ∙ first.versions page;
  next = second.next ∙ first.next;
  pages = second.pages ∙ first.pages;
  blocks = second.blocks ∙ first.blocks;
  per_block = second.per_block ∙ first.per_block;
}

pub keeps_after : (one two three : World) → SamePages one two → Keeps two three → Keeps one three
keeps_after one two three same keeps = record {
  same = same_then one two three same keeps.same;
  fits = keeps.fits;
  safe = keeps.safe;
  live = keeps.live;
}
