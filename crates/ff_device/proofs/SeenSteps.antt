-- The steps of a store, as a device sees them.
use Rattle.std.proofs.Common.{◌≡◌, ◌≢◌, ◌<◌, ℕ, true, false, List, Option, None, Some, inl, inr, refl, sym, ap, ◌∙◌}
use Rattle.std.specs.Option.{is_some}
use Rattle.std.specs.Prelude.{Result, Ok, Err, MatchOption, option_map}
use Rattle.std.proofs.lemmas.Bool.{cases_Bool}
use Rattle.ff_base.specs.declared.numbers.PageNo.{PageNo}
use Rattle.ff_base.specs.declared.numbers.Ppn.{Ppn}
use Rattle.ff_flash.specs.Cells.{Cell, cell_bytes}
use Rattle.ff_flash.specs.declared.flash.FlashStop.{FlashStop}
use Rattle.ff_flash.specs.declared.flash.FlashStop.TheVariants.{Off}
use Rattle.ff_gc.specs.World.{page_bytes}
use Rattle.ff_gc.specs.declared.collector.GcStep.{GcStep}
use Rattle.ff_map.specs.PageMap.{mapping_of, place_of}
use Rattle.ff_map.specs.declared.places.Mapping.{Mapping}
use Rattle.ff_store.proofs.Basics.{reads_same}
use Rattle.ff_store.specs.Calls.{Fetches, Flushes, IsProgrammed, collected, collects_flush, programs_flush}
use Rattle.ff_store.specs.Left.{left_of}
use Rattle.ff_store.specs.PageStore.{PageStoreView}
use Rattle.ff_store.specs.declared.pending.Pending.{Pending}
use Rattle.ff_store.specs.declared.store.FlushStep.{FlushStep}
use Rattle.ff_store.specs.declared.store.FlushStep.TheVariants.{Collected, Programmed, Sealed}
use Rattle.ff_device.specs.StoreState.{bytes_at, flush_at, is_stored, seen_of, stored_bytes}
use Rattle.ff_device.specs.StoreSteps.{MakesFlushStep}
use Rattle.ff_device.proofs.SeenPages.{seen_bytes, stored_at}

no_flush : (cells : List Cell) (waits : Option Pending) → flush_at cells waits ≡ None → waits ≡ None
no_flush cells None is = refl
no_flush cells (Some p) is = absurd (cc)

-- no flush is to be sealed
pub none_waits : (s : PageStoreView) → (seen_of s).pending ≡ None → s.waits ≡ None
none_waits s is = no_flush s.world.flash.cells s.waits is

pub none_sealed : (waits : Option Pending) → is_some waits ≡ false → waits ≡ None
none_sealed None is = refl
none_sealed (Some p) is = absurd (cc)

some_flush : (cells : List Cell) (waits : Option Pending) → is_some (flush_at cells waits) ≡ is_some waits
some_flush cells None = refl
some_flush cells (Some p) = refl

-- a flush is to be sealed
pub pending_is : (s : PageStoreView) → is_some (seen_of s).pending ≡ is_some s.waits
pending_is s = some_flush s.world.flash.cells s.waits

pub fetched_bytes : (s : PageStoreView) (page : PageNo) (bytes : List ℕ) → bytes ≡ page_bytes s.world page
    → bytes ≡ stored_bytes (seen_of s) page.0
fetched_bytes s page bytes is = is ∙ sym (seen_bytes s page)

-- a fetch changes nothing of what a device sees but the power and the counts
pub record SeenSame (old new : PageStoreView) : Type 0 where
  pub pages : (seen_of new).pages ≡ (seen_of old).pages
  pub pending : (seen_of new).pending ≡ (seen_of old).pending

seen_same : (old new : PageStoreView) → new ≡ old → SeenSame old new
seen_same old new same = rw same (record { pages = refl; pending = refl })

fetches_same : (old new : PageStoreView) (at : Ppn) (before after : List ℕ) (result : Result (Unit {0}) FlashStop)
    → Fetches old at before result after new → SeenSame old new
fetches_same old new at before after result f =
    let cells : new.world.flash.cells ≡ old.world.flash.cells =
    reads_same old.world.flash.cells at.0 before result after new.world.flash.cells f.cells in
    let places = ap (λ (s : PageStoreView). s.world.places) f.store in
    let waits = ap (λ (s : PageStoreView). s.waits) f.store in
    record { pages = rw (cells, places) refl; pending = rw (cells, waits) refl }

place_same : (old new : PageStoreView) (place : Option Ppn) (before after : List ℕ)
    (result : Result (Unit {0}) FlashStop)
    → MatchOption place ((new ≡ old) × (result ≡ Ok tt)) (λ at. Fetches old at before result after new) → SeenSame old new
place_same old new None before after result m = seen_same old new m.0
place_same old new (Some at) before after result m = fetches_same old new at before after result m

pub fetched_same : (old new : PageStoreView) (page : PageNo) (before after : List ℕ)
    (result : Result (Unit {0}) FlashStop)
    → (old.world.flash.on ≡ false → (result ≡ Err Off) × (new ≡ old))
    → (old.world.flash.on ≡ true → MatchOption (place_of old.world.places page) ((new ≡ old) × (result ≡ Ok tt))
    (λ at. Fetches old at before result after new))
    → SeenSame old new
fetched_same old new page before after result off mapped = elim (cases_Bool old.world.flash.on) [
  | inl on ↦ place_same old new (place_of old.world.places page) before after result (mapped on)
  | inr down ↦ seen_same old new (off down).1
]

unmapped_by : (cells : List Cell) (m : Option Mapping) → is_some (bytes_at cells m) ≡ false
    → option_map (λ (x : Mapping). x.at) m ≡ None
unmapped_by cells None none = refl
unmapped_by cells (Some m) none = absurd (cc)

unmapped_place : (s : PageStoreView) (page : PageNo) → is_stored (seen_of s) page.0 ≡ false → place_of s.world.places page ≡ None
unmapped_place s page none =
    unmapped_by s.world.flash.cells (mapping_of s.world.places page)
    (ap (λ (o : Option (List ℕ)). is_some o) (sym (stored_at s page.0)) ∙ none)

place_none : (old new : PageStoreView) (place : Option Ppn) (before after : List ℕ)
    (result : Result (Unit {0}) FlashStop) → place ≡ None
    → MatchOption place ((new ≡ old) × (result ≡ Ok tt)) (λ at. Fetches old at before result after new) → new ≡ old
place_none old new None before after result none m = m.0
place_none old new (Some at) before after result none m = absurd (cc)

-- a page that isn't mapped is fetched without a call of the flash
pub fetched_unmapped : (old new : PageStoreView) (page : PageNo) (before after : List ℕ)
    (result : Result (Unit {0}) FlashStop)
    → (old.world.flash.on ≡ false → (result ≡ Err Off) × (new ≡ old))
    → (old.world.flash.on ≡ true → MatchOption (place_of old.world.places page) ((new ≡ old) × (result ≡ Ok tt))
    (λ at. Fetches old at before result after new))
    → is_stored (seen_of old) page.0 ≡ false → new ≡ old
fetched_unmapped old new page before after result off mapped none = elim (cases_Bool old.world.flash.on) [
  | inl on ↦ place_none old new (place_of old.world.places page) before after result (unmapped_place old page none) (mapped on)
  | inr down ↦ (off down).1
]

-- a step of a flush
programmed_flush : (new : PageStoreView) (page : PageNo) (bytes : List ℕ) → IsProgrammed new page bytes
    → (seen_of new).pending ≡ Some (record { page = page.0; bytes = bytes })
programmed_flush new page bytes p =
    ap (λ (waits : Option Pending). flush_at new.world.flash.cells waits) p.is
    ∙ ap (λ (b : List ℕ). Some (record { page = p.pending.page.0; bytes = b })) (ap cell_bytes p.cell)
    ∙ ap (λ (q : PageNo). Some (record { page = q.0; bytes = bytes })) p.page_is

unsealed_step : (step : Result GcStep FlashStop) (other : PageNo)
    → ◌≡◌ {A = Result FlushStep FlashStop} (Ok (Sealed other)) (collected step) → ⊥
unsealed_step (Ok step) other is = cc
unsealed_step (Err stop) other is = cc

unsealed : (old new : PageStoreView) (page : PageNo) (bytes : List ℕ) (other : PageNo)
    → Flushes old page bytes (Ok (Sealed other)) new → ⊥
unsealed old new page bytes other (programs_flush place p) = let e = p.step in cc
unsealed old new page bytes other (collects_flush now c) = unsealed_step c.step other c.answer

pub flushed : (old new : PageStoreView) (page : PageNo) (bytes : List ℕ) (result : Result FlushStep FlashStop)
    → (old.world.flash.on ≡ false → (result ≡ Err Off) × (new ≡ old))
    → (old.world.flash.on ≡ true → Flushes old page bytes result new)
    → (result ≡ Ok Programmed → IsProgrammed new page bytes)
    → (result ≢ Ok Programmed → new.waits ≡ None)
    → (result ≡ Ok Collected → left_of new.world < left_of old.world)
    → MakesFlushStep page.0 bytes result (seen_of old) (seen_of new)
flushed old new page bytes (Ok Programmed) off step programmed none left = programmed_flush new page bytes (programmed refl)
flushed old new page bytes (Ok Collected) off step programmed none left =
    (rw (none (λ e. cc)) refl, left refl)
flushed old new page bytes (Ok (Sealed other)) off step programmed none left = elim (cases_Bool old.world.flash.on) [
  | inl on ↦ unsealed old new page bytes other (step on)
  | inr down ↦ (let e = (off down).0 in absurd (cc))
]
flushed old new page bytes (Err stop) off step programmed none left = rw (none (λ e. cc)) refl
