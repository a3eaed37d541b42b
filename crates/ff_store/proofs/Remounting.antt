-- A store that is made by the probes of a flash keeps what every store keeps.
use Rattle.std.proofs.Common.{◌≡◌, ◌≢◌, ◌<◌, ◌≤◌, ◌+◌, ◌*◌, ◌/◌, ◌%◌, ℕ, Bool, true, false, cond, eqb, List, length, get_or, Option, None, Some, inl, inr, refl, sym, ap, subst, ◌∙◌, arith}
use Rattle.std.specs.Prelude.{is_some}
use Rattle.std.specs.List.{range_with_len}
use Rattle.std.proofs.lemmas.Bool.{cases_Bool, cases_eq, cases_lt, eq-eqb, eqb-true, ne_eqb}
use Rattle.std.proofs.lemmas.List.FromFn.{get_or-range_with_len, length-range_with_len}
use Rattle.std.proofs.lemmas.Nat.{mod_below}
use Rattle.std.proofs.lemmas.Option.{none-some}
use Rattle.ff_base.specs.Geometry.{IsWithinLimits}
use Rattle.ff_base.specs.declared.geometry.Geometry.{Geometry}
use Rattle.ff_base.specs.declared.numbers.PageNo.{PageNo}
use Rattle.ff_flash.specs.Cells.{Cell, cell_at, cell_bytes, erased, sealed}
use Rattle.ff_flash.specs.FlashState.{FlashState, powered_up}
use Rattle.ff_flash.specs.declared.flash.FlashStop.{FlashStop}
use Rattle.ff_flash.specs.declared.flash.FlashStop.TheVariants.{Failed as FlashFailed, Off as FlashOff}
use Rattle.ff_flash.specs.declared.spare.Spare.{Spare}
use Rattle.ff_space.specs.BlockTable.{IsInState, BlockTableView, block_at}
use Rattle.ff_space.specs.declared.block.BlockState.{BlockState}
use Rattle.ff_space.specs.declared.block.BlockState.TheVariants.{Erased, Full, Held, Open, Waiting}
use Rattle.ff_map.specs.PageMap.{PageMapView, mapping_of}
use Rattle.ff_map.specs.declared.places.Mapping.{Mapping}
use Rattle.ff_scan.proofs.Newest.{sealed_within}
use Rattle.ff_scan.specs.Found.{IsFoundPage, IsNewestMapping, IsOneAbove, IsScan, found_state}
use Rattle.ff_scan.specs.Probes.{probes_of}
use Rattle.ff_scan.specs.Probing.{IsProbeStopped}
use Rattle.ff_gc.proofs.Counting.{count_fewer, count_zero}
use Rattle.ff_gc.proofs.Numbers.{block_within, place_is}
use Rattle.ff_gc.specs.Cells.{AreMapped, AreSealed, HasNewer}
use Rattle.ff_gc.specs.Collector.{CollectorView, mounted_phase}
use Rattle.ff_gc.specs.Running.{IsAt, IsTabled}
use Rattle.ff_map.specs.MappedPages.{is_in}
use Rattle.ff_store.proofs.Bests.{IsBest, best_is, sealed_holds}
use Rattle.ff_store.proofs.Mounting.{best_bytes, covered, few_sealed}
use Rattle.ff_store.proofs.Probes.{cell_erased, cell_sealed, probe_sealed}
use Rattle.ff_store.specs.Best.{Version, best, sealed_count}
use Rattle.ff_store.specs.PageStore.{IsStoreSound, PageStoreView}
use Rattle.ff_store.specs.Pages.{mapped_count}
use Rattle.ff_store.specs.Remounted.{IsHandedBack, IsOfGeometry, IsRemountable, IsRemounted, found_store}
use Rattle.ff_store.specs.declared.remount.StoreStop.{StoreStop}
use Rattle.ff_store.specs.declared.remount.StoreStop.TheVariants.{NoMemory, Failed, Off}

-- a page's mapping is the newest outside the spare block
newest : (g : Geometry) (cells : List Cell) (spare : ℕ) (table : BlockTableView) (places : PageMapView) (page : PageNo) (m : Mapping)
    → IsScan g (probes_of cells) spare table places → mapping_of places page ≡ Some m
    → IsNewestMapping g.per_block (probes_of cells) spare page m
newest g cells spare table places page m scan is =
    subst (λ (o : Option Mapping). IsFoundPage g.per_block (probes_of cells) spare page o) is (scan.pages page)

placed : (g : Geometry) (cells : List Cell) (spare : ℕ) (table : BlockTableView) (places : PageMapView) (page : PageNo) (m : Mapping)
    → IsScan g (probes_of cells) spare table places → mapping_of places page ≡ Some m
    → cell_at cells m.at.0 ≡ sealed (cell_bytes (cell_at cells m.at.0)) (record { page = page; version = m.version })
placed g cells spare table places page m scan is =
    cell_sealed cells m.at.0 _ (newest g cells spare table places page m scan is).there.is

newer_by : (g : Geometry) (cells : List Cell) (spare a : ℕ) (x : List ℕ) (other : Spare) (places : PageMapView) (o : Option Mapping)
    → mapping_of places other.page ≡ o → IsFoundPage g.per_block (probes_of cells) spare other.page o
    → cell_at cells a ≡ sealed x other → a / g.per_block ≢ spare → HasNewer places other
newer_by g cells spare a x other places None is none there out =
    absurd (none a other (record { is = probe_sealed cells a x other there; outside = out }) refl)
newer_by g cells spare a x other places (Some m) is found there out = record {
  mapping = m;
  is = is;
  newer = found.newest a other (record { is = probe_sealed cells a x other there; outside = out }) refl;
}

-- a sealed page outside the spare block is known to the map
known_outside : (g : Geometry) (cells : List Cell) (spare a : ℕ) (x : List ℕ) (other : Spare) (table : BlockTableView) (places : PageMapView)
    → IsScan g (probes_of cells) spare table places → cell_at cells a ≡ sealed x other → a / g.per_block ≢ spare
    → HasNewer places other
known_outside g cells spare a x other table places scan there out =
    newer_by g cells spare a x other places (mapping_of places other.page) refl (scan.pages other.page) there out

newer_as : (places : PageMapView) (one other : Spare) → HasNewer places other → other.page ≡ one.page
    → one.version ≤ other.version → HasNewer places one
newer_as places one other has same most = record {
  mapping = has.mapping;
  is = ap (λ (q : PageNo). mapping_of places q) (sym same) ∙ has.is;
  newer = (let newer = has.newer in omega arith);
}

-- and so is one in the spare block, which is covered
known_inside : (g : Geometry) (cells : List Cell) (spare a : ℕ) (x : List ℕ) (other : Spare) (table : BlockTableView) (places : PageMapView)
    → IsScan g (probes_of cells) spare table places → cell_at cells a ≡ sealed x other → a / g.per_block ≡ spare
    → HasNewer places other
known_inside g cells spare a x other table places scan there lies =
    let one = scan.spare_is.has.covered a lies other (probe_sealed cells a x other there) in
    newer_as places other one.other
    (known_outside g cells spare one.at _ one.other table places scan (cell_sealed cells one.at one.other one.is)
    (λ same. one.elsewhere (same ∙ sym lies)))
    one.page one.newer

known : (g : Geometry) (cells : List Cell) (spare a : ℕ) (x : List ℕ) (other : Spare) (table : BlockTableView) (places : PageMapView)
    → IsScan g (probes_of cells) spare table places → cell_at cells a ≡ sealed x other → HasNewer places other
known g cells spare a x other table places scan there = elim (cases_eq (a / g.per_block) spare) [
  | inl lies ↦ known_inside g cells spare a x other table places scan there lies
  | inr out ↦ known_outside g cells spare a x other table places scan there out
]

are_mapped : (g : Geometry) (cells : List Cell) (spare : ℕ) (table : BlockTableView) (places : PageMapView)
    → IsScan g (probes_of cells) spare table places → AreMapped None cells places
are_mapped g cells spare table places scan = record {
  placed = λ page m is. placed g cells spare table places page m scan is;
  known = λ a x other there. inl (known g cells spare a x other table places scan there);
  next = λ a x other there.
      (let is = probe_sealed cells a x other there in
      scan.next.above a other (sealed_within (probes_of cells) a other is) is);
}

drawn_by : (g : Geometry) (flash : FlashState) (next : ℕ) → AreSealed g.pages flash.operations flash.cells
    → IsOneAbove (probes_of flash.cells) next → next ≤ flash.operations + 1
drawn_by g flash next sealed_cells one =
    let most = sealed_cells.most one.at _ one.spare (cell_sealed flash.cells one.at one.spare one.is) in
    let above = one.above in
    omega arith

drawn : (g : Geometry) (flash : FlashState) (spare : ℕ) (table : BlockTableView) (places : PageMapView)
    → AreSealed g.pages flash.operations flash.cells → IsScan g (probes_of flash.cells) spare table places
    → places.next_version ≤ flash.operations + 1
drawn g flash spare table places sealed_cells scan = elim (cases_lt 1 places.next_version) [
  | inl more ↦ drawn_by g flash places.next_version sealed_cells (scan.next.drawn more)
  | inr one ↦ omega arith
]

best_some : (cells : List Cell) (page : PageNo) (o : Option Version) (at version : ℕ) (bytes : List ℕ) → IsBest cells page o
    → cell_at cells at ≡ sealed bytes (record { page = page; version = version }) → is_some o ≡ true
best_some cells page None at version bytes none is =
    absurd (none-some _ (sym (none at) ∙ sealed_holds page (cell_at cells at) bytes version is))
best_some cells page (Some v) at version bytes newest_is is = refl

mapped_some : (o : Option Mapping) (P : Type 0) → is_some o ≡ true → ((m : Mapping) → o ≡ Some m → P) → P
mapped_some None P has then = absurd (cc)
mapped_some (Some m) P has then = then m refl

-- no more pages are mapped than are sealed
few_mapped : (g : Geometry) (cells : List Cell) (spare : ℕ) (table : BlockTableView) (places : PageMapView)
    → IsScan g (probes_of cells) spare table places → mapped_count places ≤ sealed_count g.pages cells
few_mapped g cells spare table places scan =
    let sizes : length (range_with_len 0 g.pages) ≡ g.pages = length-range_with_len 0 g.pages in
    count_fewer (λ (m : Option Mapping). is_some m) (λ n. is_some (best cells (record { 0 = n })))
    places.pages (range_with_len 0 g.pages) None g.pages (scan.page_count ∙ sym sizes)
    (λ n below has.
    (let page : PageNo = record { 0 = n } in
    let count = scan.page_count in
    let within : n < g.pages = omega arith in
    let number : get_or (range_with_len 0 g.pages) n g.pages ≡ n =
    (let is = get_or-range_with_len 0 g.pages n g.pages within in omega arith) in
    ap (λ (k : ℕ). is_some (best cells (record { 0 = k }))) number
    ∙ mapped_some (mapping_of places page) (is_some (best cells page) ≡ true) has
    (λ m is. best_some cells page (best cells page) m.at.0 m.version _ (best_is cells page)
    (placed g cells spare table places page m scan is))))

-- a state of a block that isn't held
found_held : (per next : ℕ) (is_spare : Bool) → found_state per is_spare next ≢ Held
found_held per next true held = elim (cases_Bool (eqb next 0)) [
  | inl none ↦ (let e : Erased ≡ Held = rw none at held in cc)
  | inr some ↦ (let e : Waiting ≡ Held = rw some at held in cc)
]
found_held per next false held = elim (cases_Bool (eqb next 0)) [
  | inl none ↦ (let e : Erased ≡ Held = rw none at held in cc)
  | inr some ↦ elim (cases_Bool (eqb next per)) [
    | inl all ↦ (let e : Full ≡ Held = rw (some, all) at held in cc)
    | inr not_all ↦ (let e : Open ≡ Held = rw (some, not_all) at held in cc)
  ]
]

-- only the spare block waits
found_waits : (per next : ℕ) (is_spare : Bool) → found_state per is_spare next ≡ Waiting → is_spare ≡ true
found_waits per next true waits = refl
found_waits per next false waits = elim (cases_Bool (eqb next 0)) [
  | inl none ↦ (let e : Erased ≡ Waiting = rw none at waits in cc)
  | inr some ↦ elim (cases_Bool (eqb next per)) [
    | inl all ↦ (let e : Full ≡ Waiting = rw (some, all) at waits in cc)
    | inr not_all ↦ (let e : Open ≡ Waiting = rw (some, not_all) at waits in cc)
  ]
]

none_held : (g : Geometry) (cells : List Cell) (spare : ℕ) (table : BlockTableView) (places : PageMapView)
    → IsScan g (probes_of cells) spare table places → (block : ℕ) → IsInState table.blocks Held block → ⊥
none_held g cells spare table places scan block is =
    let count = scan.block_count in
    let in_range = is.in_range in
    let found = scan.blocks block (omega arith) in
    found_held g.per_block (block_at table block).next (eqb spare block) (sym found.state ∙ is.state)

only_spare : (g : Geometry) (cells : List Cell) (spare : ℕ) (table : BlockTableView) (places : PageMapView)
    → IsScan g (probes_of cells) spare table places → (block : ℕ) → IsInState table.blocks Waiting block → block ≡ spare
only_spare g cells spare table places scan block is =
    let count = scan.block_count in
    let in_range = is.in_range in
    let found = scan.blocks block (omega arith) in
    sym (eqb-true spare block
    (found_waits g.per_block (block_at table block).next (eqb spare block) (sym found.state ∙ is.state)))

spare_state : (g : Geometry) (cells : List Cell) (spare : ℕ) (table : BlockTableView) (places : PageMapView)
    → IsScan g (probes_of cells) spare table places
    → (block_at table spare).state ≡ found_state g.per_block true (block_at table spare).next
spare_state g cells spare table places scan =
    (scan.blocks spare scan.spare_is.has.in_range).state
    ∙ ap (λ (b : Bool). found_state g.per_block b (block_at table spare).next) (eq-eqb spare spare refl)

spare_in : (g : Geometry) (cells : List Cell) (spare : ℕ) (table : BlockTableView) (places : PageMapView) (state : BlockState)
    → IsScan g (probes_of cells) spare table places → (block_at table spare).state ≡ state
    → IsInState table.blocks state spare
spare_in g cells spare table places state scan is = record {
  in_range = (let in_range = scan.spare_is.has.in_range in let count = scan.block_count in omega arith);
  state = is;
}

-- no page is mapped in the spare block
spare_unmapped : (g : Geometry) (cells : List Cell) (spare : ℕ) (table : BlockTableView) (places : PageMapView)
    → IsScan g (probes_of cells) spare table places → (block_at table spare).mapped ≡ 0
spare_unmapped g cells spare table places scan =
    scan.mapped spare scan.spare_is.has.in_range
    ∙ count_zero (λ (m : Option Mapping). is_in g.per_block spare m) places.pages None
    (λ n. not_in (record { 0 = n }) (mapping_of places (record { 0 = n })) (scan.pages (record { 0 = n })))
  where
    not_in : (page : PageNo) (o : Option Mapping) → IsFoundPage g.per_block (probes_of cells) spare page o
        → is_in g.per_block spare o ≡ false
    not_in page None found = refl
    not_in page (Some m) found = ne_eqb (m.at.0 / g.per_block) spare found.there.outside

tabled : (g : Geometry) (cells : List Cell) (spare : ℕ) (table : BlockTableView) (places : PageMapView) → 0 < g.per_block
    → length cells ≡ g.blocks * g.per_block → IsScan g (probes_of cells) spare table places
    → IsTabled g.per_block table cells places
tabled g cells spare table places some size scan = record {
  counted = λ block below. (let count = scan.block_count in scan.mapped block (omega arith));
  blank = λ a below state next.
      (let in_range = block_within g.per_block a g.blocks some (omega arith) in
      let used = (scan.blocks (a / g.per_block) in_range).next in
      let rest = mod_below a g.per_block some in
      let here : a / g.per_block * g.per_block + a % g.per_block ≡ a = sym (place_is g.per_block a (a / g.per_block) refl) in
      subst (λ (n : ℕ). cell_at cells n ≡ erased) here
      (cell_erased cells _ (used.blank (a % g.per_block) next rest)));
}

phase_by : (g : Geometry) (gc : CollectorView) (cells : List Cell) (spare : ℕ) (table : BlockTableView) (places : PageMapView)
    → IsScan g (probes_of cells) spare table places → (none : Bool) → eqb (block_at table spare).next 0 ≡ none
    → IsAt gc cells table places (mounted_phase (cond none None (Some (record { 0 = spare }))))
phase_by g gc cells spare table places scan true test = record {
  none_held = none_held g cells spare table places scan;
  none_waits = λ block is.
      (let same = only_spare g cells spare table places scan block is in
      let erased_now : (block_at table spare).state ≡ Erased = spare_state g cells spare table places scan ∙ rw test refl in
      let e : Erased ≡ Waiting =
      sym erased_now ∙ ap (λ (n : ℕ). (block_at table n).state) (sym same) ∙ is.state in
      cc);
  spare = record {
    block = spare;
    is = spare_in g cells spare table places Erased scan (spare_state g cells spare table places scan ∙ rw test refl);
  };
}
phase_by g gc cells spare table places scan false test = record {
  waits = record {
    is = spare_in g cells spare table places Waiting scan (spare_state g cells spare table places scan ∙ rw test refl);
    only = only_spare g cells spare table places scan;
  };
  unmapped = spare_unmapped g cells spare table places scan;
  none_held = none_held g cells spare table places scan;
}

-- the store that is made of a flash as a power loss left it
pub remounted_sound : (g : Geometry) (flash : FlashState) (spare : ℕ) (table : BlockTableView) (places : PageMapView) → IsWithinLimits g
    → length flash.cells ≡ g.blocks * g.per_block → IsRemountable g flash
    → IsScan g (probes_of flash.cells) spare table places → IsStoreSound (found_store flash g spare table places)
remounted_sound g flash spare table places limits size sound scan =
    let low = limits.per_block.low in
    let most = limits.flash_pages.high in
    let mapped = are_mapped g flash.cells spare table places scan in
    let few = few_mapped g flash.cells spare table places scan in
    let capacity = sound.few in
    let pages : length places.pages ≡ g.pages = scan.page_count in
    record {
      fits = record {
        per_block = sound.per_block;
        blocks = sound.blocks ∙ sym scan.block_count;
        table = scan.per_block;
        cells = rw scan.block_count size;
        places = rw scan.block_count scan.place_count;
        some = omega arith;
        small = rw scan.block_count (omega arith);
      };
      always = record {
        safe = record {
          sealed_cells = rw pages sound.sealed_cells;
          mapped = mapped;
          first = scan.next.least;
          drawn = drawn g flash spare table places sound.sealed_cells scan;
          spare = record {
            block = spare;
            in_range = rw scan.block_count scan.spare_is.has.in_range;
            unmapped = λ page m is. (newest g flash.cells spare table places page m scan is).there.outside;
          };
        };
        elsewhere = tt;
        room = rw scan.block_count (omega arith);
        in_range = λ p is. absurd (none-some p is);
      };
      running = λ on. record {
        mapped = mapped;
        live = record {
          tabled = tabled g flash.cells spare table places (omega arith) size scan;
          phase = phase_by g (found_store flash g spare table places).world.gc flash.cells spare table places scan (eqb (block_at table spare).next 0) refl;
        };
        waiting = tt;
      };
      owed = λ e. cc;
      counted = omega arith;
    }

-- each page has the bytes of its best version
pub remounted_bytes : (g : Geometry) (s : PageStoreView) (spare : ℕ) → IsStoreSound s
    → IsScan g (probes_of s.world.flash.cells) spare s.world.table s.world.places
    → s ≡ found_store s.world.flash g spare s.world.table s.world.places → IsRemounted g s
remounted_bytes g s spare sound scan is = record {
  spare = spare;
  scan = scan;
  store = is;
  bytes = λ page.
      sym (best_bytes s page sound.always
      (λ p waits. absurd (none-some p (sym (ap (λ (x : PageStoreView). x.waits) is) ∙ waits))));
}

sealed_later : (g : Geometry) (flash : FlashState) (operations : ℕ) → flash.operations ≤ operations → IsRemountable g flash
    → AreSealed g.pages operations flash.cells
sealed_later g flash operations rise sound = record {
  same = sound.sealed_cells.same;
  page = sound.sealed_cells.page;
  least = sound.sealed_cells.least;
  most = λ a x spare is. (let most = sound.sealed_cells.most a x spare is in omega arith);
  full = sound.sealed_cells.full;
}

-- operations that change no cell leave a flash as sound as it was
pub remountable_later : (g : Geometry) (flash : FlashState) (count : ℕ) → IsRemountable g flash
    → IsRemountable g (record flash { operations = flash.operations + count })
remountable_later g flash count sound = record {
  blocks = sound.blocks;
  per_block = sound.per_block;
  sealed_cells = sealed_later g flash (flash.operations + count) (omega arith) sound;
  covered = sound.covered;
  few = sound.few;
}

-- so a power loss leaves a flash that can be mounted, whatever the store did
pub remountable : (g : Geometry) (s : PageStoreView) → IsStoreSound s → IsOfGeometry g s.world
    → IsRemountable g s.world.flash
remountable g s sound sizes =
    let always = sound.always in
    let few = few_sealed s always in
    let has = covered s always in
    record {
      blocks = sound.fits.blocks ∙ sizes.blocks;
      per_block = sound.fits.per_block ∙ sizes.per_block;
      sealed_cells = rw (sym sizes.pages) always.safe.sealed_cells;
      covered = rw (sym sizes.blocks, sym sizes.per_block) has;
      few = rw (sym sizes.blocks, sym sizes.per_block, sym sizes.pages) few;
    }

-- the power is turned on
pub remountable_up : (g : Geometry) (flash : FlashState) → IsRemountable g flash → IsRemountable g (powered_up flash)
remountable_up g flash sound = record {
  blocks = sound.blocks;
  per_block = sound.per_block;
  sealed_cells = sound.sealed_cells;
  covered = sound.covered;
  few = sound.few;
}

stopped_remountable : (g : Geometry) (old new : FlashState) (stop : FlashStop) → IsRemountable g old
    → IsProbeStopped (powered_up old) stop new → IsRemountable g new
stopped_remountable g old new stop sound is = record {
  blocks = is.same.blocks ∙ sound.blocks;
  per_block = is.same.per_block ∙ sound.per_block;
  sealed_cells = rw is.cells (sealed_later g old new.operations is.rise sound);
  covered = rw is.cells sound.covered;
  few = rw is.cells sound.few;
}

-- a flash that was handed back can be mounted again
pub remountable_again : (g : Geometry) (old new : FlashState) (stop : StoreStop) → IsRemountable g old
    → IsHandedBack old stop new → IsRemountable g new
remountable_again g old new NoMemory sound back =
    subst (λ (f : FlashState). IsRemountable g f) (sym back) (remountable_up g old sound)
remountable_again g old new Failed sound back = stopped_remountable g old new FlashFailed sound back
remountable_again g old new Off sound back = stopped_remountable g old new FlashOff sound back

-- the sizes of a store that was made so
pub remounted_sizes : (g : Geometry) (s : PageStoreView) → IsRemounted g s → IsOfGeometry g s.world
remounted_sizes g s is = record {
  blocks = is.scan.block_count;
  per_block = ap (λ (x : PageStoreView). x.world.gc.per_block) is.store;
  pages = is.scan.page_count;
}
