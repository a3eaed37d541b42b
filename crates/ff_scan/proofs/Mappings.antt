-- The map of the newest pages outside the spare block, place by place.
use Rattle.std.proofs.Common.{◌≡◌, ◌≢◌, ◌<◌, ◌≤◌, ◌+◌, ◌-◌, ◌*◌, ◌/◌, ℕ, Bool, true, false, cond, eqb, List, length, set, get_or, Option, None, Some, inl, inr, refl, sym, ap, subst, ◌∙◌, arith}
use Rattle.std.specs.Prelude.{option_map, replicate}
use Rattle.std.proofs.lemmas.Bool.{cases_Bool, cases_eq, cases_lt, eq-eqb, ne_eqb}
use Rattle.std.proofs.lemmas.List.{get_or-replicate, get_or-set_other, get_or-set_same, get_or_past, length-replicate, length-set}
use Rattle.std.proofs.lemmas.List.Folds.{sum_by-replicate}
use Rattle.std.proofs.lemmas.List.Sums.{sum_by-set}
use Rattle.std.proofs.lemmas.Nat.{div_below}
use Rattle.std.proofs.lemmas.Option.{none-some, same_Some}
use Rattle.ff_base.specs.Geometry.{IsWithinLimits}
use Rattle.ff_base.specs.declared.geometry.Geometry.{Geometry}
use Rattle.ff_base.specs.declared.numbers.PageNo.{PageNo}
use Rattle.ff_base.specs.declared.numbers.Ppn.{Ppn}
use Rattle.ff_flash.specs.declared.flash.Probe.{Probe}
use Rattle.ff_flash.specs.declared.flash.Probe.TheVariants.{Erased, Sealed}
use Rattle.ff_flash.specs.declared.spare.Spare.{Spare}
use Rattle.ff_space.specs.Blocks.{erased_block, mapped_more, state_by_next, waiting}
use Rattle.ff_space.specs.BlockTable.{BlockTableView, block_at, changed_at}
use Rattle.ff_space.specs.Choices.{IsLeast}
use Rattle.ff_space.specs.declared.block.BlockEntry.{BlockEntry}
use Rattle.ff_space.specs.declared.block.BlockState.TheVariants.{Erased as ErasedBlock, Open, Full, Waiting}
use Rattle.ff_map.specs.PageMap.{IsFreeBut, PageMapView, empty_map, mapping_of, with_mapping}
use Rattle.ff_map.specs.declared.places.Mapping.{Mapping}
use Rattle.ff_scan.proofs.Covering.{place_below, place_from}
use Rattle.ff_scan.proofs.Newest.{newest_most, newest_there, same_page, same_spare, sealed_within}
use Rattle.ff_scan.specs.Covered.{IsCoveredBlock}
use Rattle.ff_scan.specs.Found.{IsFoundBlock, IsFoundPage, IsNewestMapping, IsNextVersion, IsOutside, IsScan}
use Rattle.ff_map.specs.MappedPages.{is_in, mapped_in}
use Rattle.ff_scan.specs.Mapped.{AreTopsMapped, IsTop}
use Rattle.ff_scan.specs.Placed.{AreBlocksPlaced}
use Rattle.ff_scan.specs.Probes.{AreProbes, probe_at}
use Rattle.ff_scan.specs.Tops.{newest_outside}

-- a mapping at this place
record IsMappedAt (o : Option Mapping) (at : Ppn) : Type 0 where
  mapping : Mapping
  is : o ≡ Some mapping
  there : mapping.at ≡ at

at_of : (o : Option Mapping) (at : Ppn) → option_map (λ (m : Mapping). m.at) o ≡ Some at → IsMappedAt o at
at_of None at is = absurd (none-some at is)
at_of (Some m) at is = record { mapping = m; is = refl; there = same_Some m.at at is }

-- no page is at a place that wasn't looked at
pub free_here : (g : Geometry) (probes : List Probe) (spare : ℕ) (at : Ppn) (page : PageNo) (table : BlockTableView) (places : PageMapView)
    → AreTopsMapped g probes spare at.0 table places → IsFreeBut places at page
free_here g probes spare at page table places are other owner =
    let one = at_of (mapping_of places other) at owner in
    let below = are.below other one.mapping one.is in
    let here = ap (λ (p : Ppn). p.0) one.there in
    absurd (omega arith)

by_next_plain : (per next : ℕ) → state_by_next per next ≢ Waiting
by_next_plain per next waits = elim (cases_Bool (eqb next 0)) [
  | inl none ↦ (let e : ErasedBlock ≡ Waiting = rw none at waits in cc)
  | inr some ↦ elim (cases_Bool (eqb next per)) [
    | inl all ↦ (let e : Full ≡ Waiting = rw (some, all) at waits in cc)
    | inr not_all ↦ (let e : Open ≡ Waiting = rw (some, not_all) at waits in cc)
  ]
]

-- no block but the spare one waits
pub not_waiting : (g : Geometry) (probes : List Probe) (spare count block : ℕ) (table : BlockTableView) (places : PageMapView)
    → AreTopsMapped g probes spare count table places → block < g.blocks → block ≢ spare
    → (block_at table block).state ≢ Waiting
not_waiting g probes spare count block table places are below other waits =
    let test : eqb spare block ≡ false = ne_eqb spare block (λ same. other (sym same)) in
    let state = (are.blocks block below).state in
    let plain = rw test at state in
    by_next_plain g.per_block (block_at table block).next (sym plain ∙ waits)

pub block_here : (g : Geometry) (probes : List Probe) (place : ℕ) → IsWithinLimits g → AreProbes g probes
    → place < length probes → place / g.per_block < g.blocks
block_here g probes place limits are below =
    let some = limits.per_block.low in
    let size = are.size in
    div_below place g.per_block g.blocks (omega arith) (omega arith)

-- a block has more pages before its write place than are mapped, where the next place is sealed
pub has_room : (g : Geometry) (probes : List Probe) (spare place : ℕ) (found : Spare) (table : BlockTableView) (places : PageMapView)
    → IsWithinLimits g → AreProbes g probes → place < length probes → AreTopsMapped g probes spare place table places
    → probe_at probes place ≡ Sealed found
    → (block_at table (place / g.per_block)).mapped < (block_at table (place / g.per_block)).next
has_room g probes spare place found table places limits probed below are is =
    let block : ℕ = place / g.per_block in
    let some = limits.per_block.low in
    let in_range = block_here g probes place limits probed below in
    let room : (block_at table block).mapped ≤ place - block * g.per_block = are.room block in_range in
    let from : block * g.per_block ≤ place = place_from g.per_block place block refl in
    let before : place < block * g.per_block + g.per_block = place_below g.per_block place block (omega arith) refl in
    let used = (are.blocks block in_range).next in
    elim (cases_lt (place - block * g.per_block) (block_at table block).next) [
      | inl inside ↦ omega arith
      | inr past ↦
          (let blank = used.blank (place - block * g.per_block) past (omega arith) in
          let here : block * g.per_block + (place - block * g.per_block) ≡ place = omega arith in
          let e : Erased ≡ Sealed found = sym blank ∙ ap (λ (n : ℕ). probe_at probes n) here ∙ is in cc)
    ]

-- a place that holds nothing that is to be mapped
pub mapped_left : (g : Geometry) (probes : List Probe) (spare place : ℕ) (table : BlockTableView) (places : PageMapView)
    → AreTopsMapped g probes spare place table places
    → ((found : Spare) → IsTop g.per_block probes spare place found → mapping_of places found.page ≢ None)
    → AreTopsMapped g probes spare (place + 1) table places
mapped_left g probes spare place table places are known = record {
  per_block = are.per_block;
  block_count = are.block_count;
  blocks = are.blocks;
  counted = are.counted;
  room = λ block below. (let room = are.room block below in omega arith);
  page_count = are.page_count;
  place_count = are.place_count;
  below = λ page m is. (let below = are.below page m is in omega arith);
  mapped = are.mapped;
  unmapped = λ at found below top. elim (cases_lt at place) [
    | inl lower ↦ are.unmapped at found lower top
    | inr last ↦
        (let same : at ≡ place = omega arith in
        known found (subst (λ (n : ℕ). IsTop g.per_block probes spare n found) same top))
  ];
}

newest_of : (g : Geometry) (probes : List Probe) (spare : ℕ) (at : Ppn) (found : Spare) (table : BlockTableView) (places : PageMapView)
    → AreTopsMapped g probes spare at.0 table places → IsTop g.per_block probes spare at.0 found
    → mapping_of places found.page ≡ None
    → IsNewestMapping g.per_block probes spare found.page (record { at = at; version = found.version })
newest_of g probes spare at found table places are top none = record {
  there = top.there;
  newest = λ a other out same.
      (let within = sealed_within probes a other out.is in
      let most = newest_most g.per_block probes spare found.page.0 (length probes) a other within out.outside out.is
      (ap (λ (q : PageNo). q.0) same) in
      let newest = top.newest in
      omega arith);
  first = λ a below out. are.unmapped a found below (record { there = out; newest = top.newest }) none;
}

abbrev counts : ℕ → ℕ → Option Mapping → ℕ
counts per block m = cond (is_in per block m) 1 0

-- one more page is counted in its block
counted_more : (per block : ℕ) (places : PageMapView) (page : PageNo) (m : Mapping) → page.0 < length places.pages
    → mapping_of places page ≡ None
    → mapped_in per (with_mapping places page m) block ≡ mapped_in per places block + cond (eqb (m.at.0 / per) block) 1 0
counted_more per block places page m within none =
    let sums = sum_by-set (counts per block) places.pages page.0 (Some m) None within in
    let old : counts per block (get_or places.pages page.0 None) ≡ 0 = ap (counts per block) none in
    omega arith

with_same : (places : PageMapView) (page other : PageNo) (m : Mapping) → page.0 < length places.pages → other.0 ≡ page.0
    → mapping_of (with_mapping places page m) other ≡ Some m
with_same places page other m within same =
    ap (λ (n : ℕ). get_or (set places.pages page.0 (Some m)) n None) same
    ∙ get_or-set_same places.pages page.0 (Some m) None within

with_other : (places : PageMapView) (page other : PageNo) (m : Mapping) → other.0 ≢ page.0
    → mapping_of (with_mapping places page m) other ≡ mapping_of places other
with_other places page other m apart = get_or-set_other places.pages page.0 other.0 (Some m) None apart

more_here : (table : BlockTableView) (block : ℕ) → block < length table.blocks
    → block_at (changed_at table block mapped_more) block ≡ mapped_more (block_at table block)
more_here table block within =
    get_or-set_same table.blocks block (mapped_more (block_at table block)) (waiting erased_block) within

more_other : (table : BlockTableView) (block other : ℕ) → other ≢ block
    → block_at (changed_at table block mapped_more) other ≡ block_at table other
more_other table block other apart =
    get_or-set_other table.blocks block other (mapped_more (block_at table block)) (waiting erased_block) apart

found_more : (per : ℕ) (probes : List Probe) (spare block : ℕ) (entry : BlockEntry) → IsFoundBlock per probes spare block entry
    → IsFoundBlock per probes spare block (mapped_more entry)
found_more per probes spare block entry found = record { next = found.next; state = found.state }

-- a block of the table where one more page is mapped
found_after : (g : Geometry) (probes : List Probe) (spare b block : ℕ) (table : BlockTableView) → block < length table.blocks
    → IsFoundBlock g.per_block probes spare b (block_at table b)
    → IsFoundBlock g.per_block probes spare b (block_at (changed_at table block mapped_more) b)
found_after g probes spare b block table within found = elim (cases_eq b block) [
  | inl same ↦
      (let here : block_at (changed_at table block mapped_more) b ≡ mapped_more (block_at table b) =
      subst (λ (n : ℕ). block_at (changed_at table block mapped_more) n ≡ mapped_more (block_at table n)) (sym same)
      (more_here table block within) in
      subst (λ (e : BlockEntry). IsFoundBlock g.per_block probes spare b e) (sym here)
      (found_more g.per_block probes spare b (block_at table b) found))
  | inr other ↦
      subst (λ (e : BlockEntry). IsFoundBlock g.per_block probes spare b e) (sym (more_other table block b other)) found
]

count_after : (b block : ℕ) (table : BlockTableView) → block < length table.blocks
    → (block_at (changed_at table block mapped_more) b).mapped ≡ (block_at table b).mapped + cond (eqb block b) 1 0
count_after b block table within = elim (cases_eq b block) [
  | inl same ↦
      (let test : eqb block b ≡ true = eq-eqb block b (sym same) in
      ap (λ (n : ℕ). (block_at (changed_at table block mapped_more) n).mapped) same
      ∙ ap (λ (e : BlockEntry). e.mapped) (more_here table block within)
      ∙ ap (λ (n : ℕ). (block_at table n).mapped + 1) (sym same)
      ∙ ap (λ (x : Bool). (block_at table b).mapped + cond x 1 0) (sym test))
  | inr other ↦
      (let test : eqb block b ≡ false = ne_eqb block b (λ same. other (sym same)) in
      let kept : (block_at (changed_at table block mapped_more) b).mapped ≡ (block_at table b).mapped =
      ap (λ (e : BlockEntry). e.mapped) (more_other table block b other) in
      let sum : (block_at table b).mapped ≡ (block_at table b).mapped + 0 = omega arith in
      kept ∙ sum ∙ ap (λ (x : Bool). (block_at table b).mapped + cond x 1 0) (sym test))
]

room_after : (before after b block place per : ℕ) → after ≡ before + cond (eqb block b) 1 0 → before ≤ place - b * per
    → (block ≡ b → b * per ≤ place) → after ≤ place + 1 - b * per
room_after before after b block place per sum room from = elim (cases_eq block b) [
  | inl same ↦
      (let start = from same in
      let one : after ≡ before + 1 = sum ∙ ap (λ (x : Bool). before + cond x 1 0) (eq-eqb block b same) in
      omega arith)
  | inr other ↦
      (let none : after ≡ before + 0 = sum ∙ ap (λ (x : Bool). before + cond x 1 0) (ne_eqb block b other) in
      omega arith)
]

-- a place that is mapped
pub mapped_place : (g : Geometry) (probes : List Probe) (spare : ℕ) (at : Ppn) (found : Spare) (table : BlockTableView) (places : PageMapView)
    → IsWithinLimits g → AreProbes g probes → at.0 < length probes → AreTopsMapped g probes spare at.0 table places
    → IsTop g.per_block probes spare at.0 found → mapping_of places found.page ≡ None
    → AreTopsMapped g probes spare (at.0 + 1) (changed_at table (at.0 / g.per_block) mapped_more)
    (with_mapping places found.page (record { at = at; version = found.version }))
mapped_place g probes spare at found table places limits probed below are top none =
    let m : Mapping = record { at = at; version = found.version } in
    let block : ℕ = at.0 / g.per_block in
    let in_range = block_here g probes at.0 limits probed below in
    let size = are.block_count in
    let within : block < length table.blocks = omega arith in
    let pages = are.page_count in
    let page_in = probed.page at.0 found top.there.is in
    let page_within : found.page.0 < length places.pages = omega arith in
    record {
      per_block = are.per_block;
      block_count = length-set table.blocks block (mapped_more (block_at table block)) ∙ are.block_count;
      blocks = λ b lower. found_after g probes spare b block table within (are.blocks b lower);
      counted = λ b lower.
          count_after b block table within
          ∙ ap (λ (n : ℕ). n + cond (eqb block b) 1 0) (are.counted b lower)
          ∙ sym (counted_more g.per_block b places found.page m page_within none);
      room = λ b lower.
          room_after (block_at table b).mapped _ b block at.0 g.per_block (count_after b block table within) (are.room b lower)
          (λ same. place_from g.per_block at.0 b same);
      page_count = length-set places.pages found.page.0 (Some m) ∙ are.page_count;
      place_count = are.place_count;
      below = λ page mapping is. elim (cases_eq page.0 found.page.0) [
        | inl same ↦
            (let one = same_Some m mapping (sym (with_same places found.page page m page_within same) ∙ is) in
            let here = ap (λ (x : Mapping). x.at.0) one in
            omega arith)
        | inr other ↦
            (let lower = are.below page mapping (sym (with_other places found.page page m other) ∙ is) in omega arith)
      ];
      mapped = λ page mapping is. elim (cases_eq page.0 found.page.0) [
        | inl same ↦
            (let one = same_Some m mapping (sym (with_same places found.page page m page_within same) ∙ is) in
            subst (λ (q : PageNo). IsNewestMapping g.per_block probes spare q mapping) (same_page found.page page (sym same))
            (subst (λ (x : Mapping). IsNewestMapping g.per_block probes spare found.page x) one
            (newest_of g probes spare at found table places are top none)))
        | inr other ↦ are.mapped page mapping (sym (with_other places found.page page m other) ∙ is)
      ];
      unmapped = λ a other lower one missing. elim (cases_eq other.page.0 found.page.0) [
        | inl same ↦ none-some m (sym missing ∙ with_same places found.page other.page m page_within same)
        | inr apart ↦
            (let still = sym (with_other places found.page other.page m apart) ∙ missing in
            elim (cases_lt a at.0) [
              | inl before ↦ are.unmapped a other before one still
              | inr last ↦
                  (let here : a ≡ at.0 = omega arith in
                  let spare_is = same_spare (probe_at probes at.0) other found
                  (ap (λ (n : ℕ). probe_at probes n) (sym here) ∙ one.there.is) top.there.is in
                  apart (ap (λ (x : Spare). x.page.0) spare_is))
            ])
      ];
    }

pub mapped_next : (g : Geometry) (probes : List Probe) (spare : ℕ) (at : Ppn) (found : Spare) (table new_table : BlockTableView) (places new_places : PageMapView)
    → IsWithinLimits g → AreProbes g probes → at.0 < length probes → AreTopsMapped g probes spare at.0 table places
    → IsTop g.per_block probes spare at.0 found → mapping_of places found.page ≡ None
    → new_table ≡ changed_at table (at.0 / g.per_block) mapped_more
    → new_places ≡ with_mapping places found.page (record { at = at; version = found.version })
    → AreTopsMapped g probes spare (at.0 + 1) new_table new_places
mapped_next g probes spare at found table new_table places new_places limits probed below are top none table_is places_is =
    subst (λ (t : BlockTableView). AreTopsMapped g probes spare (at.0 + 1) t new_places) (sym table_is)
    (subst (λ (p : PageMapView). AreTopsMapped g probes spare (at.0 + 1) (changed_at table (at.0 / g.per_block) mapped_more) p) (sym places_is)
    (mapped_place g probes spare at found table places limits probed below are top none))

no_mapping : (g : Geometry) (page : PageNo) → mapping_of (empty_map g) page ≡ None
no_mapping g page = elim (cases_lt page.0 g.pages) [
  | inl below ↦ get_or-replicate g.pages page.0 None None below
  | inr past ↦
      (let size = length-replicate {A = Option Mapping} g.pages None in
      get_or_past (replicate g.pages None) page.0 None (omega arith))
]

none_counted : (g : Geometry) (block : ℕ) → mapped_in g.per_block (empty_map g) block ≡ 0
none_counted g block =
    let sums : mapped_in g.per_block (empty_map g) block ≡ g.pages * counts g.per_block block None =
    sum_by-replicate (counts g.per_block block) g.pages None in
    omega arith

-- no place was looked at
pub mapped_none : (g : Geometry) (probes : List Probe) (spare : ℕ) (table : BlockTableView) (places : PageMapView)
    → AreBlocksPlaced g probes spare g.blocks table → places ≡ empty_map g → AreTopsMapped g probes spare 0 table places
mapped_none g probes spare table places are is =
    subst (λ (p : PageMapView). AreTopsMapped g probes spare 0 table p) (sym is) (record {
      per_block = are.per_block;
      block_count = are.block_count;
      blocks = are.placed;
      counted = λ b below. are.unmapped b below ∙ sym (none_counted g b);
      room = λ b below. (let none = are.unmapped b below in omega arith);
      page_count = length-replicate {A = Option Mapping} g.pages None;
      place_count = refl;
      below = λ page m there. absurd (none-some m (sym (no_mapping g page) ∙ there));
      mapped = λ page m there. absurd (none-some m (sym (no_mapping g page) ∙ there));
      unmapped = λ at found below top. absurd (omega arith);
    })

-- a page that isn't mapped is nowhere outside the spare block
none_outside : (g : Geometry) (probes : List Probe) (spare : ℕ) (table : BlockTableView) (places : PageMapView) (page : PageNo)
    → AreProbes g probes → AreTopsMapped g probes spare (length probes) table places → mapping_of places page ≡ None
    → (at : ℕ) (found : Spare) → IsOutside g.per_block probes spare at found → found.page ≢ page
none_outside g probes spare table places page probed are none at found out same =
    let least = probed.least at found out.is in
    let within = sealed_within probes at found out.is in
    let most = newest_most g.per_block probes spare page.0 (length probes) at found within out.outside out.is
    (ap (λ (q : PageNo). q.0) same) in
    let one = newest_there g.per_block probes spare page.0 (length probes) (omega arith) in
    let its_page : one.spare.page ≡ page = same_page one.spare.page page one.of in
    let top : IsTop g.per_block probes spare one.at one.spare = record {
      there = record { is = one.is; outside = one.outside };
      newest = one.same ∙ ap (λ (q : PageNo). newest_outside g.per_block probes spare q.0 (length probes)) (sym its_page);
    } in
    are.unmapped one.at one.spare one.below top (ap (λ (q : PageNo). mapping_of places q) its_page ∙ none)

page_found : (g : Geometry) (probes : List Probe) (spare : ℕ) (table : BlockTableView) (places : PageMapView) (page : PageNo)
    → AreProbes g probes → AreTopsMapped g probes spare (length probes) table places
    → (o : Option Mapping) → mapping_of places page ≡ o → IsFoundPage g.per_block probes spare page o
page_found g probes spare table places page probed are None is =
    none_outside g probes spare table places page probed are is
page_found g probes spare table places page probed are (Some m) is = are.mapped page m is

-- every place was looked at
pub scan_of : (g : Geometry) (probes : List Probe) (spare next : ℕ) (table : BlockTableView) (places : PageMapView)
    → AreProbes g probes → IsLeast (IsCoveredBlock g probes) spare
    → AreTopsMapped g probes spare (length probes) table places → IsNextVersion probes (length probes) next
    → IsScan g probes spare table (record places { next_version = next })
scan_of g probes spare next table places probed least are version = record {
  spare_is = least;
  per_block = are.per_block;
  block_count = are.block_count;
  blocks = are.blocks;
  mapped = are.counted;
  page_count = are.page_count;
  place_count = are.place_count;
  pages = λ page. page_found g probes spare table places page probed are (mapping_of places page) refl;
  next = version;
}
