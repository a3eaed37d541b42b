-- What a mount finds of a store's cells: a covered block, and the best version of each page.
use Rattle.std.proofs.Common.{◌≡◌, ◌≢◌, ◌<◌, ◌≤◌, ◌/◌, ℕ, true, List, length, get_or, set, Option, None, Some, inl, inr, refl, sym, ap, subst, ◌∙◌, arith}
use Rattle.std.specs.Prelude.{is_some}
use Rattle.std.specs.List.{range_with_len}
use Rattle.std.proofs.lemmas.Bool.{cases_eq, cases_lt}
use Rattle.std.proofs.lemmas.List.{get_or-set_other, get_or-set_same, length-set}
use Rattle.std.proofs.lemmas.List.FromFn.{get_or-range_with_len, length-range_with_len}
use Rattle.std.proofs.lemmas.Option.{none-some, same_Some}
use Rattle.ff_base.specs.declared.numbers.PageNo.{PageNo}
use Rattle.ff_flash.specs.Cells.{Cell, cell_at, cell_bytes, sealed}
use Rattle.ff_flash.specs.declared.spare.Spare.{Spare}
use Rattle.ff_map.specs.PageMap.{mapping_of}
use Rattle.ff_map.specs.declared.places.Mapping.{Mapping}
use Rattle.ff_gc.proofs.Counting.{count_fewer}
use Rattle.ff_gc.specs.Cells.{HasCovered, IsUnmapped}
use Rattle.ff_gc.specs.World.{mapped_bytes, page_bytes}
use Rattle.ff_store.proofs.Bests.{IsBest, best_is, sealed_found, sealed_holds}
use Rattle.ff_store.proofs.Settling.{mapped_count_with}
use Rattle.ff_store.specs.Best.{Version, best, bytes_or_zeros, mapped_version, sealed_count}
use Rattle.ff_store.specs.PageStore.{IsAlways, IsElsewhere, PageStoreView, pages_with, spare_of, unmapped_of}
use Rattle.ff_store.specs.Pages.{is_mapped, page_capacity}
use Rattle.ff_store.specs.Recoverable.{IsBestOfPending, IsOutdated, IsRecoverable, mapped_is_best, programmed_is_best}
use Rattle.ff_store.specs.declared.pending.Pending.{Pending}

unknown_elsewhere : (waits : Option Pending) (per block a : ℕ) (spare : Spare) → IsElsewhere per waits block
    → IsUnmapped (unmapped_of waits) a spare → a / per ≢ block
unknown_elsewhere None per block a spare elsewhere is = absurd is
unknown_elsewhere (Some p) per block a spare elsewhere is = λ same. elsewhere (ap (λ n. n / per) (sym is.0) ∙ same)

-- a block is covered, after every call and every cut
pub covered : (s : PageStoreView) → IsAlways s
    → HasCovered (length s.world.table.blocks) s.world.gc.per_block s.world.flash.cells
covered s always = record {
  block = always.safe.spare.block;
  in_range = always.safe.spare.in_range;
  covered = λ a x spare is lies. elim (always.safe.mapped.known a x spare is) [
    | inl newest ↦ record {
      at = newest.mapping.at.0;
      bytes = cell_bytes (cell_at s.world.flash.cells newest.mapping.at.0);
      other = record { page = spare.page; version = newest.mapping.version };
      is = always.safe.mapped.placed spare.page newest.mapping newest.is;
      elsewhere = always.safe.spare.unmapped spare.page newest.mapping newest.is;
      page = refl;
      newer = newest.newer;
    }
    | inr unknown ↦
        absurd (unknown_elsewhere s.waits s.world.gc.per_block always.safe.spare.block a spare always.elsewhere unknown lies)
  ];
}

-- a page that doesn't wait is known to the map, where it is sealed
not_unknown : (waits : Option Pending) (a : ℕ) (spare : Spare) (page : PageNo) → spare.page ≡ page
    → ((p : Pending) → waits ≡ Some p → p.page ≢ page) → IsUnmapped (unmapped_of waits) a spare → ⊥
not_unknown None a spare page same other is = is
not_unknown (Some p) a spare page same other is = other p refl (sym (ap (λ (x : Spare). x.page) is.1) ∙ same)

-- the cell of a mapping is no newer than the best version, and has the same bytes where it is as new
mapped_same : (s : PageStoreView) (page : PageNo) (m : Mapping) (v : Version) → IsAlways s
    → mapping_of s.world.places page ≡ Some m → IsBest s.world.flash.cells page (Some v) → v.number ≤ m.version
    → Some v ≡ mapped_version s.world.flash.cells (Some m)
mapped_same s page m v always is v_is most =
    let cells = s.world.flash.cells in
    let bytes = cell_bytes (cell_at cells m.at.0) in
    let placed = always.safe.mapped.placed page m is in
    let least = v_is.newest m.at.0 (record { number = m.version; bytes = bytes }) (sealed_holds page _ bytes m.version placed) in
    let same : v.number ≡ m.version = omega arith in
    let cell_now = sealed_found page _ v v_is.is
    ∙ ap (λ n. sealed v.bytes (record { page = page; version = n })) same in
    let alike = always.safe.sealed_cells.same v_is.at m.at.0 v.bytes bytes _ cell_now placed in
    ap (λ n. let one : Version = record { number = n; bytes = v.bytes } in Some one) same
    ∙ ap (λ (x : List ℕ). let one : Version = record { number = m.version; bytes = x } in Some one) alike

mapped_not_none : (s : PageStoreView) (page : PageNo) (m : Mapping) → IsAlways s → mapping_of s.world.places page ≡ Some m
    → IsBest s.world.flash.cells page None → ⊥
mapped_not_none s page m always is none =
    none-some _ (sym (none m.at.0) ∙ sealed_holds page _ _ m.version (always.safe.mapped.placed page m is))

best_by : (s : PageStoreView) (page : PageNo) → IsAlways s → ((p : Pending) → s.waits ≡ Some p → p.page ≢ page)
    → (o : Option Mapping) (b : Option Version) → mapping_of s.world.places page ≡ o → IsBest s.world.flash.cells page b
    → b ≡ mapped_version s.world.flash.cells o
best_by s page always other None None is none = refl
best_by s page always other None (Some v) is v_is =
    elim (always.safe.mapped.known v_is.at v.bytes _ (sealed_found page _ v v_is.is)) [
      | inl newest ↦ absurd (none-some newest.mapping (sym is ∙ newest.is))
      | inr unknown ↦ absurd (not_unknown s.waits v_is.at _ page refl other unknown)
    ]
best_by s page always other (Some m) None is none = absurd (mapped_not_none s page m always is none)
best_by s page always other (Some m) (Some v) is v_is =
    elim (always.safe.mapped.known v_is.at v.bytes _ (sealed_found page _ v v_is.is)) [
      | inl newest ↦
          let mapping = same_Some newest.mapping m (sym newest.is ∙ is) in
          mapped_same s page m v always is v_is (subst (λ (x : Mapping). v.number ≤ x.version) mapping newest.newer)
      | inr unknown ↦ absurd (not_unknown s.waits v_is.at _ page refl other unknown)
    ]

-- the best version of a page that doesn't wait is that of its mapping
pub best_mapping : (s : PageStoreView) (page : PageNo) → IsAlways s → ((p : Pending) → s.waits ≡ Some p → p.page ≢ page)
    → best s.world.flash.cells page ≡ mapped_version s.world.flash.cells (mapping_of s.world.places page)
best_mapping s page always other =
    best_by s page always other (mapping_of s.world.places page) (best s.world.flash.cells page) refl
    (best_is s.world.flash.cells page)

version_bytes : (cells : List Cell) (o : Option Mapping) → bytes_or_zeros (mapped_version cells o) ≡ mapped_bytes cells o
version_bytes cells None = refl
version_bytes cells (Some m) = refl

version_some : (cells : List Cell) (o : Option Mapping) → is_some (mapped_version cells o) ≡ is_some o
version_some cells None = refl
version_some cells (Some m) = refl

-- the bytes of its best version are those of its mapping, with zeros where there is none
pub best_bytes : (s : PageStoreView) (page : PageNo) → IsAlways s → ((p : Pending) → s.waits ≡ Some p → p.page ≢ page)
    → bytes_or_zeros (best s.world.flash.cells page) ≡ page_bytes s.world page
best_bytes s page always other =
    ap bytes_or_zeros (best_mapping s page always other)
    ∙ version_bytes s.world.flash.cells (mapping_of s.world.places page)

-- where none waits a page is mapped exactly where it has a best version
pub best_mapped : (s : PageStoreView) (page : PageNo) → IsAlways s → s.waits ≡ None
    → is_mapped s.world.places page ≡ is_some (best s.world.flash.cells page)
best_mapped s page always none =
    let best_now = best_mapping s page always (λ p is. absurd (none-some p (sym none ∙ is))) in
    sym (ap (λ (o : Option Version). is_some o) best_now ∙ version_some s.world.flash.cells (mapping_of s.world.places page))

unknown_is : (waits : Option Pending) (p : Pending) (a : ℕ) (spare : Spare) → waits ≡ Some p
    → IsUnmapped (unmapped_of waits) a spare → IsUnmapped (unmapped_of (Some p)) a spare
unknown_is waits p a spare is unknown = subst (λ w. IsUnmapped (unmapped_of w) a spare) is unknown

-- each sealed cell of a page that isn't mapped is the one that the map may not know
alone : (s : PageStoreView) (p : Pending) → IsAlways s → s.waits ≡ Some p → mapping_of s.world.places p.page ≡ None
    → IsOutdated s.world.flash.cells p None
alone s p always waits none a x spare is page = elim (always.safe.mapped.known a x spare is) [
  | inl newest ↦
      absurd (none-some newest.mapping (sym none ∙ ap (λ q. mapping_of s.world.places q) (sym page) ∙ newest.is))
  | inr unknown ↦ (unknown_is s.waits p a spare waits unknown).0
]

-- the best version is at the programmed cell, where the map doesn't know it
programmed_best : (s : PageStoreView) (p : Pending) (v : Version) (o : Option Mapping) → s.waits ≡ Some p
    → best s.world.flash.cells p.page ≡ Some v → (v_is : IsBest s.world.flash.cells p.page (Some v))
    → IsUnmapped (unmapped_of (Some p)) v_is.at (record { page = p.page; version = v.number })
    → IsOutdated s.world.flash.cells p o → IsBestOfPending s.world.flash.cells p o
programmed_best s p v o waits best_now v_is unknown outdated =
    let number : v.number ≡ p.version = ap (λ (x : Spare). x.version) unknown.1 in
    let found = sealed_found p.page _ v v_is.is in
    let cell : cell_at s.world.flash.cells p.at.0 ≡ sealed v.bytes (spare_of p) =
    ap (λ n. cell_at s.world.flash.cells n) (sym unknown.0)
    ∙ found
    ∙ ap (λ n. sealed v.bytes (record { page = p.page; version = n })) number in
    programmed_is_best v.bytes cell
    (best_now ∙ ap (λ n. let one : Version = record { number = n; bytes = v.bytes } in Some one) number) outdated

pending_by : (s : PageStoreView) (p : Pending) → IsAlways s → s.waits ≡ Some p → (o : Option Mapping) (b : Option Version)
    → mapping_of s.world.places p.page ≡ o → best s.world.flash.cells p.page ≡ b → IsBest s.world.flash.cells p.page b
    → IsBestOfPending s.world.flash.cells p o
pending_by s p always waits None None is best_now none = mapped_is_best best_now
pending_by s p always waits None (Some v) is best_now v_is =
    elim (always.safe.mapped.known v_is.at v.bytes _ (sealed_found p.page _ v v_is.is)) [
      | inl newest ↦ absurd (none-some newest.mapping (sym is ∙ newest.is))
      | inr unknown ↦
          programmed_best s p v None waits best_now v_is (unknown_is s.waits p _ _ waits unknown) (alone s p always waits is)
    ]
pending_by s p always waits (Some m) None is best_now none = absurd (mapped_not_none s p.page m always is none)
pending_by s p always waits (Some m) (Some v) is best_now v_is = elim (cases_lt m.version v.number) [
  | inl less ↦ elim (always.safe.mapped.known v_is.at v.bytes _ (sealed_found p.page _ v v_is.is)) [
    | inl newest ↦
        let mapping = same_Some newest.mapping m (sym newest.is ∙ is) in
        let most = subst (λ (x : Mapping). v.number ≤ x.version) mapping newest.newer in
        absurd (omega arith)
    | inr unknown ↦
        let there = unknown_is s.waits p _ _ waits unknown in
        let number : v.number ≡ p.version = ap (λ (x : Spare). x.version) there.1 in
        programmed_best s p v (Some m) waits best_now v_is there (omega arith)
  ]
  | inr most ↦ mapped_is_best (best_now ∙ mapped_same s p.page m v always is v_is most)
]

-- the best version of the page that waits
pub best_pending : (s : PageStoreView) (p : Pending) → IsAlways s → s.waits ≡ Some p
    → IsBestOfPending s.world.flash.cells p (mapping_of s.world.places p.page)
best_pending s p always waits =
    pending_by s p always waits (mapping_of s.world.places p.page) (best s.world.flash.cells p.page) refl refl
    (best_is s.world.flash.cells p.page)

-- a page with a best version is mapped or waits
some_best : (s : PageStoreView) (page : PageNo) → IsAlways s → ((p : Pending) → s.waits ≡ Some p → p.page ≢ page)
    → is_some (best s.world.flash.cells page) ≡ true → is_some (mapping_of s.world.places page) ≡ true
some_best s page always other has =
    sym (version_some s.world.flash.cells (mapping_of s.world.places page))
    ∙ ap (λ (o : Option Version). is_some o) (sym (best_mapping s page always other))
    ∙ has

number_is : (pages n : ℕ) → n < pages → get_or (range_with_len 0 pages) n pages ≡ n
number_is pages n below = let is = get_or-range_with_len 0 pages n pages below in omega arith

few_by : (s : PageStoreView) (waits : Option Pending) → s.waits ≡ waits → IsAlways s
    → sealed_count (length s.world.places.pages) s.world.flash.cells ≤ pages_with s waits
few_by s None none always =
    let pages = length s.world.places.pages in
    let sizes = length-range_with_len 0 pages in
    count_fewer (λ n. is_some (best s.world.flash.cells (record { 0 = n }))) (λ (m : Option Mapping). is_some m)
    (range_with_len 0 pages) s.world.places.pages pages None sizes
    (λ n below has.
    some_best s (record { 0 = n }) always (λ p is. absurd (none-some p (sym none ∙ is)))
    (sym (ap (λ k. is_some (best s.world.flash.cells (record { 0 = k }))) (number_is pages n (omega arith))) ∙ has))
few_by s (Some p) waits always =
    let pages = length s.world.places.pages in
    let m : Mapping = record { at = p.at; version = p.version } in
    let in_range = always.in_range p waits in
    let mapped = set s.world.places.pages p.page.0 (Some m) in
    let counted = mapped_count_with s.world.places p.page m in_range in
    let size = length-set s.world.places.pages p.page.0 (Some m) in
    let sizes = length-range_with_len 0 pages in
    let fewer = count_fewer (λ n. is_some (best s.world.flash.cells (record { 0 = n }))) (λ (m : Option Mapping). is_some m)
    (range_with_len 0 pages) mapped pages None (sizes ∙ sym size)
    (λ n below has. elim (cases_eq n p.page.0) [
      | inl same ↦
          ap (λ k. is_some (get_or mapped k None)) same
          ∙ ap (λ (o : Option Mapping). is_some o) (get_or-set_same s.world.places.pages p.page.0 (Some m) None in_range)
      | inr apart ↦
          ap (λ (o : Option Mapping). is_some o) (get_or-set_other s.world.places.pages p.page.0 n (Some m) None apart)
          ∙ some_best s (record { 0 = n }) always
          (λ q is same. apart (sym (ap (λ (x : PageNo). x.0) (ap (λ (x : Pending). x.page) (same_Some p q (sym waits ∙ is)) ∙ same))))
          (sym (ap (λ k. is_some (best s.world.flash.cells (record { 0 = k }))) (number_is pages n (omega arith))) ∙ has)
    ]) in
    omega arith

-- no more pages are sealed than may be mapped
pub few_sealed : (s : PageStoreView) → IsAlways s
    → sealed_count (length s.world.places.pages) s.world.flash.cells ≤ page_capacity s.world
few_sealed s always = let few = few_by s s.waits refl always in let room = always.room in omega arith

-- all that a mount finds
pub recoverable : (s : PageStoreView) → IsAlways s → IsRecoverable s
recoverable s always = record {
  covered = covered s always;
  mapped = λ page other. best_mapping s page always other;
  waiting = λ p is. best_pending s p always is;
  few = few_sealed s always;
}
