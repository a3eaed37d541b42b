-- What holds always goes on to hold where an operation seals nothing but copies and loses no mapped page.
use Rattle.std.proofs.Common.{◌≡◌, ◌≢◌, ◌<◌, ◌≤◌, ℕ, List, length, set, Option, None, Some, inl, inr, refl, sym, ap, ◌∙◌, arith, length-set}
use Rattle.std.specs.Prelude.{Result}
use Rattle.std.proofs.lemmas.Bool.{cases_eq}
use Rattle.std.proofs.lemmas.List.{get_or-set_other, get_or-set_same}
use Rattle.ff_base.specs.declared.numbers.PageNo.{PageNo}
use Rattle.ff_flash.proofs.OperationCells.{
  erase_elsewhere,
  erase_length,
  erase_seals_none,
  program_elsewhere,
  program_length,
  program_seals_none,
  seal_either,
}
use Rattle.ff_flash.proofs.SealedCells.{closed_unsealed, closed_within, erased_unsealed, sealed_apart}
use Rattle.ff_flash.specs.Cells.{
  Cell,
  erased,
  closed,
  sealed,
  cell_at,
  cell_bytes,
  Erases,
  IsUnsealed,
  Programs,
  Seals,
}
use Rattle.ff_flash.specs.declared.flash.FlashStop.{FlashStop}
use Rattle.ff_flash.specs.declared.spare.Spare.{Spare}
use Rattle.ff_map.specs.PageMap.{PageMapView, mapping_of}
use Rattle.ff_map.specs.declared.places.Mapping.{Mapping}
use Rattle.ff_gc.specs.Cells.{AreMapped, AreSealed, HasNoPage, IsSafe}
use Rattle.ff_gc.specs.World.{mapped_bytes}

-- the page and the bytes of a sealed cell are also those of a sealed cell of these
pub record IsFrom (cells : List Cell) (bytes : List ℕ) (spare : Spare) : Type 0 where
  pub at : ℕ
  pub is : cell_at cells at ≡ sealed bytes spare

-- nothing is newly sealed but copies of what was sealed, and no mapped page is lost
pub record Retains (places : PageMapView) (old new : List Cell) : Type 0 where
  pub size : length new ≡ length old
  pub from : (a : ℕ) (x : List ℕ) (spare : Spare) → cell_at new a ≡ sealed x spare
      → IsFrom old x spare
  pub mapped : (page : PageNo) (m : Mapping) → mapping_of places page ≡ Some m
      → cell_at new m.at.0 ≡ cell_at old m.at.0

pub sealed_retained : (pages ops later : ℕ) (places : PageMapView) (old new : List Cell)
    → Retains places old new → ops ≤ later → AreSealed pages ops old → AreSealed pages later new
sealed_retained pages ops later places old new r more s = record {
  same = λ a b x y spare p q.
      s.same (r.from a x spare p).at (r.from b y spare q).at x y spare
      (r.from a x spare p).is (r.from b y spare q).is;
  page = λ a x spare p. s.page (r.from a x spare p).at x spare (r.from a x spare p).is;
  least = λ a x spare p. s.least (r.from a x spare p).at x spare (r.from a x spare p).is;
  most = λ a x spare p.
      (let made = s.most (r.from a x spare p).at x spare (r.from a x spare p).is in omega arith);
  full = λ a x spare p. s.full (r.from a x spare p).at x spare (r.from a x spare p).is;
}

pub mapped_retained : (places : PageMapView) (old new : List Cell) → Retains places old new
    → AreMapped None old places → AreMapped None new places
mapped_retained places old new r s = record {
  placed = λ page m is. (let e = r.mapped page m is in rw e (s.placed page m is));
  known = λ a x spare p. s.known (r.from a x spare p).at x spare (r.from a x spare p).is;
  next = λ a x spare p. s.next (r.from a x spare p).at x spare (r.from a x spare p).is;
}

pub safe_retained : (blocks per ops later : ℕ) (places : PageMapView) (old new : List Cell)
    → Retains places old new → ops ≤ later → IsSafe None blocks per ops old places
    → IsSafe None blocks per later new places
safe_retained blocks per ops later places old new r more s = record {
  sealed_cells = sealed_retained (length places.pages) ops later places old new r more s.sealed_cells;
  mapped = mapped_retained places old new r s.mapped;
  first = s.first;
  drawn = omega (arith, s.drawn);
  spare = s.spare;
}

pub bytes_retained : (places : PageMapView) (old new : List Cell) → Retains places old new
    → (page : PageNo) (m : Option Mapping) → mapping_of places page ≡ m
    → mapped_bytes new m ≡ mapped_bytes old m
bytes_retained places old new r page None is = refl
bytes_retained places old new r page (Some m) is = ap cell_bytes (r.mapped page m is)

pub retains_same : (places : PageMapView) (old new : List Cell) → new ≡ old → Retains places old new
retains_same places old new same = record {
  size = ap length same;
  from = λ a x spare p. record { at = a; is = sym (ap (λ cells. cell_at cells a) same) ∙ p };
  mapped = λ page m is. ap (λ cells. cell_at cells m.at.0) same;
}

pub cell_at-set : (cells : List Cell) (at : ℕ) (cell : Cell) → at < length cells
    → cell_at (set cells at cell) at ≡ cell
cell_at-set cells at cell within = get_or-set_same cells at cell erased within

pub cell_at-set_other : (cells : List Cell) (at : ℕ) (cell : Cell) (a : ℕ) → a ≢ at
    → cell_at (set cells at cell) a ≡ cell_at cells a
cell_at-set_other cells at cell a other = get_or-set_other cells at a cell erased other

-- a mapped page is at another place than one that isn't sealed
pub mapped_apart : (cells : List Cell) (at : ℕ) (places : PageMapView) → IsUnsealed (cell_at cells at)
    → AreMapped None cells places → (page : PageNo) (m : Mapping)
    → mapping_of places page ≡ Some m → m.at.0 ≢ at
mapped_apart cells at places unsealed s page m is =
    sealed_apart cells at m.at.0 (cell_bytes (cell_at cells m.at.0))
    (record { page = page; version = m.version }) unsealed (s.placed page m is)

-- whatever becomes of a program
pub retains_programmed : (cells new : List Cell) (at : ℕ) (bytes : List ℕ) (spare : Spare)
    (result : Result (Unit {0}) FlashStop) (places : PageMapView) → cell_at cells at ≡ erased
    → AreMapped None cells places → Programs cells at bytes spare result new
    → Retains places cells new
retains_programmed cells new at bytes spare result places blank s is =
    let unsealed = erased_unsealed (cell_at cells at) blank in record {
      size = program_length cells at bytes spare result new is;
      from = λ a x own p. record {
        at = a;
        is = program_seals_none cells at bytes spare result new a x own unsealed is p;
      };
      mapped = λ page m there. program_elsewhere cells at bytes spare result new m.at.0 is
          (mapped_apart cells at places unsealed s page m there);
    }

-- a copy is sealed whose bytes and spare stand sealed elsewhere
pub retains_sealed : (cells : List Cell) (at from : ℕ) (bytes : List ℕ) (spare : Spare)
    (places : PageMapView) → cell_at cells at ≡ closed bytes spare
    → cell_at cells from ≡ sealed bytes spare → AreMapped None cells places
    → Retains places cells (set cells at (sealed bytes spare))
retains_sealed cells at from bytes spare places is there s =
    let within = closed_within cells at bytes spare is in record {
      size = length-set cells at (sealed bytes spare);
      from = λ a x own p. elim (cases_eq a at) [
        | inl same ↦
            let now : cell_at (set cells at (sealed bytes spare)) at ≡ sealed x own =
            ap (λ k. cell_at (set cells at (sealed bytes spare)) k) (sym same) ∙ p in
            let e : sealed bytes spare ≡ sealed x own =
            sym (cell_at-set cells at (sealed bytes spare) within) ∙ now in
            record { at = from; is = there ∙ e }
        | inr apart ↦ record { at = a; is = sym (cell_at-set_other cells at (sealed bytes spare) a apart) ∙ p }
      ];
      mapped = λ page m found. cell_at-set_other cells at (sealed bytes spare) m.at.0
          (mapped_apart cells at places (closed_unsealed (cell_at cells at) bytes spare is) s page m found);
    }

-- whatever becomes of the seal of a copy
pub retains_seals : (cells new : List Cell) (at from : ℕ) (bytes : List ℕ) (spare : Spare)
    (places : PageMapView) (result : Result (Unit {0}) FlashStop) → cell_at cells at ≡ closed bytes spare
    → cell_at cells from ≡ sealed bytes spare → AreMapped None cells places
    → Seals cells at result new → Retains places cells new
retains_seals cells new at from bytes spare places result is there s seals =
    elim (seal_either cells at bytes spare result new is seals) [
      | inl e ↦ rw e (retains_sealed cells at from bytes spare places is there s)
      | inr same ↦ retains_same places cells new same
    ]

-- whatever becomes of an erase of a block without mapped pages
pub retains_erased : (per block : ℕ) (cells new : List Cell)
    (result : Result (Unit {0}) FlashStop) (places : PageMapView) → HasNoPage per places block
    → Erases per cells block result new → Retains places cells new
retains_erased per block cells new result places none is = record {
  size = erase_length per cells block result new is;
  from = λ a x own p. record { at = a; is = erase_seals_none per cells block result new a x own is p };
  mapped = λ page m there. erase_elsewhere per cells block result new m.at.0 is (none page m there);
}
