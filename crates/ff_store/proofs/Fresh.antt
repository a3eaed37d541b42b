-- A store over a flash of which every page is erased.
use Rattle.std.proofs.Common.{◌≡◌, ◌<◌, ◌*◌, ℕ, List, length, get_or, Option, None, Some, inl, inr, refl, sym, ap, ◌∙◌, arith}
use Rattle.std.specs.Prelude.{is_some, replicate}
use Rattle.std.proofs.lemmas.Bool.{cases_lt}
use Rattle.std.proofs.lemmas.List.{get_or-replicate, get_or_past, length-replicate}
use Rattle.std.proofs.lemmas.Option.{none-some}
use Rattle.ff_base.specs.Geometry.{IsWithinLimits}
use Rattle.ff_base.specs.declared.geometry.Geometry.{Geometry}
use Rattle.ff_base.specs.declared.numbers.PageNo.{PageNo}
use Rattle.ff_flash.proofs.SealedCells.{erased_unsealed, never_sealed}
use Rattle.ff_flash.specs.Cells.{Cell, cell_at, erased, sealed}
use Rattle.ff_flash.specs.FlashState.{FlashState}
use Rattle.ff_flash.specs.declared.spare.Spare.{Spare}
use Rattle.ff_space.specs.Blocks.{erased_block, waiting}
use Rattle.ff_space.specs.BlockTable.{IsInState, block_at, new_table}
use Rattle.ff_space.specs.declared.block.BlockEntry.{BlockEntry}
use Rattle.ff_space.specs.declared.block.BlockState.TheVariants.{Erased, Held, Waiting}
use Rattle.ff_map.specs.PageMap.{empty_map, mapping_of}
use Rattle.ff_map.specs.declared.places.Mapping.{Mapping}
use Rattle.ff_gc.proofs.Counting.{count_zero}
use Rattle.ff_map.specs.MappedPages.{is_in}
use Rattle.ff_store.specs.PageStore.{IsStoreSound, new_store}

same_each : {X : Type 0} (n i : ℕ) (x : X) → get_or (replicate n x) i x ≡ x
same_each n i x = elim (cases_lt i n) [
  | inl below ↦ get_or-replicate n i x x below
  | inr past ↦ get_or_past (replicate n x) i x (let size = length-replicate n x in omega arith)
]

new_block : (g : Geometry) (b : ℕ) → b < g.blocks → block_at (new_table g) b ≡ erased_block
new_block g b below = get_or-replicate g.blocks b erased_block (waiting erased_block) below

no_mapping : (g : Geometry) (page : PageNo) (m : Mapping) → mapping_of (empty_map g) page ≡ Some m → ⊥
no_mapping g page m is =
    let none : mapping_of (empty_map g) page ≡ None = same_each g.pages page.0 None in none-some m (sym none ∙ is)

-- a new store keeps what it must
pub new_sound : (flash : FlashState) (g : Geometry) → IsWithinLimits g → flash.blocks ≡ g.blocks
    → flash.per_block ≡ g.per_block → flash.cells ≡ replicate (g.blocks * g.per_block) erased
    → IsStoreSound (new_store flash g)
new_sound flash g limits blocks per cells =
    let count : length (new_table g).blocks ≡ g.blocks = length-replicate g.blocks erased_block in
    let blank : (a : ℕ) → cell_at flash.cells a ≡ erased = λ a.
    ap (λ (c : List Cell). cell_at c a) cells ∙ same_each (g.blocks * g.per_block) a erased in
    let unsealed : (a : ℕ) (x : List ℕ) (spare : Spare) → cell_at flash.cells a ≡ sealed x spare → ⊥ = λ a x spare is.
    never_sealed (cell_at flash.cells a) x spare (erased_unsealed (cell_at flash.cells a) (blank a)) is in
    let size = length-replicate (g.blocks * g.per_block) erased in
    let low = limits.per_block.low in
    let least = limits.blocks.low in
    let most = limits.flash_pages.high in
    let none = count_zero (λ (m : Option Mapping). is_some m) (replicate g.pages None) None
    (λ i. ap (λ (m : Option Mapping). is_some m) (same_each g.pages i None)) in
    let in_none : (b : ℕ) → IsInState (new_table g).blocks Held b → ⊥ = λ b is.
    (let e : Erased ≡ Held = sym (ap (λ (x : BlockEntry). x.state) (new_block g b (let lies = is.in_range in omega arith))) ∙ is.state in cc) in
    let wait_none : (b : ℕ) → IsInState (new_table g).blocks Waiting b → ⊥ = λ b is.
    (let e : Erased ≡ Waiting = sym (ap (λ (x : BlockEntry). x.state) (new_block g b (let lies = is.in_range in omega arith))) ∙ is.state in cc) in
    record {
      fits = record {
        per_block = per;
        blocks = blocks ∙ sym count;
        table = refl;
        cells = rw count (ap (λ (c : List Cell). length c) cells ∙ size);
        places = rw count refl;
        some = omega arith;
        small = rw count (omega arith);
      };
      always = record {
        safe = record {
          sealed_cells = record {
            same = λ a b x y spare p q. absurd (unsealed a x spare p);
            page = λ a x spare p. absurd (unsealed a x spare p);
            least = λ a x spare p. absurd (unsealed a x spare p);
            most = λ a x spare p. absurd (unsealed a x spare p);
            full = λ a x spare p. absurd (unsealed a x spare p);
          };
          mapped = record {
            placed = λ page m is. absurd (no_mapping g page m is);
            known = λ a x spare p. absurd (unsealed a x spare p);
            next = λ a x spare p. absurd (unsealed a x spare p);
          };
          first = omega arith;
          drawn = omega arith;
          spare = record {
            block = 0;
            in_range = omega arith;
            unmapped = λ page m is. absurd (no_mapping g page m is);
          };
        };
        elsewhere = tt;
        room = omega arith;
        in_range = λ p is. absurd (none-some p is);
      };
      running = λ on. record {
        mapped = record {
          placed = λ page m is. absurd (no_mapping g page m is);
          known = λ a x spare p. absurd (unsealed a x spare p);
          next = λ a x spare p. absurd (unsealed a x spare p);
        };
        live = record {
          tabled = record {
            counted = λ b lies.
                (let entry = ap (λ (x : BlockEntry). x.mapped) (new_block g b (omega arith)) in
                let zero_in = count_zero (λ (m : Option Mapping). is_in g.per_block b m) (replicate g.pages None) None
                (λ i. ap (λ (m : Option Mapping). is_in g.per_block b m) (same_each g.pages i None)) in
                entry ∙ sym zero_in);
            blank = λ a lies state next. blank a;
          };
          phase = record {
            none_held = in_none;
            none_waits = wait_none;
            spare = record {
              block = 0;
              is = record {
                in_range = omega arith;
                state = ap (λ (x : BlockEntry). x.state) (new_block g 0 (omega arith));
              };
            };
          };
        };
        waiting = tt;
      };
      owed = λ e. cc;
      counted = omega arith;
    }
