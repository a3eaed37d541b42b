-- An erased flash and an empty cache are sound.
use Rattle.std.proofs.Common.{◌≡◌, ◌*◌, ℕ, zero, suc, Bool, false, List, length, None, inl, inr, refl, sym, ap, subst, ◌∙◌, arith}
use Rattle.std.specs.Prelude.{replicate}
use Rattle.std.proofs.lemmas.Bool.{cases_lt}
use Rattle.std.proofs.lemmas.List.{get_or-replicate, get_or_past, length-replicate}
use Rattle.std.proofs.lemmas.Option.{none-some}
use Rattle.ff_base.specs.Geometry.{IsWithinLimits}
use Rattle.ff_base.specs.declared.geometry.Geometry.{Geometry}
use Rattle.ff_base.specs.declared.numbers.PageNo.{PageNo}
use Rattle.ff_cache.specs.Cache.{CacheView, IsCacheSound, fresh_cache}
use Rattle.ff_cache.specs.Nv.{NvView, ways_of}
use Rattle.ff_cache.specs.Slots.{empty_slot}
use Rattle.ff_flash.specs.Cells.{Cell, cell_at, erased, sealed}
use Rattle.ff_flash.specs.FlashState.{FlashState}
use Rattle.ff_flash.specs.Plans.{Planned}
use Rattle.ff_flash.specs.SimFlash.{fresh_flash}
use Rattle.ff_flash.specs.declared.spare.Spare.{Spare}
use Rattle.ff_lines.specs.PageSets.{count_below}
use Rattle.ff_mount.proofs.Sounding.{kept_placed}
use Rattle.ff_mount.specs.Held.{is_held, nv_of, way_of_page}
use Rattle.ff_mount.specs.Sound.{AreSound}
use Rattle.ff_store.specs.Best.{best}

erased_at : (n a : ℕ) → cell_at (replicate n erased) a ≡ erased
erased_at n a = elim (cases_lt a n) [
  | inl below ↦ get_or-replicate n a erased erased below
  | inr past ↦ get_or_past (replicate n erased) a erased (let size = length-replicate {A = Cell} n erased in omega arith)
]

none_sealed : (n a : ℕ) (x : List ℕ) (spare : Spare) → cell_at (replicate n erased) a ≡ sealed x spare → ⊥
none_sealed n a x spare is = let both : erased ≡ sealed x spare = sym (erased_at n a) ∙ is in cc

none_best : (n : ℕ) (page : PageNo) → best (replicate n erased) page ≡ None
none_best zero page = refl
none_best (suc n) page = none_best n page

none_way : (n page : ℕ) → way_of_page (ways_of (replicate n empty_slot)) page ≡ None
none_way zero page = refl
none_way (suc n) page = none_way n page

none_below : (set : ℕ → Bool) (n : ℕ) → ((page : ℕ) → set page ≡ false) → count_below set n ≡ 0
none_below set zero none = refl
none_below set (suc n) none = rw (none n, none_below set n none) refl

-- nothing is held
pub empty_sound : (g : Geometry) (plan : Planned) (marks : List ℕ) → IsWithinLimits g → length marks ≡ g.pages
    → IsCacheSound (fresh_cache g.sets g.ways) → AreSound g (nv_of (fresh_cache g.sets g.ways) marks) (fresh_flash g plan)
empty_sound g plan marks limits marked cache =
    let places : ℕ = g.blocks * g.per_block in
    let slots : ℕ = g.sets * g.ways in
    let held : (page : ℕ) → is_held (ways_of (replicate slots empty_slot)) (replicate places erased) page ≡ false =
    λ page. rw (none_way slots page, none_best places (record { 0 = page })) refl in
    let none = none_below (is_held (ways_of (replicate slots empty_slot)) (replicate places erased)) g.pages held in
    let some = limits.blocks.low in
    record {
      blocks = refl;
      per_block = refl;
      sealed_cells = record {
        same = λ a b x y spare is other. absurd (none_sealed places a x spare is);
        page = λ a x spare is. absurd (none_sealed places a x spare is);
        least = λ a x spare is. absurd (none_sealed places a x spare is);
        most = λ a x spare is. absurd (none_sealed places a x spare is);
        full = λ a x spare is. absurd (none_sealed places a x spare is);
      };
      covered = record {
        block = 0;
        in_range = omega arith;
        covered = λ a x spare is lies. absurd (none_sealed places a x spare is);
      };
      few = omega arith;
      ways = record {
        placed = kept_placed g.sets g.ways (replicate slots empty_slot) cache.slots;
        page = λ page way is. absurd (none-some way (sym (none_way slots page) ∙ is));
        full = λ page way is. absurd (none-some way (sym (none_way slots page) ∙ is));
        marks = marked;
      };
      clean = λ page way is dirty. absurd (none-some way (sym (none_way slots page) ∙ is));
    }

pub empty_lost : (g : Geometry) (plan : Planned) (marks : List ℕ) (cache : CacheView) (flash : FlashState) (nv : NvView)
    → IsWithinLimits g → length marks ≡ g.pages → cache ≡ fresh_cache g.sets g.ways → IsCacheSound cache
    → flash ≡ fresh_flash g plan → nv ≡ nv_of cache marks → AreSound g nv flash
empty_lost g plan marks cache flash nv limits marked fresh cache_sound erased_flash kept =
    let now : nv ≡ nv_of (fresh_cache g.sets g.ways) marks = kept ∙ ap (λ (c : CacheView). nv_of c marks) fresh in
    subst (λ (f : FlashState). AreSound g nv f) (sym erased_flash)
    (subst (λ (n : NvView). AreSound g n (fresh_flash g plan)) (sym now)
    (empty_sound g plan marks limits marked (subst (λ (c : CacheView). IsCacheSound c) fresh cache_sound)))
