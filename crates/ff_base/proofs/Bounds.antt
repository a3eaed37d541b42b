-- The numbers of a geometry, one after another.
use Rattle.std.proofs.Common.{◌≡◌, ℕ, zero, suc, ◌+◌, ◌*◌, ◌<◌, ◌∙◌, List, [], ◌∷◌, get_or, inl, inr, Err, Fits, IfErr, Ok, OnOk, Result, ap, arith, lit<, refl, subst, sym, w32}
use Rattle.std.proofs.lemmas.Bool.{cases_lt}
use Rattle.std.proofs.lemmas.Nat.{mul-le}
use Rattle.ff_base.specs.Geometry.{AreAllowedBelow, IsAllowed, IsFirstBroken, IsWithinLimits, greatest_of, least_of, limit_of, rank_of, value_of}
use Rattle.ff_base.specs.declared.geometry.Geometry.{Geometry}
use Rattle.ff_base.specs.declared.limits.Limit.{Limit}
use Rattle.ff_base.specs.declared.limits.LimitName.{LimitName}
use Rattle.ff_base.specs.declared.limits.LimitName.TheVariants.{Blocks, PerBlock, Pages, Sets, Ways, Frames, Plb, Window, Low, FlashPages, CacheWays}

-- the products have 32 bits
pub flash_pages_fit : (g : Geometry) → AreAllowedBelow g 9 → Fits w32 (g.blocks * g.per_block)
flash_pages_fit g allowed =
    let blocks = (allowed Blocks (lit< tt)).high in
    let per_block = (allowed PerBlock (lit< tt)).high in
    omega (arith, mul-le g.blocks g.per_block 4096 256 blocks per_block)

pub cache_ways_fit : (g : Geometry) → AreAllowedBelow g 9 → Fits w32 (g.sets * g.ways)
cache_ways_fit g allowed =
    let sets = (allowed Sets (lit< tt)).high in
    let ways = (allowed Ways (lit< tt)).high in
    omega (arith, mul-le g.sets g.ways 4096 16 sets ways)

-- the first product is looked at after the numbers
pub with_flash_pages : (g : Geometry) → AreAllowedBelow g 9 → IsAllowed FlashPages (g.blocks * g.per_block)
    → AreAllowedBelow g 10
with_flash_pages g allowed last Blocks _ = allowed Blocks (lit< tt)
with_flash_pages g allowed last PerBlock _ = allowed PerBlock (lit< tt)
with_flash_pages g allowed last Pages _ = allowed Pages (lit< tt)
with_flash_pages g allowed last Sets _ = allowed Sets (lit< tt)
with_flash_pages g allowed last Ways _ = allowed Ways (lit< tt)
with_flash_pages g allowed last Frames _ = allowed Frames (lit< tt)
with_flash_pages g allowed last Plb _ = allowed Plb (lit< tt)
with_flash_pages g allowed last Window _ = allowed Window (lit< tt)
with_flash_pages g allowed last Low _ = allowed Low (lit< tt)
with_flash_pages g allowed last FlashPages _ = last
with_flash_pages g allowed last CacheWays below = absurd (omega (arith, below))

-- all of them
pub within_limits : (g : Geometry) → AreAllowedBelow g 9 → IsAllowed FlashPages (g.blocks * g.per_block)
    → IsAllowed CacheWays (g.sets * g.ways) → IsWithinLimits g
within_limits g allowed flash_pages cache_ways = record {
  blocks = allowed Blocks (lit< tt);
  per_block = allowed PerBlock (lit< tt);
  pages = allowed Pages (lit< tt);
  sets = allowed Sets (lit< tt);
  ways = allowed Ways (lit< tt);
  frames = allowed Frames (lit< tt);
  plb = allowed Plb (lit< tt);
  window = allowed Window (lit< tt);
  low = allowed Low (lit< tt);
  flash_pages = flash_pages;
  cache_ways = cache_ways;
}

pub same_limit : (limit other : Limit) → limit.name ≡ other.name → limit.value ≡ other.value
    → limit.least ≡ other.least → limit.greatest ≡ other.greatest → limit ≡ other
same_limit limit other name value least greatest =
    ap (λ n. let l : Limit = record limit { name = n } in l) name
    ∙ ap (λ n. let l : Limit = record limit { name = other.name; value = n } in l) value
    ∙ ap (λ n. let l : Limit = record other { least = n; greatest = limit.greatest } in l) least
    ∙ ap (λ n. let l : Limit = record other { greatest = n } in l) greatest

-- a number that is broken, where those before it are not
pub first_broken : (g : Geometry) (name : LimitName) (limit : Limit) → AreAllowedBelow g (rank_of name)
    → (IsAllowed name (value_of g name) → ⊥) → limit ≡ limit_of g name → IsFirstBroken g limit
first_broken g name limit before broken same =
    let told : IsFirstBroken g (limit_of g name) = record { told = refl; broken = broken; first = before } in
    subst (λ (l : Limit). IsFirstBroken g l) (sym same) told

-- the result for a number, where those before it are within their bounds
pub checked : (g : Geometry) (name : LimitName) (r : Result (Unit {0}) Limit) → AreAllowedBelow g (rank_of name)
    → IfErr r (λ limit. limit.name ≡ name) → IfErr r (λ limit. limit.value ≡ value_of g name)
    → IfErr r (λ limit. limit.least ≡ least_of name) → IfErr r (λ limit. limit.greatest ≡ greatest_of name)
    → IfErr r (λ limit. IsAllowed name (value_of g name) → ⊥) → IfErr r (IsFirstBroken g)
checked g name (Ok _) before is value least greatest broken = tt
checked g name (Err limit) before is value least greatest broken =
    first_broken g name limit before broken (same_limit limit (limit_of g name) is value least greatest)

pub all_checked : (g : Geometry) (r : Result (Unit {0}) Limit) → AreAllowedBelow g 9
    → IsAllowed FlashPages (g.blocks * g.per_block) → OnOk r (IsAllowed CacheWays (g.sets * g.ways))
    → OnOk r (IsWithinLimits g)
all_checked g (Ok _) allowed flash_pages cache_ways = within_limits g allowed flash_pages cache_ways
all_checked g (Err _) allowed flash_pages cache_ways = tt

-- the numbers that are no products, in their order
abbrev pub names : List LimitName
names = Blocks ∷ PerBlock ∷ Pages ∷ Sets ∷ Ways ∷ Frames ∷ Plb ∷ Window ∷ Low ∷ []

abbrev pub values : Geometry → List ℕ
values g =
    g.blocks ∷ g.per_block ∷ g.pages ∷ g.sets ∷ g.ways ∷ g.frames ∷ g.plb ∷ g.window ∷ g.low ∷ []

same_rank : (name : LimitName) (n : ℕ) → n < 9 → rank_of name ≡ n → get_or names n Blocks ≡ name
same_rank Blocks n small is = ap (λ k. get_or names k Blocks) (sym is)
same_rank PerBlock n small is = ap (λ k. get_or names k Blocks) (sym is)
same_rank Pages n small is = ap (λ k. get_or names k Blocks) (sym is)
same_rank Sets n small is = ap (λ k. get_or names k Blocks) (sym is)
same_rank Ways n small is = ap (λ k. get_or names k Blocks) (sym is)
same_rank Frames n small is = ap (λ k. get_or names k Blocks) (sym is)
same_rank Plb n small is = ap (λ k. get_or names k Blocks) (sym is)
same_rank Window n small is = ap (λ k. get_or names k Blocks) (sym is)
same_rank Low n small is = ap (λ k. get_or names k Blocks) (sym is)
same_rank FlashPages n small is = absurd (omega (arith, is, small))
same_rank CacheWays n small is = absurd (omega (arith, is, small))

pub value_at : (g : Geometry) (n : ℕ) → n < 9 → get_or (values g) n 0 ≡ value_of g (get_or names n Blocks)
value_at g zero small = refl
value_at g (suc zero) small = refl
value_at g (suc (suc zero)) small = refl
value_at g (suc (suc (suc zero))) small = refl
value_at g (suc (suc (suc (suc zero)))) small = refl
value_at g (suc (suc (suc (suc (suc zero))))) small = refl
value_at g (suc (suc (suc (suc (suc (suc zero)))))) small = refl
value_at g (suc (suc (suc (suc (suc (suc (suc zero))))))) small = refl
value_at g (suc (suc (suc (suc (suc (suc (suc (suc zero)))))))) small = refl
value_at g (suc (suc (suc (suc (suc (suc (suc (suc (suc n))))))))) small = absurd (omega (arith, small))

pub rank_at : (n : ℕ) → n < 9 → rank_of (get_or names n Blocks) ≡ n
rank_at zero small = refl
rank_at (suc zero) small = refl
rank_at (suc (suc zero)) small = refl
rank_at (suc (suc (suc zero))) small = refl
rank_at (suc (suc (suc (suc zero)))) small = refl
rank_at (suc (suc (suc (suc (suc zero))))) small = refl
rank_at (suc (suc (suc (suc (suc (suc zero)))))) small = refl
rank_at (suc (suc (suc (suc (suc (suc (suc zero))))))) small = refl
rank_at (suc (suc (suc (suc (suc (suc (suc (suc zero)))))))) small = refl
rank_at (suc (suc (suc (suc (suc (suc (suc (suc (suc n))))))))) small = absurd (omega (arith, small))

-- one more number is within its bounds
pub one_more : (g : Geometry) (n : ℕ) → n < 9 → AreAllowedBelow g n
    → IsAllowed (get_or names n Blocks) (get_or (values g) n 0) → AreAllowedBelow g (n + 1)
one_more g n small before allowed name below = elim (cases_lt (rank_of name) n) [
  | inl less ↦ before name less
  | inr from_on ↦
      let at : get_or names n Blocks ≡ name = same_rank name n small (omega (arith, below, from_on)) in
      subst (λ (m : LimitName). IsAllowed m (value_of g m)) at
      (subst (λ (v : ℕ). IsAllowed (get_or names n Blocks) v) (value_at g n small) allowed)
]

-- a number is broken, and those before it are not
pub one_broken : (g : Geometry) (n : ℕ) (limit : Limit) → n < 9 → AreAllowedBelow g n
    → limit.name ≡ get_or names n Blocks → limit.value ≡ get_or (values g) n 0
    → limit.least ≡ least_of (get_or names n Blocks) → limit.greatest ≡ greatest_of (get_or names n Blocks)
    → (IsAllowed (get_or names n Blocks) (get_or (values g) n 0) → ⊥) → IsFirstBroken g limit
one_broken g n limit small before is value least greatest broken =
    let at = value_at g n small in
    first_broken g (get_or names n Blocks) limit
    (subst (λ (k : ℕ). AreAllowedBelow g k) (sym (rank_at n small)) before)
    (λ allowed. broken (subst (λ (v : ℕ). IsAllowed (get_or names n Blocks) v) (sym at) allowed))
    (same_limit limit (limit_of g (get_or names n Blocks)) is (value ∙ at) least greatest)
