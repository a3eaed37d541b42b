-- The bounds of a geometry's numbers.
use Rattle.std.specs.Prelude.{ℕ, ◌*◌, ◌-◌, ◌<◌, ◌≤◌, ◌≡◌}
use Rattle.ff_base.specs.declared.geometry.Geometry.{Geometry}
use Rattle.ff_base.specs.declared.limits.Limit.{Limit}
use Rattle.ff_base.specs.declared.limits.LimitName.{LimitName}
use Rattle.ff_base.specs.declared.limits.LimitName.TheVariants.{Blocks, PerBlock, Pages, Sets, Ways, Frames, Plb, Window, Low, FlashPages, CacheWays}

-- the least value that a number may have
abbrev pub least_of : LimitName → ℕ
least_of Blocks = 3
least_of PerBlock = 2
least_of Pages = 1
least_of Sets = 1
least_of Ways = 1
least_of Frames = 0
least_of Plb = 1
least_of Window = 1
least_of Low = 1
least_of FlashPages = 6
least_of CacheWays = 1

-- the greatest value that a number may have
abbrev pub greatest_of : LimitName → ℕ
greatest_of Blocks = 4096
greatest_of PerBlock = 256
greatest_of Pages = 65536
greatest_of Sets = 4096
greatest_of Ways = 16
greatest_of Frames = 4096
greatest_of Plb = 64
greatest_of Window = 64
greatest_of Low = 8
greatest_of FlashPages = 16384
greatest_of CacheWays = 4096

-- a number of the geometry; the last two are products
abbrev pub value_of : Geometry → LimitName → ℕ
value_of g Blocks = g.blocks
value_of g PerBlock = g.per_block
value_of g Pages = g.pages
value_of g Sets = g.sets
value_of g Ways = g.ways
value_of g Frames = g.frames
value_of g Plb = g.plb
value_of g Window = g.window
value_of g Low = g.low
value_of g FlashPages = g.blocks * g.per_block
value_of g CacheWays = g.sets * g.ways

-- a number is within its bounds
pub record IsWithin (value least greatest : ℕ) : Type 0 where
  pub low : least ≤ value
  pub high : value ≤ greatest

-- a value is within the bounds of the number of this name
abbrev pub IsAllowed : LimitName → ℕ → Type 0
IsAllowed name value = IsWithin value (least_of name) (greatest_of name)

-- every number of the geometry, and the products, are within their bounds
pub record IsWithinLimits (g : Geometry) : Type 0 where
  pub blocks : IsAllowed Blocks g.blocks
  pub per_block : IsAllowed PerBlock g.per_block
  pub pages : IsAllowed Pages g.pages
  pub sets : IsAllowed Sets g.sets
  pub ways : IsAllowed Ways g.ways
  pub frames : IsAllowed Frames g.frames
  pub plb : IsAllowed Plb g.plb
  pub window : IsAllowed Window g.window
  pub low : IsAllowed Low g.low
  pub flash_pages : IsAllowed FlashPages (g.blocks * g.per_block)
  pub cache_ways : IsAllowed CacheWays (g.sets * g.ways)

-- a number of the geometry, with its bounds
abbrev pub limit_of : Geometry → LimitName → Limit
limit_of g name =
    record { name = name; value = value_of g name; least = least_of name; greatest = greatest_of name }

-- the position of a name in the order in which the numbers are looked at
abbrev pub rank_of : LimitName → ℕ
rank_of Blocks = 0
rank_of PerBlock = 1
rank_of Pages = 2
rank_of Sets = 3
rank_of Ways = 4
rank_of Frames = 5
rank_of Plb = 6
rank_of Window = 7
rank_of Low = 8
rank_of FlashPages = 9
rank_of CacheWays = 10

-- the numbers before this position are within their bounds
abbrev pub AreAllowedBelow : Geometry → ℕ → Type 0
AreAllowedBelow g count =
    (name : LimitName) → rank_of name < count → IsAllowed name (value_of g name)

-- the first number that is out of its bounds
pub record IsFirstBroken (g : Geometry) (limit : Limit) : Type 0 where
  pub told : limit ≡ limit_of g limit.name
  pub broken : IsAllowed limit.name limit.value → ⊥
  pub first : (name : LimitName) → rank_of name < rank_of limit.name → IsAllowed name (value_of g name)

-- all pages of all blocks but one, and one page less
abbrev pub capacity_of : Geometry → ℕ
capacity_of g = (g.blocks - 1) * g.per_block - 1

-- the geometry of a run whose settings name no number
abbrev pub default_geometry : Geometry
default_geometry =
    record { blocks = 8; per_block = 4; pages = 16; sets = 1; ways = 4; frames = 4; plb = 2; window = 4; low = 1 }
